use Rattle.std.proofs.Common.{rules, ap, ◌∙◌}
use Rattle.rp_tokens.specs.MachineStates.{is_symbol}
use Rattle.rp_parser.specs.means.Marks.{terminal_of, toks, next_is}
use Rattle.rp_parser.proofs.Steps.{not_symbol}
use Rattle.rp_parser.proofs.next.behind.Goals as goal

pub returns-else-eq-clause-next : goal.returns-else-eq-clause-next
returns-else-eq-clause-next c =
    ap (λ ms. next_is c.args.symbol (toks ms)) c.in-Some.ensures.cases.0
    ∙ ap (λ kd. is_symbol c.args.symbol (terminal_of kd)) c.in-Symbol.is
    ∙ not_symbol c.args.symbol c.in-Symbol.found (λ e. search (rules, e, c.if-eq.false, c.eq.ensures))
