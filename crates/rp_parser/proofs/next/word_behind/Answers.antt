use Rattle.std.proofs.Common.{rules, ap, ◌∙◌}
use Rattle.rp_tokens.specs.MachineStates.{is_word}
use Rattle.rp_parser.specs.means.Marks.{terminal_of, toks, next_is_word}
use Rattle.rp_parser.proofs.Steps.{not_word}
use Rattle.rp_parser.proofs.next.word_behind.Goals as goal

pub returns-else-eq-clause-next : goal.returns-else-eq-clause-next
returns-else-eq-clause-next c =
    ap (λ ms. next_is_word c.args.word (toks ms)) c.in-Some.ensures.cases.0
    ∙ ap (λ kd. is_word c.args.word (terminal_of kd)) c.in-Word.is
    ∙ not_word c.args.word c.in-Word.found (λ e. search (rules, e, c.if-eq.false, c.eq.ensures))
