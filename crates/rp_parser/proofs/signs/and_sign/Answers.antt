use Rattle.std.proofs.Common.{arith, refl, Some, [], ◌∷◌, ◌++◌, ◌∙◌}
use Rattle.rp_grammar.specs.declared.terminal.Symbol.TheVariants as symbols
use Rattle.rp_grammar.specs.Terminals.{symbol}
use Rattle.rp_grammar.specs.Exprs.{and_part}
use Rattle.rp_tokens.specs.MachineStates.{to, want_operand, more_and}
use Rattle.rp_parser.specs.means.Marks.{toks}
use Rattle.rp_parser.proofs.Steps.{step_to}
use Rattle.rp_parser.proofs.Rests.{stands_past}
use Rattle.rp_parser.proofs.signs.and_sign.Goals as goal

pub returns-in_default-clause-reads : goal.returns-in_default-clause-reads
returns-in_default-clause-reads c = λ o d h e es k is. stands_past symbols.And _ (more_and d e es k) (k (and_part e es)) (λ x v. Some (to d (want_operand d (λ f. more_and d e (es ++ f ∷ []) k)))) o c.in_default.ensures.next refl (λ x v. refl) is

pub returns-clause-reads : goal.returns-clause-reads
returns-clause-reads c = λ o d h e es k is.
    c.in-Some.ensures.next (more_and d e es k) o is
    ∙ step_to (more_and d e es k) (want_operand d (λ f. more_and d e (es ++ f ∷ []) k)) d (symbol symbols.And) c.in-Some.field-0-0 (toks c.in-Some.after.now) refl (omega (arith, h, c.in-Some.ensures.within c.args.depth c.requires))
