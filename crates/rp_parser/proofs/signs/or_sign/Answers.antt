use Rattle.std.proofs.Common.{arith, refl, Some, [], ◌∷◌, ◌++◌, ◌∙◌}
use Rattle.rp_grammar.specs.declared.terminal.Symbol.TheVariants as symbols
use Rattle.rp_grammar.specs.Terminals.{symbol}
use Rattle.rp_grammar.specs.Exprs.{or_part}
use Rattle.rp_tokens.specs.MachineStates.{to, more_or}
use Rattle.rp_tokens.specs.MachineExprs.{want_andx}
use Rattle.rp_parser.specs.means.Marks.{toks}
use Rattle.rp_parser.proofs.Steps.{step_to}
use Rattle.rp_parser.proofs.Rests.{stands_past}
use Rattle.rp_parser.proofs.signs.or_sign.Goals as goal

pub returns-in_default-clause-reads : goal.returns-in_default-clause-reads
returns-in_default-clause-reads c = λ o d h e es k is. stands_past symbols.Or _ (more_or d e es k) (k (or_part e es)) (λ x v. Some (to d (want_andx d (λ f. more_or d e (es ++ f ∷ []) k)))) o c.in_default.ensures.next refl (λ x v. refl) is

pub returns-clause-reads : goal.returns-clause-reads
returns-clause-reads c = λ o d h e es k is.
    c.in-Some.ensures.next (more_or d e es k) o is
    ∙ step_to (more_or d e es k) (want_andx d (λ f. more_or d e (es ++ f ∷ []) k)) d (symbol symbols.Or) c.in-Some.field-0-0 (toks c.in-Some.after.now) refl (omega (arith, h, c.in-Some.ensures.within c.args.depth c.requires))
