use Rattle.std.proofs.Common.{arith, refl, Some, suc, ◌∙◌}
use Rattle.rp_grammar.specs.declared.terminal.Symbol.TheVariants as symbols
use Rattle.rp_grammar.specs.Terminals.{symbol}
use Rattle.rp_grammar.specs.Trees.{ExprForm}
use Rattle.rp_grammar.specs.Exprs.{between}
use Rattle.rp_tokens.specs.MachineStates.{to, more_implies}
use Rattle.rp_tokens.specs.MachineExprs.{want_expr}
use Rattle.rp_parser.specs.means.Marks.{toks}
use Rattle.rp_parser.proofs.Steps.{step_to}
use Rattle.rp_parser.proofs.Rests.{stands_past}
use Rattle.rp_parser.proofs.signs.implies_sign.Goals as goal

pub returns-in_default-clause-reads : goal.returns-in_default-clause-reads
returns-in_default-clause-reads c = λ o d h a k is. stands_past symbols.Implies _ (more_implies d a k) (k a) (λ x v. Some (to d (want_expr (suc d) (λ b. k (between ExprForm.implies a b))))) o c.in_default.ensures.next refl (λ x v. refl) is

pub returns-clause-reads : goal.returns-clause-reads
returns-clause-reads c = λ o d h a k is.
    c.in-Some.ensures.next (more_implies d a k) o is
    ∙ step_to (more_implies d a k) (want_expr (suc d) (λ b. k (between ExprForm.implies a b))) d (symbol symbols.Implies) c.in-Some.field-0-0 (toks c.in-Some.after.now) refl (omega (arith, h, c.in-Some.ensures.within c.args.depth c.requires))
