use Rattle.std.proofs.Common.{arith, refl, Some, [], ◌∷◌, ◌++◌, ◌∙◌}
use Rattle.rp_grammar.specs.declared.terminal.Symbol.TheVariants as symbols
use Rattle.rp_grammar.specs.Terminals.{symbol}
use Rattle.rp_grammar.specs.Parts.{tree_of}
use Rattle.rp_tokens.specs.MachineStates.{to, more_exprs, more_expr_arms}
use Rattle.rp_tokens.specs.MachineExprs.{want_expr, want_expr_arm}
use Rattle.rp_parser.specs.means.Marks.{toks}
use Rattle.rp_parser.proofs.Steps.{step_to}
use Rattle.rp_parser.proofs.Rests.{stands_past}
use Rattle.rp_parser.proofs.signs.expr_comma.Goals as goal

pub returns-in_default-clause-exprs : goal.returns-in_default-clause-exprs
returns-in_default-clause-exprs c = λ o d h es k is. stands_past symbols.Comma _ (more_exprs d es k) (k es) (λ x v. Some (to d (want_expr d (λ e. more_exprs d (es ++ tree_of e ∷ []) k)))) o c.in_default.ensures.next refl (λ x v. refl) is

pub returns-clause-exprs : goal.returns-clause-exprs
returns-clause-exprs c = λ o d h es k is.
    c.in-Some.ensures.next (more_exprs d es k) o is
    ∙ step_to (more_exprs d es k) (want_expr d (λ e. more_exprs d (es ++ tree_of e ∷ []) k)) d (symbol symbols.Comma) c.in-Some.field-0-0 (toks c.in-Some.after.now) refl (omega (arith, h, c.in-Some.ensures.within c.args.depth c.requires))

pub returns-in_default-clause-arms : goal.returns-in_default-clause-arms
returns-in_default-clause-arms c = λ o d h as_ k is. stands_past symbols.Comma _ (more_expr_arms d as_ k) (k as_) (λ x v. Some (to d (want_expr_arm d (λ a. more_expr_arms d (as_ ++ a ∷ []) k)))) o c.in_default.ensures.next refl (λ x v. refl) is

pub returns-clause-arms : goal.returns-clause-arms
returns-clause-arms c = λ o d h as_ k is.
    c.in-Some.ensures.next (more_expr_arms d as_ k) o is
    ∙ step_to (more_expr_arms d as_ k) (want_expr_arm d (λ a. more_expr_arms d (as_ ++ a ∷ []) k)) d (symbol symbols.Comma) c.in-Some.field-0-0 (toks c.in-Some.after.now) refl (omega (arith, h, c.in-Some.ensures.within c.args.depth c.requires))
