use Rattle.std.proofs.Common.{◌≡◌, subst, sym, IfOk, Result, Ok, Err}
use Rattle.rp_logic.specs.declared.formula.Fml.{Fml}
use Rattle.rp_logic.specs.Formulas.{Fm}
use Rattle.rp_logic.specs.Dual.{dual}
use Rattle.rp_logic.specs.Truth.{IsDenial}
use Rattle.rp_logic.specs.Views.{formula_view}
use Rattle.rp_logic.proofs.DualLaws.{dual_law}
use Rattle.rp_logic.proofs.negation.negate.Goals as goal

denies : {E : Type 0} (r : Result Fml E) (f : Fm) → IfOk r (λ g. formula_view g ≡ dual f) → IfOk r (λ g. IsDenial (formula_view g) f)
denies (Ok g) f h = subst (λ x. IsDenial x f) (sym h) (dual_law f)
denies (Err e) f h = tt

pub returns-clause-denial : goal.returns-clause-denial
returns-clause-denial c = denies c.dual_of.result (formula_view c.args.f.now) c.dual_of.ensures
