use Rattle.std.proofs.Common.{◌≡◌, true, [], subst, sym, IfOk, Result, Ok, Err}
use Rattle.rp_logic.specs.declared.formula.Fml.{Fml}
use Rattle.rp_logic.specs.Terms.{Tm, is_closed}
use Rattle.rp_logic.specs.Formulas.{Fm}
use Rattle.rp_logic.specs.Instance.{instance_at}
use Rattle.rp_logic.specs.Truth.{IsInstance}
use Rattle.rp_logic.specs.Views.{term_view, formula_view}
use Rattle.rp_logic.proofs.InstanceLaws.{instance_law}
use Rattle.rp_logic.proofs.substitution.substitute.Goals as goal

is_instance : {E : Type 0} (r : Result Fml E) (t : Tm) (f : Fm) → IfOk r (λ g. formula_view g ≡ instance_at 0 t f) → is_closed t ≡ true
    → IfOk r (λ g. IsInstance (formula_view g) t f)
is_instance (Ok g) t f h closed = subst (λ x. IsInstance x t f) (sym h) (λ M vars. instance_law f M [] vars t closed)
is_instance (Err e) t f h closed = tt

pub returns-clause-truth : goal.returns-clause-truth
returns-clause-truth c = is_instance c.in_formula.result (term_view c.args.t.now) (formula_view c.args.f.now) c.in_formula.ensures
