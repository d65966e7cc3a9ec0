use Rattle.std.proofs.Common.{◌≡◌, take, map}
use Rattle.rp_logic.specs.Instance.{instance_at}
use Rattle.rp_logic.specs.Views.{term_view, formula_view}
use Rattle.rp_logic.proofs.substitution.+in_formula.Given as goal

abbrev pub invariant-in_formulas-loop-f : goal.invariant-in_formulas-loop-f
invariant-in_formulas-loop-f l =
    map formula_view l.made ≡ map (λ f. instance_at l.k (term_view l.t) (formula_view f)) (take l.f-index l.formulas)
