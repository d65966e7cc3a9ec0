use Rattle.std.proofs.Common.{◌≡◌, take, map}
use Rattle.rp_logic.specs.Dual.{dual}
use Rattle.rp_logic.specs.Views.{formula_view}
use Rattle.rp_logic.proofs.negation.+dual.Given as goal

abbrev pub invariant-duals_of-loop-f : goal.invariant-duals_of-loop-f
invariant-duals_of-loop-f l = map formula_view l.made ≡ map (λ f. dual (formula_view f)) (take l.f-index l.formulas)
