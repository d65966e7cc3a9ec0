use Rattle.std.proofs.Common.{◌≡◌, take, map}
use Rattle.rp_logic.specs.Dual.{dual}
use Rattle.rp_logic.specs.Views.{formula_view}
use Rattle.reshaped.specs.Shapes.{shaped}
use Rattle.reshaped.proofs.reshaping.+shape.Given as goal

abbrev pub invariant-shape_each-loop-f : goal.invariant-shape_each-loop-f
invariant-shape_each-loop-f l = map formula_view l.made ≡ map (λ f. shaped (formula_view f)) (take l.f-index l.formulas)

abbrev pub invariant-shape_denied-loop-f : goal.invariant-shape_denied-loop-f
invariant-shape_denied-loop-f l = map formula_view l.made ≡ map (λ f. dual (shaped (formula_view f))) (take l.f-index l.formulas)
