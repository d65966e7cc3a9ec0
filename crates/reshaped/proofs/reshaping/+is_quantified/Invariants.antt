use Rattle.std.proofs.Common.{◌≡◌, drop}
use Rattle.rp_logic.specs.Views.{formulas_view}
use Rattle.reshaped.specs.Shapes.{are_quantified}
use Rattle.reshaped.proofs.reshaping.+is_quantified.Given as goal

abbrev pub invariant-are_quantified-loop-f : goal.invariant-are_quantified-loop-f
invariant-are_quantified-loop-f l = are_quantified (formulas_view l.formulas) ≡ are_quantified (formulas_view (drop l.f-index l.formulas))
