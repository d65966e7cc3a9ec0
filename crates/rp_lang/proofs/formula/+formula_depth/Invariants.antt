use Rattle.std.proofs.Common.{◌≤◌, ◌↔◌, drop}
use Rattle.rp_lang.specs.Sizes.{fos_depth, arms_depth}
use Rattle.rp_lang.specs.Views.{formulas_view, arms_view}
use Rattle.rp_lang.proofs.formula.+formula_depth.Given as goal

abbrev pub invariant-are_within-loop-part : goal.invariant-are_within-loop-part
invariant-are_within-loop-part l = (fos_depth (formulas_view l.parts) ≤ l.limit) ↔ (fos_depth (formulas_view (drop l.part-index l.parts)) ≤ l.limit)

abbrev pub invariant-arms_are_within-loop-arm : goal.invariant-arms_are_within-loop-arm
invariant-arms_are_within-loop-arm l = (arms_depth (arms_view l.arms) ≤ l.limit) ↔ (arms_depth (arms_view (drop l.arm-index l.arms)) ≤ l.limit)
