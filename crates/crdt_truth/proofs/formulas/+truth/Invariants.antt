use Rattle.std.proofs.Common.{◌≡◌, ◌+◌, ◌*◌, ◌&&◌, ◌||◌, not, true, false, drop, ◌∷◌}
use Rattle.rp_value.specs.ValueView.{value_view}
use Rattle.rp_lang.specs.Sizes.{fo_nodes, fos_nodes, arms_nodes}
use Rattle.rp_lang.specs.Views.{formula_view, formulas_view, arms_view}
use Rattle.crdt_defs.specs.Counting.{all_below, any_below}
use Rattle.crdt_defs.specs.Parts.{is_in_range, member}
use Rattle.crdt_defs.specs.Truths as spec
use Rattle.crdt_truth.specs.Open.{binders_view}
use Rattle.crdt_truth.specs.Readings.{parts_view, reading_view}
use Rattle.crdt_truth.specs.Within.{ArmWithin}
use Rattle.crdt_truth.proofs.formulas.+truth.Given as goal

abbrev pub decreases-truth : goal.decreases-truth
decreases-truth l = 4 * fo_nodes (formula_view l.f.now)

abbrev pub decreases-all_true : goal.decreases-all_true
decreases-all_true l = 4 * fos_nodes (formulas_view l.parts.now) + 1

abbrev pub decreases-any_true : goal.decreases-any_true
decreases-any_true l = 4 * fos_nodes (formulas_view l.parts.now) + 1

abbrev pub decreases-is_kept : goal.decreases-is_kept
decreases-is_kept l = 4 * fo_nodes (formula_view l.body.now) + 1

abbrev pub decreases-is_met : goal.decreases-is_met
decreases-is_met l = 4 * fo_nodes (formula_view l.body.now) + 1

abbrev pub decreases-each_true : goal.decreases-each_true
decreases-each_true l = 4 * fo_nodes (formula_view l.body.now) + 2

abbrev pub decreases-some_true : goal.decreases-some_true
decreases-some_true l = 4 * fo_nodes (formula_view l.body.now) + 2

abbrev pub decreases-arm_true : goal.decreases-arm_true
decreases-arm_true l = 4 * arms_nodes (arms_view l.arms.now) + 1

abbrev pub invariant-all_true-loop-part : goal.invariant-all_true-loop-part
invariant-all_true-loop-part l =
    spec.all_true (reading_view l.r) (binders_view l.binders) (formulas_view l.parts) ≡ spec.all_true (reading_view l.r) (binders_view l.binders) (formulas_view (drop l.part-index l.parts))

abbrev pub invariant-any_true-loop-part : goal.invariant-any_true-loop-part
invariant-any_true-loop-part l =
    spec.any_true (reading_view l.r) (binders_view l.binders) (formulas_view l.parts) ≡ spec.any_true (reading_view l.r) (binders_view l.binders) (formulas_view (drop l.part-index l.parts))

abbrev pub invariant-each_true-loop-n : goal.invariant-each_true-loop-n
invariant-each_true-loop-n l =
    all_below (λ n. not (is_in_range (parts_view l.r) l.over n) || spec.truth (reading_view l.r) (member l.over n ∷ binders_view l.binders) (formula_view l.body)) l.n ≡ true

abbrev pub invariant-some_true-loop-n : goal.invariant-some_true-loop-n
invariant-some_true-loop-n l =
    any_below (λ n. is_in_range (parts_view l.r) l.over n && spec.truth (reading_view l.r) (member l.over n ∷ binders_view l.binders) (formula_view l.body)) l.n ≡ false

abbrev pub invariant-arm_true-loop-arm : goal.invariant-arm_true-loop-arm
invariant-arm_true-loop-arm l = record {
  same : spec.arm_true (reading_view l.r) (binders_view l.binders) (value_view l.on) (arms_view l.arms) ≡ spec.arm_true (reading_view l.r) (binders_view l.binders) (value_view l.on) (arms_view (drop l.arm-index l.arms));
  within : ArmWithin (reading_view l.r) (binders_view l.binders) (value_view l.on) (arms_view (drop l.arm-index l.arms));
}
