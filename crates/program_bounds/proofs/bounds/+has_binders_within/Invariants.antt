use Rattle.std.proofs.Common.{◌≤◌, ◌↔◌, drop}
use Rattle.rp_lang.specs.Bounds.{fos_binders, arms_binders}
use Rattle.rp_lang.specs.Views.{formulas_view, arms_view}
use Rattle.program_bounds.proofs.bounds.+has_binders_within.Given as goal

abbrev pub invariant-have_binders_within-loop-part : goal.invariant-have_binders_within-loop-part
invariant-have_binders_within-loop-part l = (fos_binders l.cons (formulas_view l.parts) ≤ l.limit) ↔ (fos_binders l.cons (formulas_view (drop l.part-index l.parts)) ≤ l.limit)

abbrev pub invariant-arms_have_binders_within-loop-arm : goal.invariant-arms_have_binders_within-loop-arm
invariant-arms_have_binders_within-loop-arm l = (arms_binders l.cons (arms_view l.arms) ≤ l.limit) ↔ (arms_binders l.cons (arms_view (drop l.arm-index l.arms)) ≤ l.limit)
