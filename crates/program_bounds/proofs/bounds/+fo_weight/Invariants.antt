use Rattle.std.proofs.Common.{◌≡◌, ◌+◌, ◌≤◌, min, drop}
use Rattle.rp_lang.specs.Bounds.{fos_weight, arms_weight}
use Rattle.program_bounds.specs.UsesView.{uses_view}
use Rattle.rp_lang.specs.Views.{formulas_view, arms_view}
use Rattle.program_bounds.proofs.bounds.+fo_weight.Given as goal

abbrev pub invariant-fos_weight-loop-part : goal.invariant-fos_weight-loop-part
invariant-fos_weight-loop-part l = record {
  all : min (fos_weight l.cons (uses_view l.uses) (formulas_view l.parts)) 100001
      ≡ min (l.sum + fos_weight l.cons (uses_view l.uses) (formulas_view (drop l.part-index l.parts))) 100001;
  fits : l.sum ≤ 100001;
}

abbrev pub invariant-arms_weight-loop-arm : goal.invariant-arms_weight-loop-arm
invariant-arms_weight-loop-arm l = record {
  all : min (arms_weight l.cons (uses_view l.uses) l.each (arms_view l.arms)) 100001
      ≡ min (l.sum + arms_weight l.cons (uses_view l.uses) l.each (arms_view (drop l.arm-index l.arms))) 100001;
  fits : l.sum ≤ 100001;
}
