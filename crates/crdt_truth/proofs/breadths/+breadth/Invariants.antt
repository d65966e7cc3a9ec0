use Rattle.std.proofs.Common.{◌≡◌, ◌≤◌, ◌+◌, ◌*◌, min, drop}
use Rattle.rp_lang.specs.Sizes.{fo_nodes, fos_nodes, arms_nodes}
use Rattle.rp_lang.specs.Views.{formula_view, formulas_view, arms_view}
use Rattle.crdt_truth.specs.Breadths.{breadths, arms_breadth}
use Rattle.crdt_truth.specs.Readings.{parts_view}
use Rattle.crdt_truth.proofs.breadths.+breadth.Given as goal

abbrev pub decreases-breadth : goal.decreases-breadth
decreases-breadth l = 2 * fo_nodes (formula_view l.f.now)

abbrev pub decreases-breadths : goal.decreases-breadths
decreases-breadths l = 2 * fos_nodes (formulas_view l.parts.now) + 1

abbrev pub decreases-arms_breadth : goal.decreases-arms_breadth
decreases-arms_breadth l = 2 * arms_nodes (arms_view l.arms.now) + 1

abbrev pub invariant-breadths-loop-part : goal.invariant-breadths-loop-part
invariant-breadths-loop-part l = record {
  all : min (breadths (parts_view l.r) (formulas_view l.parts)) 18446744073709551615 ≡ min (l.sum + breadths (parts_view l.r) (formulas_view (drop l.part-index l.parts))) 18446744073709551615;
  fits : l.sum ≤ 18446744073709551615;
}

abbrev pub invariant-arms_breadth-loop-arm : goal.invariant-arms_breadth-loop-arm
invariant-arms_breadth-loop-arm l = record {
  all : min (arms_breadth (parts_view l.r) (arms_view l.arms)) 18446744073709551615 ≡ min (l.sum + arms_breadth (parts_view l.r) (arms_view (drop l.arm-index l.arms))) 18446744073709551615;
  fits : l.sum ≤ 18446744073709551615;
}
