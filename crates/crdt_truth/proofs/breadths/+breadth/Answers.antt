use Rattle.std.proofs.Common.{ap, arith}
use Rattle.crdt_truth.specs.Breadths.{arms_breadth}
use Rattle.crdt_truth.specs.Readings.{parts_view}
use Rattle.crdt_truth.proofs.ListValues.{fo_nodes_at, arm_nodes_at, arms_from}
use Rattle.crdt_truth.proofs.breadths.+breadth.Goals as goal

pub breadths-breadth-requires : goal.breadths-breadth-requires
breadths-breadth-requires t c =
    let less = fo_nodes_at c.args.parts.now c.loop-part.part-index c.part-item.result c.loop-part-test.true c.part-item.is in
    (omega (arith, less), omega arith)

pub arms_breadth-breadth-requires : goal.arms_breadth-breadth-requires
arms_breadth-breadth-requires t c =
    let less = arm_nodes_at c.args.arms.now c.loop-arm.arm-index c.arm-item.result c.loop-arm-test.true c.arm-item.is in
    (omega (arith, less), omega arith)

pub arms_breadth-loop-arm-preserved : goal.arms_breadth-loop-arm-preserved
arms_breadth-loop-arm-preserved t c =
    let s = parts_view c.args.r.now in
    let split = ap (arms_breadth s) (arms_from c.args.arms.now c.loop-arm.arm-index c.arm-item.result c.loop-arm-test.true c.arm-item.is) in
    record { all = omega (arith, split); fits = omega arith }
