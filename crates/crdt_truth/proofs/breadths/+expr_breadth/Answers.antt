use Rattle.std.proofs.Common.{arith}
use Rattle.crdt_truth.proofs.ListValues.{ex_nodes_at}
use Rattle.crdt_truth.proofs.breadths.+expr_breadth.Goals as goal

pub exprs_breadth-expr_breadth-requires : goal.exprs_breadth-expr_breadth-requires
exprs_breadth-expr_breadth-requires t c =
    let less = ex_nodes_at c.args.exprs.now c.loop-e.e-index c.e-item.result c.loop-e-test.true c.e-item.is in
    omega (arith, less)
