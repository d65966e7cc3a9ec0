use Rattle.std.proofs.Common.{map, arith}
use Rattle.rp_lang.specs.ProgramView.{program_view}
use Rattle.rp_logic.specs.Views.{formula_view}
use Rattle.place_axioms.specs.means.Below.{of_op}
use Rattle.place_axioms.proofs.Next.{each_more}
use Rattle.place_axioms.proofs.places.push_ops.Goals as goal

pub loop-op-preserved : goal.loop-op-preserved
loop-op-preserved c = (
  omega arith,
  each_more (of_op (program_view c.args.p.now)) c.args.ops.now c.loop-op.op-index c.loop-op.n c.op-item.result
      (map formula_view c.loop-op.axioms) (map formula_view c.push_op.new.axioms) _ c.loop-op.invariant.0 c.loop-op-test.true c.op-item.is
      c.loop-op.invariant.1 c.in_ok-push_op.ensures,
)
