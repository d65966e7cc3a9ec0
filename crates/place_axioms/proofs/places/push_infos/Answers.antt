use Rattle.std.proofs.Common.{map, arith}
use Rattle.rp_lang.specs.ProgramView.{program_view}
use Rattle.rp_lang.specs.Views.{proc_view}
use Rattle.rp_logic.specs.Views.{formula_view}
use Rattle.place_axioms.specs.means.Below.{of_info}
use Rattle.place_axioms.proofs.Next.{each_next}
use Rattle.place_axioms.proofs.places.push_infos.Goals as goal

pub loop-q-preserved : goal.loop-q-preserved
loop-q-preserved c = (
  omega arith,
  each_next (of_info (program_view c.args.p.now)) proc_view c.args.procs.now c.loop-q.q-index c.loop-q.n c.q-item.result
      (map formula_view c.loop-q.axioms) (map formula_view c.push_info.new.axioms) _ c.loop-q.invariant.0 c.loop-q-test.true c.q-item.is
      c.loop-q.invariant.1 c.in_ok-push_info.ensures,
)
