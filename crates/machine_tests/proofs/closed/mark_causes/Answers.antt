use Rattle.std.proofs.Common.{◌≡◌, ◌-◌, length, subst, arith}
use Rattle.crdt_defs.specs.Calls.{calls_view}
use Rattle.crdt_defs.specs.Snapshots.{bit}
use Rattle.event_machine.specs.Machine as spec
use Rattle.machine_tests.specs.means.Causes.{AreCausesFrom}
use Rattle.machine_tests.proofs.ClosedLemmas.{causes_are}
use Rattle.machine_tests.proofs.closed.mark_causes.Goals as goal

pub returns-clause-causes : goal.returns-clause-causes
returns-clause-causes c =
    let h = calls_view c.args.h.now in
    let seen = spec.calls_of h c.args.sees.now in
    let none_left : length h - c.loop-i.i ≡ 0 = omega (arith, c.len-i-end.ensures.seen) in
    causes_are h seen (bit c.loop-i.row) (subst (λ k. AreCausesFrom h seen k (bit c.loop-i.row)) none_left c.loop-i.invariant.causes)
