use Rattle.std.proofs.Common.{◌≡◌, false}
use Rattle.std.specs.Prelude.{nat_eq}
use Rattle.crdt_defs.specs.Calls.{calls_view}
use Rattle.crdt_defs.specs.Counting.{any_below}
use Rattle.crdt_defs.specs.Histories.{call_is}
use Rattle.machine_tests.proofs.stamps.has_stamp.Given as goal

abbrev pub invariant-loop-c : goal.invariant-loop-c
invariant-loop-c l = any_below (call_is (calls_view l.h) (λ call. nat_eq call.stamp l.stamp)) l.c ≡ false
