use Rattle.std.proofs.Common.{◌≡◌, length}
use Rattle.crdt_defs.specs.Calls.{calls_view}
use Rattle.crdt_defs.specs.Snapshots.{bit}
use Rattle.crdt_defs.specs.Doing as spec
use Rattle.crdt_defs.specs.Meaning.{among}
use Rattle.crdt_lib.proofs.PickedLemmas.{AreThose}
use Rattle.crdt_lib.proofs.picked.pick_kind.Given as goal

abbrev pub invariant-loop-c : goal.invariant-loop-c
invariant-loop-c l = record {
  room : length l.list ≡ 16384;
  those : AreThose (among (calls_view l.h) (bit l.counted) (spec.is_of l.ops l.kind)) l.c l.list l.picked;
}
