use Rattle.std.proofs.Common.{◌≡◌, length}
use Rattle.rp_value.specs.ValueView.{value_view}
use Rattle.crdt_defs.specs.Calls.{calls_view}
use Rattle.crdt_defs.specs.Snapshots.{bit}
use Rattle.crdt_defs.specs.Doing as spec
use Rattle.crdt_defs.specs.Meaning.{among}
use Rattle.crdt_lib.proofs.PickedLemmas.{AreThose}
use Rattle.crdt_lib.proofs.picked.pick.Given as goal

abbrev pub invariant-loop-c : goal.invariant-loop-c
invariant-loop-c l = record {
  room : length l.list ≡ 16384;
  those : AreThose (among (calls_view l.h) (bit l.counted) (spec.does l.ops l.kind (value_view l.x))) l.c l.list l.picked;
}
