use Rattle.std.proofs.Common.{◌≡◌, ◌<◌, length, drop, reverse, slice_get, slice_set, Some}
use Rattle.machine_locals.specs.Slots.{filled}
use Rattle.machine_locals.proofs.SlotLemmas.{Fills}
use Rattle.machine_state.specs.declared.state.Run.{Run}
use Rattle.machine_locals.proofs.slots.fill.Given as goal

abbrev pub invariant-loop-slot : goal.invariant-loop-slot
invariant-loop-slot l = record {
  within : l.i < length l.runs;
  fills : (start : Run) → slice_get l.initial.runs l.i ≡ Some start
      → Fills l.runs l.i (drop l.slot-index l.slots) (reverse l.values) (slice_set l.initial.runs l.i (record start { slots = filled l.slots (reverse l.initial.values) start.slots }));
}
