use Rattle.std.proofs.Common.{map, take}
use Rattle.rp_value.specs.ValueView.{value_view}
use Rattle.crdt_defs.specs.Fitting.{all_atoms}
use Rattle.machine_returns.specs.Known.{Extends, Knows}
use Rattle.machine_returns.proofs.known.+note.Given as goal

abbrev pub invariant-note_all-loop-value : goal.invariant-note_all-loop-value
invariant-note_all-loop-value l = record {
  extends : Extends l.initial.known l.known;
  knows : Knows l.initial.known (all_atoms (map value_view (take l.value-index l.values))) l.known;
}
