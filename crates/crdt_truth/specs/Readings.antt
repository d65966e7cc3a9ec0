-- What the code reads, as the definitions of truth speak of it.
use Rattle.std.specs.Prelude.{ℕ, Bool, List, map, option_map}
use Rattle.std.specs.Ordering.{nat_cmp}
use Rattle.std.specs.FinSet as set
use Rattle.rp_value.specs.ValueView.{value_view}
use Rattle.rp_lang.specs.ProgramView.{program_view}
use Rattle.crdt_defs.specs.Calls.{calls_view}
use Rattle.crdt_defs.specs.Parts as parts
use Rattle.crdt_defs.specs.Truths as truths
use Rattle.crdt_truth.specs.declared.reading.Info.{Info}
use Rattle.crdt_truth.specs.declared.reading.Outcome.{Outcome}
use Rattle.crdt_truth.specs.declared.reading.Outcome.TheVariants.{Unreturned, Returned, ReturnedWith}
use Rattle.crdt_truth.specs.declared.reading.Reading.{Reading}

abbrev pub outcome_view : Outcome → parts.Result
outcome_view Unreturned = parts.Unreturned
outcome_view Returned = parts.Returned
outcome_view (ReturnedWith v) = parts.ReturnedWith (value_view v)

abbrev pub info_view : Info → parts.Info
info_view info = record { proc = info.proc; args = map value_view info.args; result = outcome_view info.outcome }

abbrev pub parts_view : Reading → parts.Parts
parts_view r = record {
  universe = r.universe;
  calls = calls_view r.history.now;
  committed = r.committed.now;
  infos = map info_view r.infos.now;
}

-- the calls of a list
abbrev pub seen_in : List ℕ → ℕ → Bool
seen_in calls = let members : set.FinSet nat_cmp = set.from_list calls in set.contains members

abbrev pub reading_view : Reading → truths.Reading
reading_view r = record {
  program = program_view r.program.now;
  parts = parts_view r;
  visible = seen_in r.view.now;
  slots = map (option_map value_view) r.slots.now;
}
