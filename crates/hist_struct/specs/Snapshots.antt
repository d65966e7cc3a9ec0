-- Where formulas are meant in the structure of a step, and which of its sets of calls are snapshots of the state before.
use Rattle.std.specs.Prelude.{◌≡◌, ℕ, ◌<◌, Bool, List, Option, Some, slice_get}
use Rattle.rp_value.specs.Values.{Val}
use Rattle.rp_lang.specs.Programs.{Prog}
use Rattle.crdt_defs.specs.Snapshots.{IsSnapshot}
use Rattle.crdt_defs.specs.Truths.{Reading}
use Rattle.event_machine.specs.Machine.{State, plain}
use Rattle.event_machine.specs.WellFormed.{commits_of}
use Rattle.rp_symbols.specs.Numbers.{old_rel, new_rel, was_rel, there_rel, old_result_fn, new_result_fn, part_rel, seen_rel, read_rel, added_rel, snapshot_rel}
use Rattle.rp_logic.specs.Truth.{Meaning}
use Rattle.crdt_enc.specs.Places.{At}
use Rattle.crdt_enc.specs.FitsParts.{FitsView}
use Rattle.crdt_enc.specs.Stages.{Stage}
use Rattle.hist_struct.specs.Steps.{Step, begins, is_done, is_seen, is_read, is_part}

-- at the state before the step
abbrev pub before_at : ℕ → At
before_at view = record { view = view; calls = old_rel; invs = was_rel; results = old_result_fn }

-- at the state after it
abbrev pub after_at : ℕ → At
after_at view = record { view = view; calls = new_rel; invs = there_rel; results = new_result_fn }

-- the calls committed before the step, what the invocation sees from each begin on, and V are snapshots of the state before
pub record AreSnapshots (x : Step) : Type 0 where
  pub old : IsSnapshot x.old.calls (commits_of x.old.txs) (is_done x.old)
  pub seen : (k : ℕ) → IsSnapshot x.old.calls (commits_of x.old.txs) (is_seen x.old x.inv k)
  pub part : IsSnapshot x.old.calls (commits_of x.old.txs) (is_part x)

-- The structure's sets are those, and what is read right after each begin and after further own calls: at the state before,
-- and for the snapshot at the state after.
pub record AreViews (x : Step) (M : Meaning) : Type 0 where
  pub old : FitsView M x.old.calls old_rel (is_done x.old)
  pub part : FitsView M x.old.calls part_rel (is_part x)
  pub seen : (k : ℕ) → k < begins x → FitsView M x.old.calls (seen_rel x.program k) (is_seen x.old x.inv k)
  pub read : (k : ℕ) → k < begins x → FitsView M x.old.calls (read_rel x.program k) (is_read x.old x.inv k)
  pub added : (j : ℕ) (set : ℕ → Bool) → slice_get x.reads j ≡ Some set → FitsView M x.old.calls (added_rel x.program (begins x) j) set
  pub snapshot : FitsView M x.new.calls snapshot_rel x.snapshot

-- # What formulas read

-- the state, at these visible calls and with these slots
abbrev pub reading : Prog → State → (ℕ → Bool) → List (Option Val) → Reading
reading p s visible slots = record { program = p; parts = plain s; visible = visible; slots = slots }

-- At each set of calls that formulas take for a snapshot the structure is a stage for them: at the state before, and for the
-- snapshot at the state after.
pub record AreStages (x : Step) (M : Meaning) (slots : List (Option Val)) : Type 0 where
  pub old : Stage (reading x.program x.old (is_done x.old) slots) M (before_at old_rel)
  pub part : Stage (reading x.program x.old (is_part x) slots) M (before_at part_rel)
  pub seen : (k : ℕ) → k < begins x → Stage (reading x.program x.old (is_seen x.old x.inv k) slots) M (before_at (seen_rel x.program k))
  pub read : (k : ℕ) → k < begins x → Stage (reading x.program x.old (is_read x.old x.inv k) slots) M (before_at (read_rel x.program k))
  pub added : (j : ℕ) (set : ℕ → Bool) → slice_get x.reads j ≡ Some set
      → Stage (reading x.program x.old set slots) M (before_at (added_rel x.program (begins x) j))
  pub snapshot : Stage (reading x.program x.new x.snapshot slots) M (after_at snapshot_rel)
