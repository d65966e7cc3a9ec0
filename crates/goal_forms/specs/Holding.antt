-- What the laws say together.
use Rattle.std.specs.Prelude.{◌≡◌, ◌↔◌, ℕ, ◌<◌, ◌≤◌, Bool, false, []}
use Rattle.rp_lang.specs.Programs.{Inv, Prog}
use Rattle.crdt_defs.specs.Snapshots.{IsSnapshot}
use Rattle.crdt_defs.specs.Truths.{truth}
use Rattle.event_machine.specs.Machine.{empty, at_snapshot}
use Rattle.event_machine.specs.LocalSafety.{HoldsAt}
use Rattle.event_machine.specs.WellFormed.{At}
use Rattle.rp_logic.specs.Truth.{Meaning, Holds, AllTrue}
use Rattle.rp_symbols.specs.Numbers.{old_rel, part_rel, seen_rel}
use Rattle.hist_struct.specs.Snapshots.{before_at}
use Rattle.hist_struct.specs.Steps.{Step, begins, is_done, is_part, is_seen, step_of}
use Rattle.hist_struct.specs.Structure.{sig_at, meaning_of}
use Rattle.goal_forms.specs.Claims.{invariants_at, denied}
use Rattle.goal_forms.specs.Given.{given_at_start}
use Rattle.goal_forms.specs.Moves.{NoneCommitted, NobodyThere, AllWere, CommitsStay, none_committed, nobody_there, all_were, commits_stay}

-- invariants at the snapshots of the state before, and the denied one at the snapshot after
pub record AreClaims (x : Step) (M : Meaning) : Type 0 where
  pub old : AllTrue M (invariants_at x.program (before_at old_rel)) ↔ HoldsAt x.program x.old (is_done x.old)
  pub part : AllTrue M (invariants_at x.program (before_at part_rel)) ↔ HoldsAt x.program x.old (is_part x)
  pub seen : (k : ℕ) → k < begins x
      → AllTrue M (invariants_at x.program (before_at (seen_rel x.program k))) ↔ HoldsAt x.program x.old (is_seen x.old x.inv k)
  pub denied_is : (k : ℕ) (claim : Inv) → At x.program.invs k claim
      → Holds M [] (denied x.program claim) ↔ (truth (at_snapshot x.program x.new x.snapshot) [] claim.body ≡ false)

-- what the step moved
pub record AreMoves (x : Step) (M : Meaning) : Type 0 where
  pub none_committed_is : Holds M [] none_committed ↔ NoneCommitted x
  pub nobody_there_is : Holds M [] nobody_there ↔ NobodyThere x
  pub all_were_is : Holds M [] all_were ↔ AllWere x
  pub commits_stay_is : AllTrue M commits_stay ↔ CommitsStay x

-- the start in a universe, with a snapshot
abbrev pub start_with : Prog → ℕ → (ℕ → Bool) → Step
start_with p universe seen = step_of p (empty universe) (empty universe) 0 seen 0 [] []

-- all given formulas of an invariant's goal at the start
abbrev pub IsStartExact : Prog → Inv → Type 0
IsStartExact p claim =
    (universe : ℕ) (seen : ℕ → Bool) → 1 ≤ universe → IsSnapshot [] [] seen
    → AllTrue (meaning_of (sig_at (start_with p universe seen) []) (start_with p universe seen)) (given_at_start p claim)
    ↔ (truth (at_snapshot p (empty universe) seen) [] claim.body ≡ false)
