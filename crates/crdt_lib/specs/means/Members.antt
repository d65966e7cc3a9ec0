-- The members of a view that is a consistent snapshot, counted call by call.
use Rattle.std.specs.Prelude.{◌≡◌, ℕ, zero, suc, ◌+◌, ◌<◌, Bool, true, false, ◌&&◌, List, length, Option, Some, None, slice_get}
use Rattle.std.specs.List.{list_all}
use Rattle.std.specs.Ordering.{nat_cmp}
use Rattle.std.specs.FinSet as set
use Rattle.crdt_defs.specs.Calls.{Call}
use Rattle.crdt_defs.specs.Histories.{call_is, past_of}
use Rattle.crdt_defs.specs.Snapshots.{bit}

-- c is committed, and its past is visible
abbrev pub caused_at : List Call → List Bool → (ℕ → Bool) → ℕ → Bool
caused_at h committed visible c =
    call_is h (λ call. bit committed call.tx) c && list_all visible (past_of (slice_get h c))

-- the set without the numbers below n
abbrev pub without : set.FinSet nat_cmp → ℕ → set.FinSet nat_cmp
without s zero = s
without s (suc n) = set.remove (without s n) n

-- each member below n is committed with its past visible, and there are so many
pub record AreCausedBelow (h : List Call) (committed : List Bool) (s : set.FinSet nat_cmp) (n members : ℕ) : Type 0 where
  pub counted : members + set.len (without s n) ≡ set.len s
  pub caused : (k : ℕ) → k < n → set.contains s k ≡ true → caused_at h committed (set.contains s) k ≡ true

-- there are so many members below the length, all committed with their pasts visible; or some member isn't
abbrev pub AreCaused : List Call → List Bool → set.FinSet nat_cmp → Option ℕ → Type 0
AreCaused h committed s (Some members) = AreCausedBelow h committed s (length h) members
AreCaused h committed s None = (k : ℕ) × (set.contains s k ≡ true) × (caused_at h committed (set.contains s) k ≡ false)
