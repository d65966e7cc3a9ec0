-- Of each transaction its calls, as lists by its number.
use Rattle.std.specs.Prelude.{◌≡◌, ◌<◌, ℕ, false, nat_eq, if◌then◌else◌, List, [], ◌∷◌, ◌++◌, Some, slice_get}
use Rattle.std.specs.List.{list_any}
use Rattle.std.specs.Option.{option_map_or}
use Rattle.crdt_defs.specs.Calls.{Call}
use Rattle.event_machine.specs.Machine.{is_in, own_calls}

-- the list at the place, or none of its numbers
abbrev pub listed_at : List (List ℕ) → ℕ → List ℕ
listed_at lists place = option_map_or (λ list. list) (slice_get lists place) []

-- the list at each place, where x came to the end of the one at `at`
abbrev pub with_number : (ℕ → List ℕ) → (at x : ℕ) → ℕ → List ℕ
with_number lists at x place = if nat_eq at place then lists place ++ x ∷ [] else lists place

-- each transaction's list has the numbers of its calls, and no call has a stamp above the top
pub record IsIndexed (calls : List Call) (lists : List (List ℕ)) (top : ℕ) : Type 0 where
  pub each : (tx n : ℕ) → is_in (listed_at lists tx) n ≡ own_calls calls (Some tx) n
  pub stamps : (stamp : ℕ) → top < stamp → list_any (λ call. nat_eq call.stamp stamp) calls ≡ false
