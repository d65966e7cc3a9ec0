-- Of each invocation its committed calls.
use Rattle.std.specs.Prelude.{◌≡◌, ◌<◌, ℕ, Bool, false, not, ◌||◌, nat_eq, List, length, Option, Some, slice_get}
use Rattle.std.specs.List.{list_all}
use Rattle.std.specs.Option.{option_map_or}
use Rattle.crdt_defs.specs.Calls.{calls_view}
use Rattle.crdt_defs.specs.Counting.{all_below}
use Rattle.crdt_defs.specs.Parts.{Parts, is_done_by}
use Rattle.crdt_truth.specs.Readings.{parts_view}
use Rattle.crdt_truth.specs.declared.reading.Reading.{Reading}

-- what holds of each number on the list holds of each below n that meets the test, and the other way
pub record AreThose (test : ℕ → Bool) (n : ℕ) (list : List ℕ) : Type 0 where
  pub each : (holds : ℕ → Bool) → all_below (λ c. not (test c) || holds c) n ≡ list_all holds list

-- of each invocation that has a list, its committed calls below n
pub record AreDone (parts : Parts) (n : ℕ) (lists : List (List ℕ)) : Type 0 where
  pub each : (i : ℕ) (list : List ℕ) → slice_get lists i ≡ Some list → AreThose (is_done_by parts i) n list

-- what the truth of a formula asks of what it reads, and of such lists
pub record IsReady (r : Reading) (lists : List (List ℕ)) : Type 0 where
  pub few : length r.infos.now < 4294967296
  pub done : AreDone (parts_view r) (length (calls_view r.history.now)) lists

-- the invocation is this one, where there is one
abbrev pub is_that : Option ℕ → ℕ → Bool
is_that one i = option_map_or (λ j. nat_eq j i) one false
