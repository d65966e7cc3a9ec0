-- The queries that are marked as used.
use Rattle.std.specs.Prelude.{◌≡◌, ℕ, Bool, false, ◌||◌, List, if◌then◌else◌}
use Rattle.type_rules.specs.TextSites.{is_number_of}
use Rattle.type_tables.specs.Flags.{flag_at}

-- the marks are those of the list
abbrev pub IsMarked : List Bool → List ℕ → Type 0
IsMarked marks numbers = (k : ℕ) → flag_at marks k ≡ is_number_of k numbers

-- with these numbers, where marks are made
abbrev pub with_marks : Bool → List ℕ → (ℕ → Bool) → ℕ → Bool
with_marks made numbers marks k = marks k || (if made then is_number_of k numbers else false)
