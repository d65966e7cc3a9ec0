-- Names with a number each, as a function.
use Rattle.std.specs.Prelude.{◌≡◌, ℕ, ◌+◌, Bool, false, nat_eq, List, [], ◌∷◌, map, Option, Some, None, is_some, if◌then◌else◌}
use Rattle.std.specs.Borrow.{Bor}
use Rattle.std.specs.HashMap.{HashMap}
use Rattle.std.specs.Map.{lookup, update}
use Rattle.type_rules.specs.Names.{Name, same_name}

abbrev pub Table : Type 0
Table = Name → Option ℕ

-- names with their numbers, as a map keeps them
abbrev pub Entries : Type 0
Entries = List (Name × ℕ)

-- what a map from lent names keeps
abbrev pub entries_of : {S : Type 0} → HashMap (Bor Name) ℕ S → Entries
entries_of m = map (λ e. (e.0.now, e.1)) m.entries

-- the number of a name
abbrev pub number_in : Entries → Table
number_in es x = lookup (same_name x) es

-- with a number for the name, where it has none
abbrev pub with_first : Table → Name → ℕ → Table
with_first t x k = if is_some (t x) then t else update same_name t x (Some k)

abbrev pub has_number : Option ℕ → ℕ → Bool
has_number None k = false
has_number (Some own) k = nat_eq own k

-- without the name, where it has this number
abbrev pub without : Table → Name → ℕ → Table
without t x k = if has_number (t x) k then update same_name t x None else t

-- the place of the first of this name, where the first of all has the place k
abbrev pub place_from : ℕ → List Name → Name → Option ℕ
place_from k [] x = None
place_from k (name ∷ names) x = if same_name name x then Some k else place_from (k + 1) names x

-- each name is found as the first of the list that has it
abbrev pub IsIndexOf : Entries → List Name → Type 0
IsIndexOf es names = (x : Name) → number_in es x ≡ place_from 0 names x
