-- How often names are declared later.
use Rattle.std.specs.Prelude.{◌≡◌, ℕ, ◌+◌, ◌-◌, List, if◌then◌else◌}
use Rattle.std.specs.List.{count_by}
use Rattle.std.specs.Map.{count_at}
use Rattle.type_rules.specs.Names.{Name, same_name}
use Rattle.type_tables.specs.Tables.{Entries, number_in}

abbrev pub Counts : Type 0
Counts = Name → ℕ

-- the number of a name, or 0
abbrev pub count_in : Entries → Counts
count_in es = count_at (number_in es)

abbrev pub one_more : Name → Counts → Counts
one_more x counts y = if same_name x y then counts y + 1 else counts y

abbrev pub one_less : Name → Counts → Counts
one_less x counts y = if same_name x y then counts y - 1 else counts y

-- these are the numbers of each name in the list
abbrev pub IsCounted : Entries → List Name → Type 0
IsCounted counts names = (x : Name) → count_in counts x ≡ count_by (same_name x) names
