-- Tables in which names are found.
use Rattle.std.specs.Prelude.{◌≡◌, ℕ, Bool, List, [], get_or}
use Rattle.std.specs.List.{position_from}
use Rattle.rp_value.specs.declared.tables.ConDecl.{ConDecl}
use Rattle.type_rules.specs.Names.{Name}
use Rattle.type_tables.specs.Tables.{Entries, number_in}
use Rattle.program_names.specs.Called.{con_makes}

-- each name has the number of the first in the list that is called so
abbrev pub Finds : {X : Type 0} → (Name → X → Bool) → List X → Entries → Type 0
Finds called xs es = (x : Name) → number_in es x ≡ position_from (called x) 0 xs

-- the table of a datatype, by its number
abbrev pub table_of : List Entries → ℕ → Entries
table_of tables d = get_or tables d []

-- each name has the number of the first constructor that is called so and makes the datatype
abbrev pub FindsMade : List ConDecl → List Entries → Type 0
FindsMade cons tables = (d : ℕ) → Finds (con_makes d) cons (table_of tables d)
