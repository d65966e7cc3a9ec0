-- The variables in sight, and the tables by which they are found.
use Rattle.std.specs.Prelude.{◌≡◌, ◌<◌, Bool, ◌&&◌, List, [], ◌∷◌, map, length}
use Rattle.type_rules.specs.Names.{Name}
use Rattle.type_rules.specs.Accesses.{Var}
use Rattle.type_rules.specs.Flow.{with_value}
use Rattle.type_tables.specs.Tables.{Entries, IsIndexOf}
use Rattle.type_tables.specs.declared.vars.VarItem.{VarItem}
use Rattle.type_tables.specs.declared.vars.Known.{Known}

abbrev pub var_view : VarItem → Var
var_view v = record { name = v.name.now; kind = v.kind; set = v.set; fixed = v.fixed }

abbrev pub known_view : Known → Bool → Var
known_view v b = record { name = v.name.now; kind = v.kind; set = b; fixed = v.fixed }

-- each with whether it has a value
abbrev pub vars_seen : List Known → List Bool → List Var
vars_seen [] bs = []
vars_seen (v ∷ vs) [] = []
vars_seen (v ∷ vs) (b ∷ bs) = known_view v b ∷ vars_seen vs bs

abbrev pub known_names : List Known → List Name
known_names items = map (λ v. v.name.now) items

-- each name is found as the first that has it
pub record ArePlaces (items : List Known) (flags : List Bool) (places : Entries) : Type 0 where
  pub found : IsIndexOf places (known_names items)
  pub long : length flags ≡ length items
  pub few : length items < 4294967297

-- # Which have values

abbrev pub set_flags : List Var → List Bool
set_flags vs = map (λ v. v.set) vs

abbrev pub flagged : Var → Bool → Var
flagged v b = record v { set = b }

-- those of these flags have values
abbrev pub with_flags : List Var → List Bool → List Var
with_flags [] bs = []
with_flags (v ∷ vs) [] = v ∷ vs
with_flags (v ∷ vs) (b ∷ bs) = flagged v b ∷ with_flags vs bs

-- those have values that have them, and by these flags too
abbrev pub and_flags : List Var → List Bool → List Var
and_flags [] bs = []
and_flags (v ∷ vs) [] = v ∷ vs
and_flags (v ∷ vs) (b ∷ bs) = flagged v (v.set && b) ∷ and_flags vs bs

-- the last has a value
abbrev pub give_last : List Var → List Var
give_last [] = []
give_last (v ∷ []) = with_value v ∷ []
give_last (v ∷ w ∷ vs) = v ∷ give_last (w ∷ vs)
