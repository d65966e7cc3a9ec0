-- Datatypes and constructors by their numbers.
use Rattle.std.specs.Prelude.{ℕ, Bool, ◌&&◌, List, [], ◌∷◌, ◌++◌, flat_map, position, Option, if◌then◌else◌}
use Rattle.std.specs.List.{list_any}
use Rattle.type_rules.specs.declared.kind.Kind.{Kind}
use Rattle.type_rules.specs.Names.{Name, Names, same_name}
use Rattle.desugaring.specs.Appearances.{same_kind}
use Rattle.desugaring.specs.Tables.{cons_of}

-- the datatypes of a text with these names
pub record Numbered : Type 0 where
  pub names : Names
  pub kinds : List Kind

abbrev pub numbered : Names → List Kind → Numbered
numbered names kinds = record { names = names; kinds = kinds }

abbrev pub has_kind : List Kind → Kind → Bool
has_kind kinds k = list_any (same_kind k) kinds

-- with this one, where it isn't there yet
abbrev pub with_kind : List Kind → Kind → List Kind
with_kind kinds k = if has_kind kinds k then kinds else kinds ++ k ∷ []

-- with these, one after the other
abbrev pub with_each : List Kind → List Kind → List Kind
with_each kinds [] = kinds
with_each kinds (k ∷ ks) = with_each (with_kind kinds k) ks

abbrev pub with_kinds : List Kind → Numbered → Numbered
with_kinds ks t = numbered t.names (with_each t.kinds ks)

-- the place, among all constructors, of the datatype's constructor of this name
abbrev pub con_place : Numbered → Kind → Name → Option ℕ
con_place t k x = position (λ c. same_kind c.of k && same_name c.name x) (flat_map (cons_of t.names) t.kinds)
