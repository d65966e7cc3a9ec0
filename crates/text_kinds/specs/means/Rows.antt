-- How the numbers of datatypes are kept.
use Rattle.std.specs.Prelude.{◌≡◌, ℕ, ◌+◌, ◌-◌, Bool, true, false, nat_eq, List, [], ◌∷◌, ◌++◌, flat_map, length, reverse, take, Option, Some, None, option_and_then, slice_get, slice_set, if◌then◌else◌}
use Rattle.std.specs.List.{list_all}
use Rattle.std.specs.Option.{option_map_or}
use Rattle.type_rules.specs.declared.kind.Kind.{Kind}
use Rattle.type_rules.specs.declared.kind.Base.{Base}
use Rattle.type_rules.specs.declared.kind.Base.TheVariants as base
use Rattle.type_rules.specs.Names.{Names, TypeEntry}
use Rattle.type_rules.specs.Kinds.{plain_kind}
use Rattle.desugaring.specs.Appearances.{base_parts, same_kind, with_maybes}
use Rattle.desugaring.specs.Tables.{cons_of}
use Rattle.text_kinds.specs.Numbered.{Numbered, has_kind, with_kinds}
use Rattle.text_kinds.specs.declared.numbers.Numbers.{Numbers}

-- # What is there

abbrev pub are_there : List Kind → List Kind → Bool
are_there kinds ks = list_all (has_kind kinds) ks

-- it has these too
pub record Adds (ks : List Kind) (old new : Numbered) : Type 0 where
  pub is : new ≡ with_kinds ks old
  pub there : are_there new.kinds ks ≡ true

-- # Inside types

abbrev pub declared_number : Base → Option ℕ
declared_number (base.Declared type) = Some type
declared_number base.Bool = None
declared_number base.Int = None
declared_number base.Text = None
declared_number base.Call = None
declared_number base.Invocation = None
declared_number base.Operation = None
declared_number base.Info = None
declared_number base.Outcome = None
declared_number base.Unknown = None
declared_number base.Open = None

-- the first types, so many, the last of them first
abbrev pub before : Names → ℕ → List TypeEntry
before n types = reverse (take types n.types)

-- where only the first types, so many, are declared
abbrev pub parts_before : Names → ℕ → Kind → List Kind
parts_before n types k = with_maybes (base_parts n (before n types)) k

-- of a declared type
abbrev pub declared_parts : Names → ℕ → List Kind
declared_parts n type = parts_before n (type + 1) (plain_kind (base.Declared type))

-- with this declared type all its parts are there
abbrev pub IsReady : Numbered → Base → Type 0
IsReady t b =
    (type : ℕ) → b ≡ base.Declared type → are_there (t.kinds ++ plain_kind b ∷ []) (declared_parts t.names type) ≡ true

-- # Numbers

abbrev pub numbers : ℕ → ℕ → Numbers
numbers number first = record { number = number; first = first }

-- the numbers of a datatype and of its first constructor, where these are the next ones
abbrev pub numbers_in : Names → ℕ → ℕ → List Kind → Kind → Option Numbers
numbers_in n number first [] k = None
numbers_in n number first (j ∷ kinds) k =
    if same_kind k j then Some (numbers number first)
    else numbers_in n (number + 1) (first + length (cons_of n j)) kinds k

-- the place of a type under `Maybe`s; the declared types come last
abbrev pub place_of : Base → Option ℕ
place_of base.Bool = Some 0
place_of base.Int = Some 1
place_of base.Text = Some 2
place_of base.Call = Some 3
place_of base.Invocation = Some 4
place_of base.Operation = Some 5
place_of base.Info = Some 6
place_of base.Outcome = Some 7
place_of (base.Declared type) = Some (8 + type)
place_of base.Unknown = None
place_of base.Open = None

abbrev pub own_at : List (Option Numbers) → ℕ → Option Numbers
own_at own place = option_and_then (λ o. o) (slice_get own place)

abbrev pub maybe_at : List (List Numbers) → ℕ → ℕ → Option Numbers
maybe_at maybes place m = option_and_then (λ row. slice_get row m) (slice_get maybes place)

-- under so many `Maybe`s
abbrev pub found_in : List (Option Numbers) → List (List Numbers) → ℕ → ℕ → Option Numbers
found_in own maybes place many = if nat_eq many 0 then own_at own place else maybe_at maybes place (many - 1)

-- the row at the place has so many
abbrev pub is_next : List (List Numbers) → ℕ → ℕ → Bool
is_next maybes place many = option_map_or (λ row. nat_eq (length row) many) (slice_get maybes place) false

-- with one more in the row at the place
abbrev pub with_row : List (List Numbers) → ℕ → Numbers → List (List Numbers)
with_row maybes place x = option_map_or (λ row. slice_set maybes place (row ++ x ∷ [])) (slice_get maybes place) maybes

-- each datatype is found by its place, and with a declared type all its parts are there
pub record AreRows (n : Names) (kinds : List Kind) (cons : ℕ) (own : List (Option Numbers))
    (maybes : List (List Numbers)) : Type 0 where
  pub found : (b : Base) (many place : ℕ) → place_of b ≡ Some place
      → found_in own maybes place many ≡ numbers_in n 0 0 kinds (record { base = b; maybes = many })
  pub cons_are : cons ≡ length (flat_map (cons_of n) kinds)
  pub whole : (type : ℕ) → has_kind kinds (plain_kind (base.Declared type)) ≡ true
      → are_there kinds (declared_parts n type) ≡ true
