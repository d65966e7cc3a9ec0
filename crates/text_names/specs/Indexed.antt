-- Declarations with the tables by which they are found.
use Rattle.std.specs.Prelude.{◌≡◌, ℕ, Bool, List, map, Option, is_some}
use Rattle.std.specs.List.{list_any}
use Rattle.type_rules.specs.Names.{Name, Names}
use Rattle.type_rules.specs.Rules.{is_taken_by}
use Rattle.text_names.specs.declared.declared.TypeItem.{TypeItem}
use Rattle.text_names.specs.declared.declared.Item.{Item}
use Rattle.type_tables.specs.Tables.{Entries, IsIndexOf, number_in, place_from}
use Rattle.text_names.specs.Views.{item_view}

-- the number of the first root, query, procedure or constructor of this name
abbrev pub entry_number : Names → Name → Option ℕ
entry_number n x = place_from 0 (map (λ e. e.name) n.entries) x

-- a root, a query or a procedure has the name
abbrev pub is_taken_name : Names → Name → Bool
is_taken_name n x = list_any (is_taken_by x) n.entries

-- each name is found as the first that has it
pub record IsIndexed (types : List TypeItem) (items : List Item) (type_numbers item_numbers taken : Entries) : Type 0 where
  pub types_found : IsIndexOf type_numbers (map (λ t. t.name.now) types)
  pub items_found : IsIndexOf item_numbers (map (λ e. e.name.now) items)
  pub taken_found : (x : Name) → is_some (number_in taken x) ≡ list_any (is_taken_by x) (map item_view items)
