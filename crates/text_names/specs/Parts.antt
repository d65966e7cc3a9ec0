-- Replicated types and their parts in one list.
use Rattle.std.specs.Prelude.{◌≡◌, ◌<◌, ℕ, List, ◌++◌, length, map, Option, Some, None, slice_get}
use Rattle.std.specs.Option.{option_map, option_and_then, unwrap_or}
use Rattle.rp_grammar.specs.Trees.{CrdtTree, CrdtForm, FieldTrees, DeclTree, DeclForm}
use Rattle.rp_ast.specs.View.{crdt_view}
use Rattle.type_rules.specs.Names.{Name}
use Rattle.type_rules.specs.Paths.{at_field, field_of}
use Rattle.type_tables.specs.Tables.{Table, number_in}
use Rattle.text_names.specs.declared.parts.PartItem.{PartItem}
use Rattle.text_names.specs.declared.parts.Inside as code_inside
use Rattle.text_names.specs.declared.parts.Inside.TheVariants as inside

abbrev pub trees_of : List PartItem → List CrdtTree
trees_of items = map (λ i. crdt_view i.crdt.now) items

-- what stands where nothing does: it has no part, no operation and no query
abbrev pub no_part : CrdtTree
no_part = CrdtTree.node (record { from = 0; to = 0 }) (CrdtForm.struct FieldTrees.no_fields)

abbrev pub part_at : List CrdtTree → ℕ → CrdtTree
part_at trees k = unwrap_or (slice_get trees k) no_part

-- the place of a field of this name
abbrev pub field_place : code_inside.Inside → Name → Option ℕ
field_place inside.Nothing x = None
field_place (inside.Held k) x = None
field_place (inside.Fields places) x = number_in places x

abbrev pub held_place : code_inside.Inside → Option ℕ
held_place inside.Nothing = None
held_place (inside.Held k) = Some k
held_place (inside.Fields places) = None

-- what a map holds at each key
abbrev pub held_in : CrdtTree → Option CrdtTree
held_in (CrdtTree.node at (CrdtForm.map_uw t c)) = Some c
held_in (CrdtTree.node at (CrdtForm.map_dw t c)) = Some c
held_in (CrdtTree.node at (CrdtForm.struct parts)) = None
held_in (CrdtTree.node at (CrdtForm.set_aw t)) = None
held_in (CrdtTree.node at (CrdtForm.set_rw t)) = None
held_in (CrdtTree.node at (CrdtForm.reg t)) = None
held_in (CrdtTree.node at (CrdtForm.mv_reg t)) = None
held_in (CrdtTree.node at CrdtForm.counter) = None

-- the parts of this tree stand in the list, where it says
pub record IsPlaced (trees : List CrdtTree) (tree : CrdtTree) (i : code_inside.Inside) : Type 0 where
  pub fields : (x : Name) → option_and_then (slice_get trees) (field_place i x) ≡ at_field tree x
  pub fields_within : (x : Name) (k : ℕ) → field_place i x ≡ Some k → k < length trees
  pub held : option_and_then (slice_get trees) (held_place i) ≡ held_in tree
  pub held_within : (k : ℕ) → held_place i ≡ Some k → k < length trees

-- these fields stand in the list, at the places of their names
pub record AreFields (trees : List CrdtTree) (places : Table) (parts : FieldTrees) : Type 0 where
  pub found : (x : Name) → option_and_then (slice_get trees) (places x) ≡ field_of parts x
  pub within : (x : Name) (k : ℕ) → places x ≡ Some k → k < length trees

abbrev pub ArePlaced : List PartItem → Type 0
ArePlaced items =
    (k : ℕ) (item : PartItem) → slice_get items k ≡ Some item
    → IsPlaced (trees_of items) (crdt_view item.crdt.now) item.inside

-- more stands behind these
abbrev pub IsLonger : List CrdtTree → List CrdtTree → Type 0
IsLonger before after = (more : List CrdtTree) × (after ≡ before ++ more)

-- # Roots

abbrev pub crdt_in : DeclTree → Option CrdtTree
crdt_in (DeclTree.node at (DeclForm.crdt x c)) = Some c
crdt_in (DeclTree.node at (DeclForm.id_type x)) = None
crdt_in (DeclTree.node at (DeclForm.opaque x)) = None
crdt_in (DeclTree.node at (DeclForm.datatype x cons)) = None
crdt_in (DeclTree.node at (DeclForm.query q)) = None
crdt_in (DeclTree.node at (DeclForm.invariant x e)) = None
crdt_in (DeclTree.node at (DeclForm.proc p)) = None

abbrev pub roots_seen : List CrdtTree → List (Option ℕ) → List (Option CrdtTree)
roots_seen trees places = map (option_map (part_at trees)) places

-- no place is past the end
abbrev pub AreWithin : List CrdtTree → List (Option ℕ) → Type 0
AreWithin trees places = (decl k : ℕ) → slice_get places decl ≡ Some (Some k) → k < length trees
