-- Roots by the declarations, and what stands on them.
use Rattle.std.specs.Prelude.{◌≡◌, ℕ, List, [], ◌∷◌, ◌++◌, filter_map, map, Option, Some, None, option_map}
use Rattle.rp_value.specs.declared.tables.Ty.{Ty}
use Rattle.rp_grammar.specs.Trees.{CrdtForm, CrdtTree, DeclForm, DeclTree, FieldTrees}
use Rattle.rp_lang.specs.Crdts.{CrFields, also_field}
use Rattle.rp_lang.specs.FirstForm.{tx}
use Rattle.rp_lang.specs.Views.{FieldView}
use Rattle.type_rules.specs.declared.kind.Kind.{Kind}
use Rattle.type_rules.specs.Names.{text_of}
use Rattle.type_rules.specs.Paths.{Member}
use Rattle.desugaring.specs.Parts.{each}
use Rattle.desugaring.specs.Objects.{KindStep, PathOp, PathQuery, Root, all_in_fields, all_inside, all_of, all_on, keys_on, ops_at, own_op, own_query, queries_at}
use Rattle.desugaring.specs.Tables.{Tables, op_decl, query_decl, step_of, ty_of}
use Rattle.text_tables.specs.declared.members.Members.{Members}
use Rattle.text_tables.specs.declared.spot.Spot.{Spot}
use Rattle.text_tables.specs.means.Grown.{Grows}

abbrev pub root_in : DeclTree → Option Root
root_in (DeclTree.node at (DeclForm.crdt x c)) = Some (record { name = text_of x; crdt = c })
root_in (DeclTree.node at (DeclForm.id_type x)) = None
root_in (DeclTree.node at (DeclForm.opaque x)) = None
root_in (DeclTree.node at (DeclForm.datatype x cons)) = None
root_in (DeclTree.node at (DeclForm.query q)) = None
root_in (DeclTree.node at (DeclForm.invariant x e)) = None
root_in (DeclTree.node at (DeclForm.proc p)) = None

-- the roots that declarations declare
abbrev pub roots_in : List DeclTree → List Root
roots_in ds = filter_map root_in ds

-- # Operations and queries

-- the code's path from a root is this one
pub record IsAt (t : Tables) (path : List KindStep) (spot : Spot) : Type 0 where
  pub steps : each (step_of t) path ≡ Some spot.path
  pub keys : each (ty_of t) (keys_on path) ≡ Some spot.keys

-- the types of keys, and then those of these arguments
abbrev pub HasArgs : Tables → List Ty → List Kind → List Ty → Type 0
HasArgs t keys ks args = option_map (λ own. keys ++ own) (each (ty_of t) ks) ≡ Some args

-- these stand behind what was there
pub record Declares (t : Tables) (old : Members) (ops : List PathOp) (queries : List PathQuery) (new : Members) : Type 0 where
  pub ops_are : Grows (op_decl t) old.ops ops new.ops
  pub queries_are : Grows (query_decl t) old.queries queries new.queries

-- what these members are at the end of a path
abbrev pub ops_with : ℕ → List KindStep → List Member → List PathOp
ops_with root path ms = map (λ own. record { root = root; path = path; own = own }) (filter_map own_op ms)

abbrev pub queries_with : ℕ → List KindStep → List Member → List PathQuery
queries_with root path ms = map (λ own. record { root = root; path = path; own = own }) (filter_map own_query ms)

abbrev pub DeclaresOwn : Tables → ℕ → List KindStep → List Member → Members → Members → Type 0
DeclaresOwn t root path ms old new = Declares t old (ops_with root path ms) (queries_with root path ms) new

-- those on a type, those inside one, and those in these fields, the first of which has the number k
abbrev pub DeclaresOn : Tables → ℕ → List KindStep → CrdtTree → Members → Members → Type 0
DeclaresOn t root path c old new =
    Declares t old (all_on t.names (ops_at t.names) root path c) (all_on t.names (queries_at t.names) root path c) new

abbrev pub DeclaresInside : Tables → ℕ → List KindStep → CrdtForm → Members → Members → Type 0
DeclaresInside t root path form old new =
    Declares t old (all_inside t.names (ops_at t.names) root path form) (all_inside t.names (queries_at t.names) root path form) new

abbrev pub DeclaresFields : Tables → ℕ → List KindStep → ℕ → FieldTrees → Members → Members → Type 0
DeclaresFields t root path k fields old new =
    Declares t old (all_in_fields t.names (ops_at t.names) root path k fields)
    (all_in_fields t.names (queries_at t.names) root path k fields) new

-- those on these roots, the first of which has the number k
abbrev pub DeclaresRoots : Tables → ℕ → List Root → Members → Members → Type 0
DeclaresRoots t k roots old new =
    Declares t old (all_of t.names (ops_at t.names) k roots) (all_of t.names (queries_at t.names) k roots) new

-- `tx` alone
abbrev pub starting : Members
starting = record { ops = tx ∷ []; queries = [] }

-- # Replicated types

-- these fields before others
abbrev pub behind_fields : List FieldView → CrFields → CrFields
behind_fields [] more = more
behind_fields (f ∷ fs) more = also_field f.0 f.1 (behind_fields fs more)
