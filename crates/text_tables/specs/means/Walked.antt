-- What a walk over replicated types adds to the objects.
use Rattle.std.specs.Prelude.{◌≡◌, ℕ, ◌+◌, true, false, List, ◌++◌, length}
use Rattle.rp_grammar.specs.Trees.{CrdtTree, CrdtForm, FieldTrees}
use Rattle.text_tables.specs.declared.object.Object.{Object}
use Rattle.text_tables.specs.declared.object.ObjectTable.{ObjectTable}
use Rattle.text_tables.specs.means.Counted.{many_in_fields, many_inside, many_of, many_on, objects_in_fields, objects_inside, objects_of, objects_on}

-- these objects, with so many operations and queries
pub record Adds (old : ObjectTable) (more : List Object) (ops queries : ℕ) (new : ObjectTable) : Type 0 where
  pub objects_are : new.objects ≡ old.objects ++ more
  pub ops_are : new.ops ≡ old.ops + ops
  pub queries_are : new.queries ≡ old.queries + queries
  pub roots_are : new.roots ≡ old.roots

-- those on a type, those inside one, and those in these fields
abbrev pub AddsOn : ObjectTable → CrdtTree → ObjectTable → Type 0
AddsOn old c new = Adds old (objects_on old.ops old.queries c) (many_on true c) (many_on false c) new

abbrev pub AddsInside : ObjectTable → CrdtForm → ObjectTable → Type 0
AddsInside old form new =
    Adds old (objects_inside old.ops old.queries form) (many_inside true form) (many_inside false form) new

abbrev pub AddsFields : ObjectTable → FieldTrees → ObjectTable → Type 0
AddsFields old fields new =
    Adds old (objects_in_fields old.ops old.queries fields) (many_in_fields true fields) (many_in_fields false fields) new

-- these roots
pub record AddsRoots (old : ObjectTable) (crdts : List CrdtTree) (new : ObjectTable) : Type 0 where
  pub objects_are : new.objects ≡ old.objects ++ objects_of old.ops old.queries crdts
  pub ops_are : new.ops ≡ old.ops + many_of true crdts
  pub queries_are : new.queries ≡ old.queries + many_of false crdts
  pub roots_are : new.roots ≡ old.roots + length crdts
