-- How many operations and queries replicated types have, and the numbers at which they begin.
use Rattle.std.specs.Prelude.{ℕ, ◌+◌, Bool, true, false, List, [], ◌∷◌, ◌++◌, filter_map, if◌then◌else◌}
use Rattle.rp_grammar.specs.Trees.{CrdtTree, CrdtForm, FieldTree, FieldTrees, DeclTree}
use Rattle.text_names.specs.Parts.{crdt_in}
use Rattle.text_tables.specs.declared.object.Object.{Object}

-- so many operations a type has itself, or so many queries
abbrev pub own_many : Bool → CrdtForm → ℕ
own_many op (CrdtForm.set_aw t) = if op then 2 else 1
own_many op (CrdtForm.set_rw t) = if op then 2 else 1
own_many op (CrdtForm.reg t) = 1
own_many op (CrdtForm.mv_reg t) = 1
own_many op CrdtForm.counter = 1
own_many op (CrdtForm.map_uw t c) = 1
own_many op (CrdtForm.map_dw t c) = 1
own_many op (CrdtForm.struct _) = 0

-- with those inside it
abbrev mutual
  pub many_on : Bool → CrdtTree → ℕ
  many_on op (CrdtTree.node at form) = own_many op form + many_inside op form

  pub many_inside : Bool → CrdtForm → ℕ
  many_inside op (CrdtForm.set_aw t) = 0
  many_inside op (CrdtForm.set_rw t) = 0
  many_inside op (CrdtForm.reg t) = 0
  many_inside op (CrdtForm.mv_reg t) = 0
  many_inside op CrdtForm.counter = 0
  many_inside op (CrdtForm.map_uw t c) = many_on op c
  many_inside op (CrdtForm.map_dw t c) = many_on op c
  many_inside op (CrdtForm.struct fields) = many_in_fields op fields

  pub many_in_fields : Bool → FieldTrees → ℕ
  many_in_fields op FieldTrees.no_fields = 0
  many_in_fields op (FieldTrees.more_fields (FieldTree.field x c) fields) = many_on op c + many_in_fields op fields

abbrev pub many_of : Bool → List CrdtTree → ℕ
many_of op [] = 0
many_of op (c ∷ cs) = many_on op c + many_of op cs

-- a replicated type by the byte at which it begins, with the numbers of operations and queries before its own
abbrev pub object : ℕ → ℕ → ℕ → Object
object from ops queries = record { from = from; ops = ops; queries = queries }

-- a type and those inside it, before which so many operations and queries stand
abbrev mutual
  pub objects_on : ℕ → ℕ → CrdtTree → List Object
  objects_on ops queries (CrdtTree.node at form) =
      object at.from ops queries ∷ objects_inside (ops + own_many true form) (queries + own_many false form) form

  pub objects_inside : ℕ → ℕ → CrdtForm → List Object
  objects_inside ops queries (CrdtForm.set_aw t) = []
  objects_inside ops queries (CrdtForm.set_rw t) = []
  objects_inside ops queries (CrdtForm.reg t) = []
  objects_inside ops queries (CrdtForm.mv_reg t) = []
  objects_inside ops queries CrdtForm.counter = []
  objects_inside ops queries (CrdtForm.map_uw t c) = objects_on ops queries c
  objects_inside ops queries (CrdtForm.map_dw t c) = objects_on ops queries c
  objects_inside ops queries (CrdtForm.struct fields) = objects_in_fields ops queries fields

  pub objects_in_fields : ℕ → ℕ → FieldTrees → List Object
  objects_in_fields ops queries FieldTrees.no_fields = []
  objects_in_fields ops queries (FieldTrees.more_fields (FieldTree.field x c) fields) =
      objects_on ops queries c ++ objects_in_fields (ops + many_on true c) (queries + many_on false c) fields

-- those of several, one after the other
abbrev pub objects_of : ℕ → ℕ → List CrdtTree → List Object
objects_of ops queries [] = []
objects_of ops queries (c ∷ cs) = objects_on ops queries c ++ objects_of (ops + many_on true c) (queries + many_on false c) cs

-- the replicated types that declarations declare
abbrev pub crdts_in : List DeclTree → List CrdtTree
crdts_in ds = filter_map crdt_in ds
