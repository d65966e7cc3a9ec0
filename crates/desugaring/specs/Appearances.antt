-- Which datatypes a text speaks of, in the order in which they first appear: where the type is written or declared, where a
-- register answers with it (`Reg[T]` with `Maybe[T]`), and where a `some(..)` makes it. Before it come those inside it.
use Rattle.std.specs.Prelude.{ℕ, zero, suc, ◌+◌, ◌&&◌, not, ◌==◌, Bool, true, false, List, [], ◌∷◌, ◌++◌, flat_map, filter, length, reverse, if◌then◌else◌}
use Rattle.rp_grammar.specs.Trees.{ExprTree, ExprForm, CrdtTree, CrdtForm, FieldTree, FieldTrees, ConTree, DeclForm, DeclTree}
use Rattle.type_rules.specs.declared.kind.Kind.{Kind}
use Rattle.type_rules.specs.declared.kind.Base.{Base}
use Rattle.type_rules.specs.declared.kind.Base.TheVariants as base
use Rattle.type_rules.specs.Names.{Names, TypeSort, TypeEntry, con_fields, types_in}
use Rattle.type_rules.specs.Kinds.{plain_kind, bool_kind, maybe_of, same_base, kind_of, param_kinds}
use Rattle.type_rules.specs.Typing.{type_of}
use Rattle.type_rules.specs.Sites.{Site}
use Rattle.type_rules.specs.DeclSites.{query_sites, invariant_sites, proc_sites}

abbrev pub same_kind : Kind → Kind → Bool
same_kind a b = same_base a.base b.base && a.maybes == b.maybes

-- each at its first place alone
abbrev pub each_once : List Kind → List Kind
each_once [] = []
each_once (k ∷ ks) = k ∷ filter (λ other. not (same_kind k other)) (each_once ks)

-- # The datatypes inside a type, and then itself

-- `Maybe` of the base, `Maybe` of that, and so on
abbrev pub maybes_of : Base → ℕ → List Kind
maybes_of b zero = []
maybes_of b (suc m) = maybes_of b m ++ record { base = b; maybes = suc m } ∷ []

abbrev pub with_maybes : (Base → List Kind) → Kind → List Kind
with_maybes inner k = inner k.base ++ maybes_of k.base k.maybes

abbrev pub field_kinds : Names → List ConTree → List Kind
field_kinds n cons = flat_map (λ con. param_kinds n (con_fields con)) cons

-- a declared type: of a datatype the datatypes of its fields come first
abbrev pub sort_parts : Names → (Base → List Kind) → ℕ → TypeSort → List Kind
sort_parts n inner type TypeSort.id_type = []
sort_parts n inner type TypeSort.opaque = []
sort_parts n inner type (TypeSort.datatype cons) =
    flat_map (with_maybes inner) (field_kinds n cons) ++ plain_kind (base.Declared type) ∷ []

abbrev pub is_declared : ℕ → Base → Bool
is_declared type (base.Declared k) = k == type
is_declared type _ = false

-- of a base; the list has the types that are declared before some place, the last first
abbrev pub base_parts : Names → List TypeEntry → Base → List Kind
base_parts n [] b = []
base_parts n (entry ∷ before) b =
    if is_declared (length before) b then sort_parts n (base_parts n before) (length before) entry.sort
    else base_parts n before b

abbrev pub parts : Names → Kind → List Kind
parts n k = with_maybes (base_parts n (reverse n.types)) k

-- # Where datatypes appear

abbrev pub some_parts : Names → Kind → ExprTree → List Kind
some_parts n k (ExprTree.node at (ExprForm.some_of e)) = parts n k
some_parts n k _ = []

-- at one place of a text
abbrev pub site_kinds : Names → Site → List Kind
site_kinds n (Site.written decl role t) = parts n (kind_of n t)
site_kinds n (Site.place scope want e) = some_parts n (type_of n scope.vars want.asked e) e
site_kinds n _ = []

abbrev mutual
  pub crdt_kinds : Names → CrdtTree → List Kind
  crdt_kinds n (CrdtTree.node at form) = form_kinds n form

  pub form_kinds : Names → CrdtForm → List Kind
  form_kinds n (CrdtForm.set_aw t) = parts n (kind_of n t)
  form_kinds n (CrdtForm.set_rw t) = parts n (kind_of n t)
  form_kinds n (CrdtForm.reg t) = parts n (maybe_of (kind_of n t))
  form_kinds n (CrdtForm.mv_reg t) = parts n (kind_of n t)
  form_kinds n CrdtForm.counter = []
  form_kinds n (CrdtForm.map_uw t c) = parts n (kind_of n t) ++ crdt_kinds n c
  form_kinds n (CrdtForm.map_dw t c) = parts n (kind_of n t) ++ crdt_kinds n c
  form_kinds n (CrdtForm.struct fields) = fields_kinds n fields

  pub fields_kinds : Names → FieldTrees → List Kind
  fields_kinds n FieldTrees.no_fields = []
  fields_kinds n (FieldTrees.more_fields (FieldTree.field x c) fields) = crdt_kinds n c ++ fields_kinds n fields

-- in declaration number k, before which so many types are declared
abbrev pub decl_kinds : Names → ℕ → ℕ → DeclForm → List Kind
decl_kinds n k type (DeclForm.id_type x) = []
decl_kinds n k type (DeclForm.opaque x) = []
decl_kinds n k type (DeclForm.datatype x cons) = parts n (plain_kind (base.Declared type))
decl_kinds n k type (DeclForm.crdt x c) = crdt_kinds n c
decl_kinds n k type (DeclForm.query q) = flat_map (site_kinds n) (query_sites n k true q)
decl_kinds n k type (DeclForm.invariant x e) = flat_map (site_kinds n) (invariant_sites n k e)
decl_kinds n k type (DeclForm.proc p) = flat_map (site_kinds n) (proc_sites n k p)

-- in the declarations from number k on
abbrev pub kinds_from : Names → ℕ → ℕ → List DeclTree → List Kind
kinds_from n k type [] = []
kinds_from n k type (DeclTree.node at form ∷ ds) =
    decl_kinds n k type form ++ kinds_from n (k + 1) (type + length (types_in k (DeclTree.node at form))) ds

-- the datatypes of a text by their numbers; number 0 is `Bool`
abbrev pub datatypes_of : Names → List DeclTree → List Kind
datatypes_of n tree = each_once (bool_kind ∷ kinds_from n 0 0 tree)
