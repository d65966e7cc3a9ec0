-- What a well-formed program says of its types, operations and queries.
use Rattle.std.proofs.Common.{◌≡◌, ℕ, zero, suc, ◌+◌, Bool, true, false, if◌then◌else◌, nat_eq, List, [], ◌∷◌, length, Option, Some, None, slice_get, eqb-true, refl, sym, ◌∙◌, ap, arith, ◌⊎◌, inl, inr, true≢false}
use Rattle.std.specs.List.{list_all}
use Rattle.std.specs.Cmp.Lexicographic.{pointwise}
use Rattle.std.proofs.lemmas.Bool.{and_parts, and_from}
use Rattle.std.proofs.lemmas.Option.{none-some, same_Some}
use Rattle.rp_value.specs.declared.tables.Ty.{Ty}
use Rattle.rp_value.specs.declared.tables.Ty.TheVariants.{Datatype}
use Rattle.rp_value.specs.declared.tables.DataDecl.{DataDecl}
use Rattle.rp_value.specs.declared.tables.ConDecl.{ConDecl}
use Rattle.rp_value.specs.declared.tables.ConTable.{ConTable}
use Rattle.rp_value.specs.declared.tables.TypeTable.{TypeTable}
use Rattle.rp_lang.specs.declared.op.OpDecl.{OpDecl}
use Rattle.rp_lang.specs.declared.op.OpKind.{OpKind}
use Rattle.rp_lang.specs.declared.op.OpKind.TheVariants.{Tx, Add, Remove, Assign, Increment, Delete}
use Rattle.rp_lang.specs.declared.op.PathStep.{PathStep}
use Rattle.rp_lang.specs.declared.op.PathStep.TheVariants.{Field, Key}
use Rattle.rp_lang.specs.Crdts.{Cr, SetAw, SetRw, Reg, MvReg, Counter, MapUw, MapDw, Struct, CrFields, no_field, also_field}
use Rattle.rp_lang.specs.Types.{same_ty, is_one, is_nothing, is_ordinary, are_ordinary, fields_in, datatype_of, is_bare_con, is_con_with, is_run, are_numbered, is_bool_decl, has_bool, are_ordinary_fields}
use Rattle.rp_lang.specs.Paths.{is_crdt, are_crdts, field_at, field_in, held_at, reached, own_args, root_crdt, is_one_of, elements_of, values_of, keys_of, amounts_of, op_takes, op_fits, op_stands, is_op, is_tx}
use Rattle.rp_lang.specs.Programs.{Rt, Proc, Prog}
use Rattle.rp_lang.specs.WellFormed.{are_roots, are_ops, are_queries, are_procs, is_procedure, is_well_formed}
use Rattle.rp_lang.proofs.TypeFacts.{each, is_data, ordinary-data, same-type, is-type, FieldsAreData}

abbrev At : {A : Type 0} → List A → ℕ → A → Type 0
At xs i x = slice_get xs i ≡ Some x

pub record Facts (p : Prog) : Type 0 where
  pub numbered : are_numbered p.cons 0 0 p.types.datatypes ≡ true
  pub truths : has_bool p.types p.cons ≡ true
  pub fields : are_ordinary_fields p.types p.cons ≡ true
  pub roots : are_roots p.types p.roots ≡ true
  pub ops : are_ops p.roots p.ops ≡ true
  pub queries : are_queries p ≡ true
  pub procs : are_procs p ≡ true

pub facts : (p : Prog) → is_well_formed p ≡ true → Facts p
facts p h =
    let names = and_parts _ _ h in
    let procs = and_parts _ _ names.0 in
    let invs = and_parts _ _ procs.0 in
    let queries = and_parts _ _ invs.0 in
    let ops = and_parts _ _ queries.0 in
    let roots = and_parts _ _ ops.0 in
    let tables = and_parts _ _ roots.0 in
    let few = and_parts _ _ tables.0 in
    let fields = and_parts _ _ few.0 in
    let truths = and_parts _ _ fields.0 in
    record {
      numbered = truths.0;
      truths = truths.1;
      fields = fields.1;
      roots = roots.1;
      ops = ops.1;
      queries = queries.1;
      procs = procs.1;
    }

pub procedure-of : (p : Prog) → Facts p → (n : ℕ) (q : Proc) → At p.procs n q → is_procedure p q ≡ true
procedure-of p f n q at = each (is_procedure p) p.procs n q (and_parts _ _ f.procs).1 at

-- # Types of data

pub all-data : (types : TypeTable) (ts : List Ty) → are_ordinary types ts ≡ true → list_all is_data ts ≡ true
all-data types [] h = refl
all-data types (t ∷ ts) h = let both = and_parts _ _ h in and_from _ _ (ordinary-data types t both.0) (all-data types ts both.1)

pub fields-data : (p : Prog) → Facts p → FieldsAreData p
fields-data p f con = go (slice_get p.cons.cons con) refl
  where
    go : (o : Option ConDecl) → slice_get p.cons.cons con ≡ o → list_all is_data (fields_in o) ≡ true
    go None e = refl
    go (Some decl) e = all-data p.types decl.fields (each (λ con. are_ordinary p.types con.fields) p.cons.cons con decl f.fields e)

pub nothing : (ts : List Ty) → is_nothing ts ≡ true → ts ≡ []
nothing [] h = refl
nothing (t ∷ ts) h = absurd (true≢false (sym h))

pub only : (t : Ty) (ts : List Ty) → is_one t ts ≡ true → ts ≡ t ∷ []
only t (u ∷ []) h = ap (λ u. u ∷ []) (same-type u t h)
only t [] h = absurd (true≢false (sym h))
only t (u ∷ v ∷ ts) h = absurd (true≢false (sym h))

-- # Constructors

run-of : (cons : ConTable) (n next : ℕ) (list : List ℕ) (j con : ℕ) → is_run cons n next list ≡ true → At list j con → datatype_of cons con ≡ Some (Datatype n)
run-of cons n next [] j con h at = absurd (none-some con at)
run-of cons n next (c ∷ others) zero con h at =
    ap (datatype_of cons) (sym (same_Some c con at)) ∙ is-type (datatype_of cons c) (Datatype n) (and_parts _ _ (and_parts _ _ h).0).1
run-of cons n next (c ∷ others) (suc j) con h at = run-of cons n (next + 1) others j con (and_parts _ _ h).1 at

numbered-of : (cons : ConTable) (n next : ℕ) (decls : List DataDecl) (i : ℕ) (decl : DataDecl) (j con : ℕ) → are_numbered cons n next decls ≡ true
    → At decls i decl → At decl.cons j con → datatype_of cons con ≡ Some (Datatype (n + i))
numbered-of cons n next [] i decl j con h at is = absurd (none-some decl at)
numbered-of cons n next (d ∷ decls) zero decl j con h at is =
    let here = (and_parts (_) (is_run cons n next d.cons) (and_parts _ _ h).0).1 in
    let plain : n ≡ n + 0 = omega arith in
    run-of cons n next decl.cons j con (ap (λ (d : DataDecl). is_run cons n next d.cons) (sym (same_Some d decl at)) ∙ here) is
    ∙ ap (λ k. Some (Datatype k)) plain
numbered-of cons n next (d ∷ decls) (suc i) decl j con h at is =
    let more : n + 1 + i ≡ n + suc i = omega arith in
    numbered-of cons (n + 1) (next + length d.cons) decls i decl j con (and_parts _ _ h).1 at is ∙ ap (λ k. Some (Datatype k)) more

-- a constructor that a datatype lists makes it
pub listed-of : (p : Prog) → Facts p → (d : ℕ) (decl : DataDecl) (j con : ℕ) → At p.types.datatypes d decl → At decl.cons j con → datatype_of p.cons con ≡ Some (Datatype d)
listed-of p f d decl j con at is =
    let plain : 0 + d ≡ d = omega arith in
    numbered-of p.cons 0 0 p.types.datatypes d decl j con f.numbered at is ∙ ap (λ k. Some (Datatype k)) plain

pub bare-fields : (name : List ℕ) (o : Option ConDecl) → is_bare_con name o ≡ true → fields_in o ≡ []
bare-fields name None h = absurd (true≢false (sym h))
bare-fields name (Some decl) h = nothing decl.fields (and_parts _ _ h).1

pub one-field : (name : List ℕ) (t : Ty) (o : Option ConDecl) → is_con_with name t o ≡ true → fields_in o ≡ t ∷ []
one-field name t None h = absurd (true≢false (sym h))
one-field name t (Some decl) h = only t decl.fields (and_parts _ _ h).1

two : (list : List ℕ) (a b : ℕ) → pointwise nat_eq list (a ∷ b ∷ []) ≡ true → At list 0 a × At list 1 b
two (x ∷ y ∷ []) a b h =
    let first = and_parts (nat_eq x a) _ h in
    let second = and_parts (nat_eq y b) _ first.1 in
    (ap (λ k. Some k) (eqb-true x a first.0), ap (λ k. Some k) (eqb-true y b second.0))
two [] a b h = absurd (true≢false (sym h))
two (x ∷ []) a b h = absurd (true≢false (sym (and_parts (nat_eq x a) _ h).1))
two (x ∷ y ∷ z ∷ zs) a b h = absurd (true≢false (sym (and_parts (nat_eq y b) _ (and_parts (nat_eq x a) _ h).1).1))

pub bool-decl : (o : Option DataDecl) → is_bool_decl o ≡ true → (decl : DataDecl) × (o ≡ Some decl) × At decl.cons 0 0 × At decl.cons 1 1
bool-decl None h = absurd (true≢false (sym h))
bool-decl (Some decl) h = let both = two decl.cons 0 1 (and_parts _ _ h).1 in (decl, refl, both.0, both.1)

-- # Operations

-- `tx`, or an operation of a root
pub op-is : (roots : List Rt) (ops : List OpDecl) (n : ℕ) (op : OpDecl) → are_ops roots ops ≡ true → At ops n op → (is_tx op ≡ true) ⊎ (is_op roots op ≡ true)
op-is roots [] n op h at = absurd (none-some op at)
op-is roots (first ∷ ops) zero op h at = inl (ap is_tx (sym (same_Some first op at)) ∙ (and_parts _ _ (and_parts _ _ h).0).0)
op-is roots (first ∷ ops) (suc n) op h at = inr (each (is_op roots) ops n op (and_parts _ _ h).1 at)

-- where an operation's path leads, and its own arguments
pub record Stands (kind : OpKind) (crdt : Option Cr) (own : Option (List Ty)) : Type 0 where
  pub end : Cr
  pub args : List Ty
  pub leads : crdt ≡ Some end
  pub takes : own ≡ Some args
  pub fit : op_fits kind end args ≡ true

pub op-stands : (kind : OpKind) (crdt : Option Cr) (own : Option (List Ty)) → op_stands kind crdt own ≡ true → Stands kind crdt own
op-stands kind (Some end) (Some args) h = record { end = end; args = args; leads = refl; takes = refl; fit = h }
op-stands kind (Some end) None h = absurd (true≢false (sym h))
op-stands kind None own h = absurd (true≢false (sym h))

pub reached-from : (o : Option Cr) (path : List PathStep) (end : Cr) → reached o path ≡ Some end → (c : Cr) × (o ≡ Some c)
reached-from None path end h = absurd (none-some end h)
reached-from (Some c) path end h = (c, refl)

field-fine : (types : TypeTable) (fields : CrFields) (n : ℕ) (c : Cr) → are_crdts types fields ≡ true → field_at fields n ≡ Some c → is_crdt types c ≡ true
field-fine types no_field n c h e = absurd (none-some c e)
field-fine types (also_field name crdt rest) zero c h e = ap (is_crdt types) (sym (same_Some crdt c e)) ∙ (and_parts _ _ h).0
field-fine types (also_field name crdt rest) (suc n) c h e = field-fine types rest n c (and_parts _ _ h).1 e

in-field : (types : TypeTable) (crdt : Cr) (n : ℕ) (c : Cr) → is_crdt types crdt ≡ true → field_in crdt n ≡ Some c → is_crdt types c ≡ true
in-field types (Struct fields) n c h e = field-fine types fields n c (and_parts _ _ h).1 e
in-field types _ n c h e = absurd (none-some c e)

-- what a map holds at the keys of a type
held-fine : (types : TypeTable) (keys ty : Ty) (at_each c : Cr) (b : Bool) → same_ty keys ty ≡ b → is_ordinary types keys ≡ true → is_crdt types at_each ≡ true
    → (if b then Some at_each else None) ≡ Some c → (is_data ty ≡ true) × (is_crdt types c ≡ true)
held-fine types keys ty at_each c true same k h e =
    (ap is_data (sym (same-type keys ty same)) ∙ ordinary-data types keys k, ap (is_crdt types) (sym (same_Some at_each c e)) ∙ h)
held-fine types keys ty at_each c false same k h e = absurd (none-some c e)

at-key : (types : TypeTable) (crdt : Cr) (ty : Ty) (c : Cr) → is_crdt types crdt ≡ true → held_at ty crdt ≡ Some c → (is_data ty ≡ true) × (is_crdt types c ≡ true)
at-key types (MapUw keys at_each) ty c h e = let both = and_parts _ _ h in held-fine types keys ty at_each c (same_ty keys ty) refl both.0 both.1 e
at-key types (MapDw keys at_each) ty c h e = let both = and_parts _ _ h in held-fine types keys ty at_each c (same_ty keys ty) refl both.0 both.1 e
at-key types _ ty c h e = absurd (none-some c e)

pub own-step : (t ty : Ty) (path : List PathStep) (tys own : List Ty) (b : Bool) → same_ty t ty ≡ b → (if b then own_args path tys else None) ≡ Some own → (t ≡ ty) × (own_args path tys ≡ Some own)
own-step t ty path tys own true is h = (same-type t ty is, h)
own-step t ty path tys own false is h = absurd (none-some own h)

-- keys on a path of a replicated type are data
path-data : (types : TypeTable) (o : Option Cr) → ((c : Cr) → o ≡ Some c → is_crdt types c ≡ true) → (path : List PathStep) (tys : List Ty) (end : Cr) (own : List Ty)
    → reached o path ≡ Some end → own_args path tys ≡ Some own → (is_crdt types end ≡ true) × (list_all is_data own ≡ true → list_all is_data tys ≡ true)
path-data types None fine path tys end own r o = absurd (none-some end r)
path-data types (Some crdt) fine [] tys end own r o =
    (ap (is_crdt types) (sym (same_Some crdt end r)) ∙ fine crdt refl, λ h. ap (list_all is_data) (same_Some tys own o) ∙ h)
path-data types (Some crdt) fine (Field n ∷ path) tys end own r o =
    path-data types (field_in crdt n) (λ c e. in-field types crdt n c (fine crdt refl) e) path tys end own r o
path-data types (Some crdt) fine (Key ty ∷ path) [] end own r o = absurd (none-some own o)
path-data types (Some crdt) fine (Key ty ∷ path) (t ∷ tys) end own r o =
    let c = reached-from (held_at ty crdt) path end r in
    let key = at-key types crdt ty c.0 (fine crdt refl) c.1 in
    let same = own-step t ty path tys own (same_ty t ty) refl o in
    let rest = path-data types (held_at ty crdt) (λ c e. (at-key types crdt ty c (fine crdt refl) e).1) path tys end own r same.1 in
    (rest.0, λ h. and_from (is_data t) (list_all is_data tys) (ap is_data same.0 ∙ key.0) (rest.1 h))

some-data : (types : TypeTable) (t u : Ty) → is_ordinary types t ≡ true → Some t ≡ Some u → is_data u ≡ true
some-data types t u h e = ap is_data (sym (same_Some t u e)) ∙ ordinary-data types t h

elements-data : (types : TypeTable) (crdt : Cr) (t : Ty) → is_crdt types crdt ≡ true → elements_of crdt ≡ Some t → is_data t ≡ true
elements-data types (SetAw ty) t h e = some-data types ty t h e
elements-data types (SetRw ty) t h e = some-data types ty t h e
elements-data types _ t h e = absurd (none-some t e)

values-data : (types : TypeTable) (crdt : Cr) (t : Ty) → is_crdt types crdt ≡ true → values_of crdt ≡ Some t → is_data t ≡ true
values-data types (Reg ty) t h e = some-data types ty t h e
values-data types (MvReg ty) t h e = some-data types ty t h e
values-data types _ t h e = absurd (none-some t e)

keys-data : (types : TypeTable) (crdt : Cr) (t : Ty) → is_crdt types crdt ≡ true → keys_of crdt ≡ Some t → is_data t ≡ true
keys-data types (MapUw keys at_each) t h e = some-data types keys t (and_parts _ _ h).0 e
keys-data types (MapDw keys at_each) t h e = some-data types keys t (and_parts _ _ h).0 e
keys-data types _ t h e = absurd (none-some t e)

amounts-data : (crdt : Cr) (t : Ty) → amounts_of crdt ≡ Some t → is_data t ≡ true
amounts-data Counter t e = ap is_data (sym (same_Some _ t e))
amounts-data _ t e = absurd (none-some t e)

takes-data : (types : TypeTable) (kind : OpKind) (crdt : Cr) (t : Ty) → is_crdt types crdt ≡ true → op_takes kind crdt ≡ Some t → is_data t ≡ true
takes-data types Tx crdt t h e = absurd (none-some t e)
takes-data types Add crdt t h e = elements-data types crdt t h e
takes-data types Remove crdt t h e = elements-data types crdt t h e
takes-data types Assign crdt t h e = values-data types crdt t h e
takes-data types Increment crdt t h e = amounts-data crdt t e
takes-data types Delete crdt t h e = keys-data types crdt t h e

own-data : (o : Option Ty) (own : List Ty) → ((t : Ty) → o ≡ Some t → is_data t ≡ true) → is_one_of o own ≡ true → list_all is_data own ≡ true
own-data None own f h = absurd (true≢false (sym h))
own-data (Some t) own f h = ap (list_all is_data) (only t own h) ∙ and_from (is_data t) true (f t refl) refl

root-fine : (p : Prog) → Facts p → (n : ℕ) (c : Cr) → root_crdt (slice_get p.roots n) ≡ Some c → is_crdt p.types c ≡ true
root-fine p f n c e = go (slice_get p.roots n) refl e
  where
    go : (o : Option Rt) → slice_get p.roots n ≡ o → root_crdt o ≡ Some c → is_crdt p.types c ≡ true
    go None is e = absurd (none-some c e)
    go (Some root) is e = ap (is_crdt p.types) (sym (same_Some root.crdt c e)) ∙ each (λ (root : Rt). is_crdt p.types root.crdt) p.roots n root (and_parts _ _ f.roots).1 is

-- an operation's arguments are data
pub op-data : (p : Prog) → Facts p → (n : ℕ) (op : OpDecl) → At p.ops n op → list_all is_data op.args ≡ true
op-data p f n op at = elim (op-is p.roots p.ops n op f.ops at) [
  | inl tx ↦ ap (list_all is_data) (nothing op.args (and_parts _ _ tx).1)
  | inr is ↦
      let stands = op-stands op.kind _ _ (and_parts _ _ is).1 in
      let path = path-data p.types (root_crdt (slice_get p.roots op.root)) (root-fine p f op.root) op.path op.args stands.end stands.args stands.leads stands.takes in
      path.1 (own-data (op_takes op.kind stands.end) stands.args (λ t e. takes-data p.types op.kind stands.end t path.0 e) stands.fit)
]
