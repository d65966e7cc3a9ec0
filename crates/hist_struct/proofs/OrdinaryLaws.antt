-- The types of what queries, operations and procedures take are types of data, with their numbers in range.
use Rattle.std.proofs.Common.{◌≡◌, ◌<◌, ℕ, Bool, true, false, if◌then◌else◌, List, [], ◌∷◌, length, Option, Some, None, slice_get, refl, sym, ap, ◌∙◌, subst, inl, inr, ltb-true}
use Rattle.std.proofs.lemmas.Bool.{and_parts, and_from}
use Rattle.std.proofs.lemmas.Option.{none-some, same_Some}
use Rattle.rp_value.specs.declared.tables.Ty.{Ty}
use Rattle.rp_value.specs.declared.tables.Ty.TheVariants as ty
use Rattle.rp_value.specs.declared.tables.TypeTable.{TypeTable}
use Rattle.rp_value.specs.declared.tables.ConTable.{ConTable}
use Rattle.rp_lang.specs.Crdts.{Cr, SetAw, SetRw, Reg, MvReg, Counter, MapUw, MapDw}
use Rattle.rp_lang.specs.declared.op.OpDecl.{OpDecl}
use Rattle.rp_lang.specs.declared.op.OpKind.{OpKind}
use Rattle.rp_lang.specs.declared.op.OpKind.TheVariants.{Tx, Add, Remove, Assign, Increment, Delete}
use Rattle.rp_lang.specs.declared.op.PathStep.{PathStep}
use Rattle.rp_lang.specs.declared.op.PathStep.TheVariants.{Field, Key}
use Rattle.rp_lang.specs.declared.query.QueryDecl.{QueryDecl}
use Rattle.rp_lang.specs.declared.query.QueryKind.{QueryKind}
use Rattle.rp_lang.specs.declared.query.QueryKind.TheVariants.{Contains, HasKey, GetReg, GetSum}
use Rattle.rp_lang.specs.Types.{same_ty, is_ordinary, are_ordinary}
use Rattle.rp_lang.specs.Paths.{is_crdt, field_in, held_at, reached, own_args, root_crdt, is_one_of, elements_of, values_of, keys_of, members_of, value_of, amounts_of, op_takes, is_maybe_in, query_fits, is_query}
use Rattle.rp_lang.specs.Typing.{is_get}
use Rattle.rp_lang.specs.WellFormed.{begins, is_result}
use Rattle.rp_lang.specs.Programs.{Rt, Prog, Proc}
use Rattle.rp_lang.proofs.ProgramFacts.{Facts, nothing, only, op-is, op-stands, reached-from, own-step, procedure-of}
use Rattle.rp_lang.proofs.TypeFacts.{each, same-type, is-type}
use Rattle.event_machine.proofs.AnswerFits.{query-leads}
use Rattle.rp_logic.proofs.SortLaws.{no}
use Rattle.crdt_enc.proofs.StageFacts.{in-field, root-fine}

-- # Along a path

held-ordinary : (types : TypeTable) (keys t : Ty) (held c : Cr) (b : Bool) → same_ty keys t ≡ b → is_ordinary types keys ≡ true → is_crdt types held ≡ true → (if b then Some held else None) ≡ Some c
    → (is_ordinary types t ≡ true) × (is_crdt types c ≡ true)
held-ordinary types keys t held c true same k h e = (ap (is_ordinary types) (sym (same-type keys t same)) ∙ k, ap (is_crdt types) (sym (same_Some held c e)) ∙ h)
held-ordinary types keys t held c false same k h e = absurd (none-some c e)

at-key : (types : TypeTable) (crdt : Cr) (t : Ty) (c : Cr) → is_crdt types crdt ≡ true → held_at t crdt ≡ Some c → (is_ordinary types t ≡ true) × (is_crdt types c ≡ true)
at-key types (MapUw keys held) t c h e = let b = and_parts _ _ h in held-ordinary types keys t held c (same_ty keys t) refl b.0 b.1 e
at-key types (MapDw keys held) t c h e = let b = and_parts _ _ h in held-ordinary types keys t held c (same_ty keys t) refl b.0 b.1 e
at-key types _ t c h e = absurd (none-some c e)

path-ordinary : (types : TypeTable) (o : Option Cr) → ((c : Cr) → o ≡ Some c → is_crdt types c ≡ true) → (path : List PathStep) (tys : List Ty) (end : Cr) (own : List Ty)
    → reached o path ≡ Some end → own_args path tys ≡ Some own → (is_crdt types end ≡ true) × (are_ordinary types own ≡ true → are_ordinary types tys ≡ true)
path-ordinary types None fine path tys end own r o = absurd (none-some end r)
path-ordinary types (Some crdt) fine [] tys end own r o =
    (ap (is_crdt types) (sym (same_Some crdt end r)) ∙ fine crdt refl, λ h. ap (are_ordinary types) (same_Some tys own o) ∙ h)
path-ordinary types (Some crdt) fine (Field n ∷ path) tys end own r o =
    path-ordinary types (field_in crdt n) (λ c e. in-field types crdt n c (fine crdt refl) e) path tys end own r o
path-ordinary types (Some crdt) fine (Key ty ∷ path) [] end own r o = absurd (none-some own o)
path-ordinary types (Some crdt) fine (Key ty ∷ path) (t ∷ tys) end own r o =
    let c = reached-from (held_at ty crdt) path end r in
    let key = at-key types crdt ty c.0 (fine crdt refl) c.1 in
    let same = own-step t ty path tys own (same_ty t ty) refl o in
    let rest = path-ordinary types (held_at ty crdt) (λ c e. (at-key types crdt ty c (fine crdt refl) e).1) path tys end own r same.1 in
    (rest.0, λ h. and_from (is_ordinary types t) (are_ordinary types tys) (ap (is_ordinary types) same.0 ∙ key.0) (rest.1 h))

one-ordinary : (types : TypeTable) (o : Option Ty) (tys : List Ty) → ((t : Ty) → o ≡ Some t → is_ordinary types t ≡ true) → is_one_of o tys ≡ true → are_ordinary types tys ≡ true
one-ordinary types None tys f h = no h
one-ordinary types (Some t) tys f h = ap (are_ordinary types) (only t tys h) ∙ and_from (is_ordinary types t) true (f t refl) refl

this : (types : TypeTable) (u t : Ty) → is_ordinary types u ≡ true → Some u ≡ Some t → is_ordinary types t ≡ true
this types u t h e = ap (is_ordinary types) (sym (same_Some u t e)) ∙ h

elements-ordinary : (types : TypeTable) (crdt : Cr) (t : Ty) → is_crdt types crdt ≡ true → elements_of crdt ≡ Some t → is_ordinary types t ≡ true
elements-ordinary types (SetAw u) t h e = this types u t h e
elements-ordinary types (SetRw u) t h e = this types u t h e
elements-ordinary types _ t h e = absurd (none-some t e)

values-ordinary : (types : TypeTable) (crdt : Cr) (t : Ty) → is_crdt types crdt ≡ true → values_of crdt ≡ Some t → is_ordinary types t ≡ true
values-ordinary types (Reg u) t h e = this types u t h e
values-ordinary types (MvReg u) t h e = this types u t h e
values-ordinary types _ t h e = absurd (none-some t e)

keys-ordinary : (types : TypeTable) (crdt : Cr) (t : Ty) → is_crdt types crdt ≡ true → keys_of crdt ≡ Some t → is_ordinary types t ≡ true
keys-ordinary types (MapUw u c) t h e = this types u t (and_parts (is_ordinary types u) _ h).0 e
keys-ordinary types (MapDw u c) t h e = this types u t (and_parts (is_ordinary types u) _ h).0 e
keys-ordinary types _ t h e = absurd (none-some t e)

members-ordinary : (types : TypeTable) (crdt : Cr) (t : Ty) → is_crdt types crdt ≡ true → members_of crdt ≡ Some t → is_ordinary types t ≡ true
members-ordinary types (SetAw u) t h e = this types u t h e
members-ordinary types (SetRw u) t h e = this types u t h e
members-ordinary types (MvReg u) t h e = this types u t h e
members-ordinary types _ t h e = absurd (none-some t e)

amounts-ordinary : (types : TypeTable) (crdt : Cr) (t : Ty) → amounts_of crdt ≡ Some t → is_ordinary types t ≡ true
amounts-ordinary types Counter t e = this types ty.Int t refl e
amounts-ordinary types _ t e = absurd (none-some t e)

takes-ordinary : (types : TypeTable) (kind : OpKind) (crdt : Cr) (t : Ty) → is_crdt types crdt ≡ true → op_takes kind crdt ≡ Some t → is_ordinary types t ≡ true
takes-ordinary types Tx crdt t h e = absurd (none-some t e)
takes-ordinary types Add crdt t h e = elements-ordinary types crdt t h e
takes-ordinary types Remove crdt t h e = elements-ordinary types crdt t h e
takes-ordinary types Assign crdt t h e = values-ordinary types crdt t h e
takes-ordinary types Increment crdt t h e = amounts-ordinary types crdt t e
takes-ordinary types Delete crdt t h e = keys-ordinary types crdt t h e

own-ordinary : (types : TypeTable) (cons : ConTable) (kind : QueryKind) (crdt : Cr) (tys : List Ty) (result : Ty) → is_crdt types crdt ≡ true → query_fits types cons kind crdt tys result ≡ true → are_ordinary types tys ≡ true
own-ordinary types cons Contains crdt tys result h s = one-ordinary types (members_of crdt) tys (λ t e. members-ordinary types crdt t h e) (and_parts (is_one_of (members_of crdt) tys) _ s).0
own-ordinary types cons HasKey crdt tys result h s = one-ordinary types (keys_of crdt) tys (λ t e. keys-ordinary types crdt t h e) (and_parts (is_one_of (keys_of crdt) tys) _ s).0
own-ordinary types cons GetReg crdt tys result h s = ap (are_ordinary types) (nothing tys (and_parts _ _ s).0)
own-ordinary types cons GetSum crdt tys result h s = ap (are_ordinary types) (nothing tys (and_parts _ _ s).0)

-- # Of the program

fine : (p : Prog) → Facts p → (root : ℕ) (c : Cr) → root_crdt (slice_get p.roots root) ≡ Some c → is_crdt p.types c ≡ true
fine p f root = root-fine p f (slice_get p.roots root) (λ r e. each (λ (r : Rt). is_crdt p.types r.crdt) p.roots root r (and_parts _ _ f.roots).1 e)

pub op-ordinary : (p : Prog) → Facts p → (n : ℕ) (op : OpDecl) → slice_get p.ops n ≡ Some op → are_ordinary p.types op.args ≡ true
op-ordinary p f n op at = elim (op-is p.roots p.ops n op f.ops at) [
  | inl tx ↦ ap (are_ordinary p.types) (nothing op.args (and_parts _ _ tx).1)
  | inr is ↦
      let stands = op-stands op.kind _ _ (and_parts _ _ is).1 in
      let path = path-ordinary p.types (root_crdt (slice_get p.roots op.root)) (fine p f op.root) op.path op.args stands.end stands.args stands.leads stands.takes in
      path.1 (one-ordinary p.types (op_takes op.kind stands.end) stands.args (λ t e. takes-ordinary p.types op.kind stands.end t path.0 e) stands.fit)
]

pub query-ordinary : (p : Prog) → Facts p → (n : ℕ) (query : QueryDecl) → slice_get p.queries n ≡ Some query → are_ordinary p.types query.args ≡ true
query-ordinary p f n query at =
    let ends = query-leads p query (each (is_query p.types p.cons p.roots) p.queries n query f.queries at) in
    let path = path-ordinary p.types (root_crdt (slice_get p.roots query.root)) (fine p f query.root) query.path query.args ends.crdt ends.own ends.leads ends.takes in
    path.1 (own-ordinary p.types p.cons query.kind ends.crdt ends.own query.result path.0 ends.fit)

begun : (types : TypeTable) (ts us : List Ty) → begins ts us ≡ true → are_ordinary types us ≡ true → are_ordinary types ts ≡ true
begun types [] us h o = refl
begun types (t ∷ ts) [] h o = no h
begun types (t ∷ ts) (u ∷ us) h o =
    let b = and_parts (same_ty u t) (begins ts us) h in
    let d = and_parts (is_ordinary types u) (are_ordinary types us) o in
    and_from (is_ordinary types t) (are_ordinary types ts) (ap (is_ordinary types) (sym (same-type u t b.0)) ∙ d.0) (begun types ts us b.1 d.1)

-- of the test of a procedure the last part is outermost
pub params-ordinary : (p : Prog) → Facts p → (n : ℕ) (q : Proc) → slice_get p.procs n ≡ Some q → are_ordinary p.types q.params ≡ true
params-ordinary p f n q e =
    let four = and_parts _ _ (and_parts _ _ (and_parts _ _ (and_parts _ _ (procedure-of p f n q e)).0).0).0 in
    let two = and_parts _ _ four.0 in
    begun p.types q.params q.slots two.0 two.1

pub result-ordinary : (p : Prog) → Facts p → (n : ℕ) (q : Proc) (t : Ty) → slice_get p.procs n ≡ Some q → q.result ≡ Some t → is_ordinary p.types t ≡ true
result-ordinary p f n q t e is =
    let four = and_parts _ _ (and_parts _ _ (and_parts _ _ (and_parts _ _ (procedure-of p f n q e)).0).0).0 in
    subst (λ o. is_result p.types o ≡ true) is four.1

-- # Types of identifiers with their numbers in range

abbrev pub Ranged : Prog → Ty → Type 0
Ranged p (ty.Atom n) = n < length p.types.atoms
Ranged p _ = Unit {0}

pub ordinary-ranged : (p : Prog) (t : Ty) → is_ordinary p.types t ≡ true → Ranged p t
ordinary-ranged p (ty.Atom n) h = ltb-true n (length p.types.atoms) h
ordinary-ranged p ty.Int h = tt
ordinary-ranged p ty.Str h = tt
ordinary-ranged p (ty.Datatype n) h = tt
ordinary-ranged p _ h = no h

maybe-ranged : (p : Prog) (o : Option Ty) (t : Ty) → is_maybe_in p.types p.cons o t ≡ true → Ranged p t
maybe-ranged p None t h = no h
maybe-ranged p (Some u) (ty.Datatype n) h = tt
maybe-ranged p (Some u) _ h = no h

amount-ranged : (p : Prog) (crdt : Cr) (t : Ty) → amounts_of crdt ≡ Some t → Ranged p t
amount-ranged p Counter t e = subst (Ranged p) (same_Some ty.Int t e) tt
amount-ranged p _ t e = absurd (none-some t e)

-- what a query gives
pub answer-ranged : (p : Prog) → Facts p → (n : ℕ) (query : QueryDecl) → slice_get p.queries n ≡ Some query → is_get query.kind ≡ true → Ranged p query.result
answer-ranged p f n query at get =
    let ends = query-leads p query (each (is_query p.types p.cons p.roots) p.queries n query f.queries at) in go query.kind get ends.crdt ends.own ends.fit
  where
    go : (kind : QueryKind) → is_get kind ≡ true → (crdt : Cr) (own : List Ty) → query_fits p.types p.cons kind crdt own query.result ≡ true → Ranged p query.result
    go GetReg g crdt own h = maybe-ranged p (value_of crdt) query.result (and_parts _ _ h).1
    go GetSum g crdt own h = amount-ranged p crdt query.result (is-type (amounts_of crdt) query.result (and_parts _ _ h).1)
    go Contains g crdt own h = no g
    go HasKey g crdt own h = no g
