-- Terms of expressions have the elements of what the expressions mean.
use Rattle.std.proofs.Common.{◌≡◌, ℕ, ℤ, zero, suc, ◌<◌, List, [], ◌∷◌, length, slice_get, Bool, true, false, ◌&&◌, if◌then◌else◌, Option, Some, None, refl, sym, ap, ap₂, ◌∙◌, subst, true≢false, ◌+ℤ◌, ◌-ℤ◌, eq-eqb, arith}
use Rattle.std.specs.List.{list_all}
use Rattle.std.proofs.lemmas.Option.{none-some, same_Some}
use Rattle.rp_value.specs.declared.tables.Ty.{Ty}
use Rattle.rp_value.specs.declared.tables.Ty.TheVariants as ty
use Rattle.rp_value.specs.declared.tables.ConDecl.{ConDecl}
use Rattle.rp_value.specs.Values as val
use Rattle.rp_value.specs.Values.{Val, Vals, no_val, also_val}
use Rattle.rp_value.specs.ValueView.{vals_of}
use Rattle.rp_lang.specs.declared.query.QueryDecl.{QueryDecl}
use Rattle.rp_lang.specs.Exprs as ex
use Rattle.rp_lang.specs.Exprs.{Ex, Exs, no_ex, also_ex}
use Rattle.rp_lang.specs.Types as types
use Rattle.rp_lang.specs.Types.{same_ty, is_ty, agree, datatype_of, datatype_in, fields_in}
use Rattle.rp_lang.specs.Typing.{Frame, slot_ty, type_of, have_types, is_get, query_args, value_asked}
use Rattle.rp_lang.specs.Programs.{Prog}
use Rattle.crdt_defs.specs.Calls.{Call}
use Rattle.crdt_defs.specs.Parts.{Parts}
use Rattle.crdt_defs.specs.Fitting.{fits, fields_fit, all_fit, cons_to, fields_of}
use Rattle.crdt_defs.specs.Truths as truths
use Rattle.crdt_defs.specs.Truths.{Reading, slot_value, or_false, number, asked, call_at, origin_of, Meant, Plain, list_of, meant}
use Rattle.rp_logic.specs.Terms.{Tm}
use Rattle.rp_logic.specs.Elements.{Elem, Whole, Made, also_elem}
use Rattle.rp_logic.specs.Structures.{number_of}
use Rattle.rp_logic.specs.Truth.{Meaning, value, values}
use Rattle.std.proofs.lemmas.Bool.{and_parts, and_from}
use Rattle.rp_logic.proofs.SortLaws.{no}
use Rattle.rp_symbols.specs.Numbers.{origin_fn}
use Rattle.rp_lang.proofs.TypeFacts.{is_data, is-type, given-some}
use Rattle.crdt_enc.specs.Elements.{elem_of, elems_in, elems_of}
use Rattle.crdt_enc.specs.Places.{At}
use Rattle.rp_symbols.specs.Numbers.{val_fn}
use Rattle.crdt_enc.specs.FormulaFormulas.{Bound, Around, or_false_tm, bound_tm, term_of, terms_of, is_inv, is_inv_type}
use Rattle.crdt_enc.proofs.StageFacts.{Staged}
use Rattle.crdt_enc.specs.FitsParts.{value_at, applied_to}

-- a type of values: data, calls and invocations
abbrev pub is_plain : Ty → Bool
is_plain ty.Operation = false
is_plain ty.Info = false
is_plain ty.Outcome = false
is_plain _ = true

-- the value is of the type, in these parts
abbrev pub HasType : Prog → Parts → Ty → Val → Type 0
HasType p parts ty.Call v = (c : ℕ) × (v ≡ val.Call c) × (c < length parts.calls)
HasType p parts ty.Inv v = (i : ℕ) × (v ≡ val.Inv i) × (i < length parts.infos)
HasType p parts t v = fits p t v ≡ true

pub data-plain : (t : Ty) → is_data t ≡ true → is_plain t ≡ true
data-plain ty.Int h = refl
data-plain ty.Str h = refl
data-plain (ty.Atom n) h = refl
data-plain (ty.Datatype n) h = refl
data-plain _ h = no h

pub data-fits : (p : Prog) (parts : Parts) (t : Ty) (v : Val) → is_data t ≡ true → HasType p parts t v → fits p t v ≡ true
data-fits p parts ty.Int v h k = k
data-fits p parts ty.Str v h k = k
data-fits p parts (ty.Atom n) v h k = k
data-fits p parts (ty.Datatype n) v h k = k
data-fits p parts _ v h k = no h

pub fits-data : (p : Prog) (parts : Parts) (t : Ty) (v : Val) → is_data t ≡ true → fits p t v ≡ true → HasType p parts t v
fits-data p parts ty.Int v h k = k
fits-data p parts ty.Str v h k = k
fits-data p parts (ty.Atom n) v h k = k
fits-data p parts (ty.Datatype n) v h k = k
fits-data p parts _ v h k = no h

-- # What stands around

abbrev pub BoundsRead : Prog → Parts → Meaning → List Elem → List Ty → List Bound → List Val → Type 0
BoundsRead p parts M vars [] [] [] = Unit {0}
BoundsRead p parts M vars (t ∷ tys) (b ∷ bounds) (v ∷ vs) =
    (b.ty ≡ t) × (value M vars b.term ≡ elem_of v) × HasType p parts t v × BoundsRead p parts M vars tys bounds vs
BoundsRead p parts M vars _ _ _ = ⊥

pub record ReadsAt (p : Prog) (parts : Parts) (M : Meaning) (vars : List Elem) (t : Ty) (bound : Option Bound) (v : Val) : Type 0 where
  pub same : value M vars (bound_tm bound) ≡ elem_of v
  pub typed : HasType p parts t v
  pub inv : is_inv bound ≡ is_inv_type t

pub bound-at : (p : Prog) (parts : Parts) (M : Meaning) (vars : List Elem) (tys : List Ty) (bounds : List Bound) (vs : List Val) → BoundsRead p parts M vars tys bounds vs
    → (n : ℕ) (t : Ty) → slice_get tys n ≡ Some t → ReadsAt p parts M vars t (slice_get bounds n) (or_false (slice_get vs n))
bound-at p parts M vars (u ∷ tys) (b ∷ bounds) (v ∷ vs) r zero t e =
    let s = same_Some u t e in record { same = r.1; typed = subst (λ x. HasType p parts x v) s r.2; inv = ap is_inv_type (r.0 ∙ s) }
bound-at p parts M vars (u ∷ tys) (b ∷ bounds) (v ∷ vs) r (suc n) t e = bound-at p parts M vars tys bounds vs r.3 n t e
bound-at p parts M vars [] bounds vs r n t e = absurd (none-some t e)
bound-at p parts M vars (u ∷ tys) [] vs r n t e = elim r [ ]
bound-at p parts M vars (u ∷ tys) (b ∷ bounds) [] r n t e = elim r [ ]

abbrev pub SlotsRead : Reading → Meaning → Frame → List Tm → Type 0
SlotsRead r M frame slots =
    (s : ℕ) (t : Ty) → slot_ty frame s ≡ Some t → (is_data t ≡ true) × (fits r.program t (slot_value (slice_get r.slots s)) ≡ true)
    × ((vars : List Elem) → value M vars (or_false_tm (slice_get slots s)) ≡ elem_of (slot_value (slice_get r.slots s)))

-- # Small steps

pub call-there : (h : List Call) (c : ℕ) → c < length h → (call : Call) × (slice_get h c ≡ Some call)
call-there [] c lt = absurd (omega arith)
call-there (x ∷ h) zero lt = (x, refl)
call-there (x ∷ h) (suc c) lt = call-there h c (omega arith)

int-value : (p : Prog) (parts : Parts) (v : Val) → HasType p parts ty.Int v → number_of (elem_of v) ≡ number v
int-value p parts (val.Int n) h = refl
int-value p parts _ h = no h

int-type : (p : Prog) (parts : Parts) (t : Ty) (n : ℤ) → Some ty.Int ≡ Some t → HasType p parts t (val.Int n)
int-type p parts t n e = subst (λ t. HasType p parts t (val.Int n)) (same_Some ty.Int t e) refl

con-type : (p : Prog) (parts : Parts) (con : ℕ) (vs : Vals) (t : Ty) → datatype_of p.cons con ≡ Some t → fields_fit p (types.fields_of p.cons con) vs ≡ true → HasType p parts t (val.Con con vs)
con-type p parts con vs t e f = go (slice_get p.cons.cons con) refl e f
  where
    go : (o : Option ConDecl) → slice_get p.cons.cons con ≡ o → datatype_in o ≡ Some t → fields_fit p (fields_in o) vs ≡ true → HasType p parts t (val.Con con vs)
    go None is e f = absurd (none-some t e)
    go (Some decl) is e f =
        subst (λ t. HasType p parts t (val.Con con vs)) (same_Some (ty.Datatype decl.of) t e)
        (ap (λ o. cons_to decl.of o && fields_fit p (fields_of o) vs) is ∙ and_from _ _ (eq-eqb decl.of decl.of refl) f)

no-plain : {A : Type 0} (t u : Ty) → Some u ≡ Some t → is_plain u ≡ false → is_plain t ≡ true → A
no-plain t u e n d = absurd (true≢false (sym d ∙ (ap is_plain (sym (same_Some u t e)) ∙ n)))

pub listed-fit : (p : Prog) (ts : List Ty) (vs : Vals) → fields_fit p ts vs ≡ true → all_fit p ts (list_of vs) ≡ true
listed-fit p [] no_val h = refl
listed-fit p [] (also_val v vs) h = no h
listed-fit p (t ∷ ts) no_val h = no h
listed-fit p (t ∷ ts) (also_val v vs) h = let b = and_parts (fits p t v) (fields_fit p ts vs) h in and_from (fits p t v) _ b.0 (listed-fit p ts vs b.1)

pub listed-elems : (vs : Vals) → elems_in vs ≡ elems_of (list_of vs)
listed-elems no_val = refl
listed-elems (also_val v vs) = ap (also_elem (elem_of v)) (listed-elems vs)

pub viewed-elems : (vs : List Val) → elems_in (vals_of vs) ≡ elems_of vs
viewed-elems [] = refl
viewed-elems (v ∷ vs) = ap (also_elem (elem_of v)) (viewed-elems vs)

pub get-query : (queries : List QueryDecl) (n : ℕ) (t : Ty) → value_asked (slice_get queries n) ≡ Some t
    → (query : QueryDecl) × (slice_get queries n ≡ Some query) × (is_get query.kind ≡ true) × (query.result ≡ t)
get-query queries n t e = go (slice_get queries n) refl e
  where
    pick : (query : QueryDecl) (b : Bool) → is_get query.kind ≡ b → (if b then Some query.result else None) ≡ Some t → (is_get query.kind ≡ true) × (query.result ≡ t)
    pick query true k h = (k, same_Some query.result t h)
    pick query false k h = absurd (none-some t h)

    go : (o : Option QueryDecl) → slice_get queries n ≡ o → value_asked o ≡ Some t → (query : QueryDecl) × (slice_get queries n ≡ Some query) × (is_get query.kind ≡ true) × (query.result ≡ t)
    go None is h = absurd (none-some t h)
    go (Some query) is h = let r = pick query (is_get query.kind) refl h in (query, is, r.0, r.1)

-- # Terms

module _ (r : Reading) (M : Meaning) (at : At) (stage : Staged r M at) (frame : Frame) where
  abbrev pub Reads : List Elem → Around → List Ty → List Val → Type 0
  Reads vars a tys binders = SlotsRead r M frame a.slots × BoundsRead r.program r.parts M vars tys a.bounds binders

  mutual
    pub value-is : (e : Ex) (t : Ty) (vars : List Elem) (a : Around) (tys : List Ty) (binders : List Val) → Reads vars a tys binders → type_of r.program frame tys e ≡ Some t → is_plain t ≡ true
        → (value M vars (term_of r.program at a e) ≡ elem_of (truths.value r binders e)) × HasType r.program r.parts t (truths.value r binders e)
    value-is (ex.Slot s) t vars a tys bs w e d = let k = w.0 s t e in (k.2 vars, fits-data r.program r.parts t _ k.0 k.1)
    value-is (ex.Bound n) t vars a tys bs w e d = let k = bound-at r.program r.parts M vars tys a.bounds bs w.1 n t e in (k.same, k.typed)
    value-is (ex.Int n) t vars a tys bs w e d = (refl, int-type r.program r.parts t n (given-some _ _ t e).1)
    value-is (ex.Str bytes) t vars a tys bs w e d = (refl, subst (λ t. HasType r.program r.parts t (val.Str bytes)) (same_Some ty.Str t e) refl)
    value-is (ex.Con con args) t vars a tys bs w e d =
        let g = given-some _ _ t e in
        let k = values-are (types.fields_of r.program.cons con) args vars a tys bs w g.0 (stage.fields con) in
        (ap (Made con) k.0, con-type r.program r.parts con _ t g.1 k.1)
    value-is (ex.Plus b n) t vars a tys bs w e d =
        let g = given-some _ _ t e in
        let k = value-is b ty.Int vars a tys bs w (is-type _ ty.Int (and_parts _ _ g.0).1) refl in
        (ap (λ m. Whole (m +ℤ n)) (ap number_of k.0 ∙ int-value r.program r.parts _ k.1), int-type r.program r.parts t _ g.1)
    value-is (ex.Add b c) t vars a tys bs w e d =
        let g = given-some _ _ t e in
        let s = and_parts _ _ g.0 in
        let k = value-is b ty.Int vars a tys bs w (is-type _ ty.Int s.0) refl in
        let l = value-is c ty.Int vars a tys bs w (is-type _ ty.Int s.1) refl in (
          stage.parts.sums _ ∙ ap₂ (λ m n. Whole (m +ℤ n)) (ap number_of k.0 ∙ int-value r.program r.parts _ k.1) (ap number_of l.0 ∙ int-value r.program r.parts _ l.1),
          int-type r.program r.parts t _ g.1,
        )
    value-is (ex.Sub b c) t vars a tys bs w e d =
        let g = given-some _ _ t e in
        let s = and_parts _ _ g.0 in
        let k = value-is b ty.Int vars a tys bs w (is-type _ ty.Int s.0) refl in
        let l = value-is c ty.Int vars a tys bs w (is-type _ ty.Int s.1) refl in (
          stage.parts.differences _ ∙ ap₂ (λ m n. Whole (m -ℤ n)) (ap number_of k.0 ∙ int-value r.program r.parts _ k.1) (ap number_of l.0 ∙ int-value r.program r.parts _ l.1),
          int-type r.program r.parts t _ g.1,
        )
    value-is (ex.Query n args) t vars a tys bs w e d =
        let g = given-some _ _ t e in
        let q = get-query r.program.queries n t g.1 in
        let types' : have_types r.program frame tys q.0.args args ≡ true = ap (λ o. have_types r.program frame tys (query_args o) args) (sym q.1) ∙ (and_parts _ _ g.0).1 in
        let k = values-are q.0.args args vars a tys bs w types' (stage.asks_data n q.0 q.1).0 in
        let f = listed-fit r.program q.0.args _ k.1 in (
          ap (applied_to M (val_fn r.program at.view n)) (k.0 ∙ listed-elems _) ∙ stage.vals.asked_is n q.0 _ q.1 q.2 f,
          subst (λ t. HasType r.program r.parts t (asked r n (list_of (truths.values r bs args)))) q.3 (fits-data r.program r.parts q.0.result _ (stage.asks_data n q.0 q.1).1 (stage.answers n q.0 _ q.1 q.2 f)),
        )
    value-is (ex.OriginOf call) t vars a tys bs w e d =
        let g = given-some _ _ t e in
        let k = value-is call ty.Call vars a tys bs w (is-type _ ty.Call g.0) refl in
        let c = call-there r.parts.calls k.1.0 k.1.2 in
        let there : call_at r.parts (truths.value r bs call) ≡ Some c.0 = ap (call_at r.parts) k.1.1 ∙ c.1 in (
          ap (λ x. value_at M origin_fn x) (k.0 ∙ ap elem_of k.1.1) ∙ (stage.parts.origins k.1.0 c.0 c.1 ∙ ap (λ o. elem_of (origin_of o)) (sym there)),
          subst (λ t. HasType r.program r.parts t (origin_of (call_at r.parts (truths.value r bs call)))) (same_Some ty.Inv t g.1) (c.0.inv, ap origin_of there, stage.origins k.1.0 c.0 c.1),
        )
    value-is (ex.OpOf call) t vars a tys bs w e d = no-plain t ty.Operation (given-some _ _ t e).1 refl d
    value-is (ex.OpTerm op args) t vars a tys bs w e d = no-plain t ty.Operation (given-some _ _ t e).1 refl d
    value-is (ex.InfoOf inv) t vars a tys bs w e d = no-plain t ty.Info (given-some _ _ t e).1 refl d
    value-is (ex.InfoTerm proc args) t vars a tys bs w e d = no-plain t ty.Info (given-some _ _ t e).1 refl d
    value-is (ex.ResultOf inv) t vars a tys bs w e d = no-plain t ty.Outcome (given-some _ _ t e).1 refl d
    value-is (ex.ResultTerm proc) t vars a tys bs w e d = no-plain t ty.Outcome (given-some _ _ t e).1 refl d
    value-is (ex.ResultWith proc v) t vars a tys bs w e d = no-plain t ty.Outcome (given-some _ _ t e).1 refl d
    value-is ex.Unreturned t vars a tys bs w e d = no-plain t ty.Outcome e refl d

    pub values-are : (ts : List Ty) (es : Exs) (vars : List Elem) (a : Around) (tys : List Ty) (binders : List Val) → Reads vars a tys binders → have_types r.program frame tys ts es ≡ true
        → list_all is_data ts ≡ true → (values M vars (terms_of r.program at a es) ≡ elems_in (truths.values r binders es)) × (fields_fit r.program ts (truths.values r binders es) ≡ true)
    values-are [] no_ex vars a tys bs w e d = (refl, refl)
    values-are [] (also_ex x es) vars a tys bs w e d = no e
    values-are (t ∷ ts) no_ex vars a tys bs w e d = no e
    values-are (t ∷ ts) (also_ex x es) vars a tys bs w e d =
        let b = and_parts _ _ e in
        let c = and_parts _ _ d in
        let k = value-is x t vars a tys bs w (is-type _ t b.0) (data-plain t c.0) in
        let l = values-are ts es vars a tys bs w b.1 c.1 in
        (ap₂ also_elem k.0 l.0, and_from _ _ (data-fits r.program r.parts t _ c.0 k.1) l.1)
