-- The formula of logic for a formula of a program is true exactly where that is.
use Rattle.std.proofs.Common.{◌≡◌, ℕ, ℤ, pos, negsuc, ◌+ℤ◌, int_le, zero, suc, ◌+◌, ◌<◌, nat_lt, nat_eq, List, [], ◌∷◌, length, map, slice_get, Bool, true, false, not, ◌&&◌, ◌||◌, cond, ◌↔◌, if◌then◌else◌, Option, Some, None, refl, sym, ap, ap₂, ◌∙◌, subst, eqb-true, eq-eqb, lt-ltb, true≢false, ◌⊎◌, ◌≤ℤ◌, ◌<ℤ◌, inl, inr, arith}
use Rattle.std.specs.Prelude.{int_lt}
use Rattle.std.proofs.lemmas.Int.{ints}
use Rattle.std.specs.List.{list_all}
use Rattle.std.proofs.lemmas.Option.{none-some, same_Some}
use Rattle.rp_value.specs.declared.tables.Ty.{Ty}
use Rattle.rp_value.specs.declared.tables.Ty.TheVariants as ty
use Rattle.rp_value.specs.Values as val
use Rattle.rp_value.specs.Values.{Val, Vals, no_val, also_val}
use Rattle.rp_lang.specs.declared.query.QueryDecl.{QueryDecl}
use Rattle.rp_lang.specs.Exprs as ex
use Rattle.rp_lang.specs.Exprs.{Ex, Exs}
use Rattle.rp_lang.specs.Formulas as fo
use Rattle.rp_lang.specs.Formulas.{Fo, Fos, no_fo, also_fo, Arms, no_arm, also_arm}
use Rattle.rp_lang.specs.Types as types
use Rattle.rp_lang.specs.Types.{is_ty, bool_ty, datatype_in}
use Rattle.rp_value.specs.declared.tables.ConDecl.{ConDecl}
use Rattle.rp_lang.specs.Typing as typing
use Rattle.rp_lang.specs.Typing.{Frame, type_of, have_types, is_get, is_asked, query_args, is_question, is_truth, is_typed, are_typed, are_typed_arms, are_comparable, are_both, is_range, is_among}
use Rattle.rp_lang.specs.Programs.{Prog}
use Rattle.crdt_defs.specs.Histories.{before, same_tx}
use Rattle.crdt_defs.specs.Parts as parts
use Rattle.crdt_defs.specs.Parts.{Parts, bound, is_in_range, member}
use Rattle.crdt_defs.specs.Fitting as fitting
use Rattle.crdt_defs.specs.Fitting.{fits, fields_fit, all_fit}
use Rattle.crdt_defs.specs.Queries as queries
use Rattle.crdt_defs.specs.Queries.{answer_in}
use Rattle.rp_lang.specs.Paths.{root_crdt}
use Rattle.crdt_defs.specs.declared.asked.Answer.TheVariants.{Truth}
use Rattle.crdt_defs.specs.Truths as truths
use Rattle.crdt_defs.specs.Truths.{Reading, number, asked, answer_val, is_visible, truth, all_true, any_true, arm_true, bind, bind_fields, is_built, Plain, meant}
use Rattle.rp_logic.specs.Terms as tm
use Rattle.rp_logic.specs.Terms.{Tm, Tms, no_tm, also_tm}
use Rattle.rp_logic.specs.Formulas as fm
use Rattle.rp_logic.specs.Formulas.{Fm, Fms, no_fm, also_fm}
use Rattle.rp_logic.specs.Elements.{Elem, Elems, Point, Made, no_elem, same_elem}
use Rattle.rp_logic.specs.Structures as structures
use Rattle.rp_logic.specs.Structures.{number_of}
use Rattle.rp_logic.specs.Truth.{Meaning, Holds, AllHold, NoneHolds, value, values}
use Rattle.rp_logic.proofs.DualLaws.{dual_law}
use Rattle.rp_logic.proofs.ElementLaws.{same-is, same-self}
use Rattle.rp_logic.proofs.FillingLaws.{raised-value}
use Rattle.reshape.proofs.ReshapeLaws.{selected-is}
use Rattle.std.proofs.lemmas.Bool.{and_parts, and_from}
use Rattle.rp_logic.proofs.SortLaws.{no}
use Rattle.rp_symbols.specs.Numbers.{same_rel}
use Rattle.crdt_enc.specs.Ways.{Root}
use Rattle.crdt_enc.specs.Elements as elements
use Rattle.crdt_enc.specs.Elements.{elem_of, elems_in, elems_of}
use Rattle.crdt_enc.specs.Builders as builders
use Rattle.crdt_enc.specs.Places.{At}
use Rattle.crdt_enc.specs.QueryFormulas.{query_formula}
use Rattle.crdt_enc.specs.FormulaFormulas as formulas
use Rattle.crdt_enc.specs.FormulaFormulas.{Bound, Around, term_of, terms_of, under, raised_bounds, under_fields, sort_of, guard, each_under, some_under, gives_inv, asks, true_formula, formula_of, formulas_of, arms_of}
use Rattle.crdt_enc.specs.FitsParts.{Is, holds_of, holds_of_two}
use Rattle.crdt_enc.proofs.CallLaws.{selectors-give, values-in, map-count}
use Rattle.crdt_enc.proofs.StayLaws.{some-below, is-false, is-true, not-both}
use Rattle.crdt_enc.specs.means.Counting.{Both}
use Rattle.crdt_enc.proofs.AskLaws as ask
use Rattle.crdt_enc.proofs.AskLaws.{AllRead, AskFits, query-is}
use Rattle.rp_lang.proofs.TypeFacts.{is-type, given-some}
use Rattle.crdt_enc.proofs.TermLaws.{get-query, HasType, fits-data, BoundsRead, Reads, bound-at, value-is, values-are, listed-fit, listed-elems}
use Rattle.rp_lang.proofs.TypeFacts.{is_data}
use Rattle.crdt_enc.proofs.StageFacts.{Staged}
use Rattle.crdt_enc.proofs.MeantLaws.{meant-is, equal-is, agree-is}
use Rattle.crdt_enc.proofs.RangeLaws.{all-below, or-not, each-under, some-under, Range, range-of, inv-before}

-- # Small steps

not-is : (b : Bool) → (¬ (b ≡ true)) ↔ (not b ≡ true)
not-is true = ((λ h. absurd (h refl)), λ h. no h)
not-is false = ((λ h. refl), λ h e. true≢false (sym e))

far : {A : Type 0} (n : ℕ) → suc (suc n) ≡ 1 → A
far n e = absurd (omega arith)

truth-is : (v : Val) → (same_elem (elem_of v) (Made 1 no_elem) ≡ true) ↔ (truths.is_true v ≡ true)
truth-is (val.Con zero args) = ((λ h. no h), λ h. no h)
truth-is (val.Con (suc zero) no_val) = ((λ h. refl), λ h. refl)
truth-is (val.Con (suc zero) (also_val x xs)) = ((λ h. no h), λ h. no h)
truth-is (val.Con (suc (suc n)) args) = ((λ h. far n (eqb-true (suc (suc n)) 1 (and_parts _ _ h).0)), λ h. no h)
truth-is (val.Int n) = ((λ h. no h), λ h. no h)
truth-is (val.Str n) = ((λ h. no h), λ h. no h)
truth-is (val.Atom s n) = ((λ h. no h), λ h. no h)
truth-is (val.Call n) = ((λ h. no h), λ h. no h)
truth-is (val.Inv n) = ((λ h. no h), λ h. no h)

number-is : (p : Prog) (ps : Parts) (v : Val) (x : Elem) → x ≡ elem_of v → HasType p ps ty.Int v → number_of x ≡ number v
number-is p ps (val.Int n) x e h = ap number_of e
number-is p ps _ x e h = no h

le-true : (a b : ℤ) → int_le a b ≡ true → a ≤ℤ b
le-true a b h = grind (arith, ints)

true-le : (a b : ℤ) → a ≤ℤ b → int_le a b ≡ true
true-le a b h = grind (arith, ints)

lt-true : (a b : ℤ) → int_lt a b ≡ true → a <ℤ b
lt-true a b h = grind (arith, ints)

true-lt : (a b : ℤ) → a <ℤ b → int_lt a b ≡ true
true-lt a b h = grind (arith, ints)

less-is : (m n : ℤ) → (int_le m (n +ℤ negsuc 0) ≡ true) ↔ (int_lt m n ≡ true)
less-is m n = (
  (λ h. let a = le-true m (n +ℤ negsuc 0) h in true-lt m n (omega (arith, ints, a))),
  λ h. let a = lt-true m n h in true-le m (n +ℤ negsuc 0) (omega (arith, ints, a)),
)

most-is : (m n : ℤ) → (int_le m (n +ℤ pos 0) ≡ true) ↔ (int_le m n ≡ true)
most-is m n = (
  (λ h. let a = le-true m (n +ℤ pos 0) h in true-le m n (omega (arith, ints, a))),
  λ h. let a = le-true m n h in true-le m (n +ℤ pos 0) (omega (arith, ints, a)),
)

-- terms with the elements of values, as pairs
abbrev zipped : Tms → Vals → List Both
zipped (also_tm t ts) (also_val v vs) = record { term = t; val = v } ∷ zipped ts vs
zipped _ _ = []

record Zipped (M : Meaning) (vars : List Elem) (ts : Tms) (vs : Vals) : Type 0 where
  read : AllRead M vars (zipped ts vs)
  terms : ask.terms_of (zipped ts vs) ≡ formulas.list_of ts
  vals : ask.vals_of (zipped ts vs) ≡ truths.list_of vs

zipped-is : (M : Meaning) (vars : List Elem) (ts : Tms) (vs : Vals) → values M vars ts ≡ elems_in vs → Zipped M vars ts vs
zipped-is M vars no_tm no_val e = record { read = tt; terms = refl; vals = refl }
zipped-is M vars no_tm (also_val v vs) e = cc
zipped-is M vars (also_tm t ts) no_val e = cc
zipped-is M vars (also_tm t ts) (also_val v vs) e =
    let r = zipped-is M vars ts vs cc in
    let first : value M vars t ≡ elem_of v = cc in
    record { read = (first, r.read); terms = ap (λ xs. t ∷ xs) r.terms; vals = ap (λ xs. v ∷ xs) r.vals }

-- # Variables

raised-read : (p : Prog) (ps : Parts) (M : Meaning) (x : Elem) (vars : List Elem) (tys : List Ty) (bounds : List Bound) (vs : List Val) → BoundsRead p ps M vars tys bounds vs
    → BoundsRead p ps M (x ∷ vars) tys (raised_bounds 1 bounds) vs
raised-read p ps M x vars [] [] [] h = tt
raised-read p ps M x vars (t ∷ tys) (b ∷ bounds) (v ∷ vs) h =
    (h.0, raised-value b.term M (x ∷ []) vars 1 refl ∙ h.1, h.2, raised-read p ps M x vars tys bounds vs h.3)
raised-read p ps M x vars [] (b ∷ bounds) vs h = elim h [ ]
raised-read p ps M x vars [] [] (v ∷ vs) h = elim h [ ]
raised-read p ps M x vars (t ∷ tys) [] vs h = elim h [ ]
raised-read p ps M x vars (t ∷ tys) (b ∷ bounds) [] h = elim h [ ]

-- what more is known of queries that hold or not
pub record Asks (r : Reading) : Type 0 where
  pub fit : (n : ℕ) (query : QueryDecl) (args : List Both) → slice_get r.program.queries n ≡ Some query → is_get query.kind ≡ false → all_fit r.program query.args (ask.vals_of args) ≡ true
      → AskFits r.program query.kind (root_crdt (slice_get r.program.roots query.root)) query.path (Root query.root) args
  pub answers : (n : ℕ) (query : QueryDecl) (args : List Val) → slice_get r.program.queries n ≡ Some query → is_get query.kind ≡ false
      → (b : Bool) × (answer_in r.program n r.parts.calls r.visible args ≡ Truth b)

truth-val : (b : Bool) → truths.is_true (truths.truth_val b) ≡ b
truth-val true = refl
truth-val false = refl

pub asked-query : (queries : List QueryDecl) (n : ℕ) → asks (slice_get queries n) ≡ true → (q : QueryDecl) × (slice_get queries n ≡ Some q) × (is_get q.kind ≡ false)
asked-query queries n h = go (slice_get queries n) refl h
  where
    pick : (b : Bool) → (if b then false else true) ≡ true → b ≡ false
    pick true h = no h
    pick false h = refl

    go : (o : Option QueryDecl) → slice_get queries n ≡ o → asks o ≡ true → (q : QueryDecl) × (slice_get queries n ≡ Some q) × (is_get q.kind ≡ false)
    go None e h = no h
    go (Some q) e h = (q, e, pick (is_get q.kind) h)

or-true : (a b : Bool) → a || b ≡ true → b ≡ false → a ≡ true
or-true true b h e = refl
or-true false b h e = absurd (true≢false (sym h ∙ e))

pub or-false : (a b : Bool) → a || b ≡ true → a ≡ false → b ≡ true
or-false true b h e = absurd (true≢false e)
or-false false b h e = h

pub question-types : (o : Option QueryDecl) (reads types' : Bool) → asks o ≡ true → (is_asked o && reads && types') || is_ty (typing.given (reads && types') (typing.value_asked o)) bool_ty ≡ true → types' ≡ true
question-types o reads true e h = refl
question-types None reads false e h = no e
question-types (Some q) true false e h = go (is_get q.kind) h
  where
    go : (b : Bool) → (not b && true && false) || is_ty (typing.given (true && false) (if b then Some q.result else None)) bool_ty ≡ true → false ≡ true
    go true h = h
    go false h = h
question-types (Some q) false false e h = go (is_get q.kind) h
  where
    go : (b : Bool) → (not b && false && false) || is_ty (typing.given (false && false) (if b then Some q.result else None)) bool_ty ≡ true → false ≡ true
    go true h = h
    go false h = h

pub not-asked : (o : Option QueryDecl) → asks o ≡ false → is_asked o ≡ false
not-asked None e = refl
not-asked (Some q) e = go (is_get q.kind) e
  where
    go : (b : Bool) → (if b then false else true) ≡ false → not b ≡ false
    go true e = refl
    go false e = absurd (true≢false e)

not-inv-call : {A : Type 0} → Some ty.Inv ≡ Some ty.Call → A
not-inv-call e = absurd (true≢false (ap formulas.is_inv_type (same_Some ty.Inv ty.Call e)))

not-inv : {A : Type 0} (u : Ty) → Some u ≡ Some ty.Inv → formulas.is_inv_type u ≡ false → A
not-inv u e f = absurd (true≢false (sym (ap formulas.is_inv_type (same_Some u ty.Inv e)) ∙ f))

con-no-inv : {A : Type 0} (o : Option ConDecl) → datatype_in o ≡ Some ty.Inv → A
con-no-inv None h = absurd (none-some ty.Inv h)
con-no-inv (Some decl) h = not-inv (ty.Datatype decl.of) h refl

pub or-cases : (a b : Bool) → a || b ≡ true → (a ≡ true) ⊎ (b ≡ true)
or-cases true b h = inl refl
or-cases false b h = inr h

neither : (a b : Bool) → a ≡ false → b ≡ false → a || b ≡ false
neither true b e f = absurd (true≢false e)
neither false b e f = f

both-false : (a b : Bool) → a || b ≡ false → (a ≡ false) × (b ≡ false)
both-false true b h = absurd (true≢false h)
both-false false b h = (refl, h)

-- # Ranges and arms

or-second : (a b : Bool) → b ≡ true → a || b ≡ true
or-second true b h = refl
or-second false b h = h

no-arms : (p : Prog) (at : At) (a : Around) (t : Tm) (M : Meaning) (vars : List Elem) (c : ℕ) (xs : Elems) → value M vars t ≡ Made c xs → (seen : List ℕ) (arms : Arms) → is_among c seen ≡ true
    → NoneHolds M vars (arms_of p at a t seen arms)
no-arms p at a t M vars c xs e seen no_arm h = tt
no-arms p at a t M vars c xs e seen (also_arm con body rest) h = go (is_among con seen) refl (no-arms p at a t M vars c xs e seen rest h) (no-arms p at a t M vars c xs e (con ∷ seen) rest (or-second (nat_eq c con) (is_among c seen) h))
  where
    skip : is_among con seen ≡ false → ¬ Holds M vars (formulas.is_built p con t)
    skip f k =
        let m = sym e ∙ same-is _ _ k in
        let n : c ≡ con = cc in
        true≢false (sym h ∙ (ap (λ n. is_among n seen) n ∙ f))

    go : (b : Bool) → is_among con seen ≡ b → NoneHolds M vars (arms_of p at a t seen rest) → NoneHolds M vars (arms_of p at a t (con ∷ seen) rest)
        → NoneHolds M vars (cond b (arms_of p at a t seen rest) (also_fm
        (fm.And (also_fm (formulas.is_built p con t) (also_fm (formula_of p at (record { slots = a.slots; bounds = under_fields con 0 (types.fields_of p.cons con) t a.bounds }) body) no_fm))) (arms_of p at a t (con ∷ seen) rest)))
    go true q x y = x
    go false q x y = ((λ k. skip q k.0), y)

pub cases-type : (p : Prog) (o : Option Ty) (found : List ℕ) → typing.are_cases p o found ≡ true → (n : ℕ) × (o ≡ Some (ty.Datatype n))
cases-type p (Some (ty.Datatype n)) found h = (n, refl)
cases-type p None found h = no h
cases-type p (Some ty.Int) found h = no h
cases-type p (Some ty.Str) found h = no h
cases-type p (Some (ty.Atom n)) found h = no h
cases-type p (Some ty.Call) found h = no h
cases-type p (Some ty.Inv) found h = no h
cases-type p (Some ty.Operation) found h = no h
cases-type p (Some ty.Info) found h = no h
cases-type p (Some ty.Outcome) found h = no h

one-fields : (o : Option ConDecl) → fitting.fields_of o ≡ types.fields_in o
one-fields None = refl
one-fields (Some decl) = refl

made-of : (p : Prog) (n : ℕ) (v : Val) → fits p (ty.Datatype n) v ≡ true → (c : ℕ) × (args : Vals) × (v ≡ val.Con c args) × (fields_fit p (types.fields_of p.cons c) args ≡ true)
made-of p n (val.Con c args) h = (c, args, refl, ap (λ ts. fields_fit p ts args) (sym (one-fields (slice_get p.cons.cons c))) ∙ (and_parts _ _ h).1)
made-of p n (val.Int m) h = no h
made-of p n (val.Str m) h = no h
made-of p n (val.Atom s m) h = no h
made-of p n (val.Call m) h = no h
made-of p n (val.Inv m) h = no h

refl-plus : (xs : Elems) (j : ℕ) → structures.nth_elem xs (0 + j) ≡ structures.nth_elem xs j
refl-plus xs j = ap (structures.nth_elem xs) (omega arith)

field-count : (p : Prog) (ts : List Ty) (vs : Vals) → fields_fit p ts vs ≡ true → length (truths.list_of vs) ≡ length ts
field-count p [] no_val h = refl
field-count p [] (also_val v vs) h = no h
field-count p (t ∷ ts) no_val h = no h
field-count p (t ∷ ts) (also_val v vs) h = ap suc (field-count p ts vs (and_parts (fits p t v) (fields_fit p ts vs) h).1)

-- the literal of an arm
built-is : (p : Prog) (M : Meaning) (vars : List Elem) (t : Tm) (con c : ℕ) (args : Vals) → value M vars t ≡ Made c (elems_in args) → fields_fit p (types.fields_of p.cons c) args ≡ true
    → Holds M vars (formulas.is_built p con t) ↔ (nat_eq c con ≡ true)
built-is p M vars t con c args e f = (
  (λ h. let m = sym e ∙ same-is _ _ h in let n : c ≡ con = cc in eq-eqb c con n),
  λ h.
      let n : c ≡ con = eqb-true c con h in
      let xs = map elem_of (truths.list_of args) in
      let e2 : value M vars t ≡ Made con (elements.elems (map elem_of (truths.list_of args))) = e ∙ ap₂ Made n (listed-elems args) in
      let count : length xs ≡ length (types.fields_of p.cons con) = map-count elem_of (truths.list_of args) ∙ (field-count p (types.fields_of p.cons c) args f ∙ ap (λ n. length (types.fields_of p.cons n)) n) in
      let sels = selectors-give M vars con 0 (length (types.fields_of p.cons con)) t xs e2 (omega (arith, count)) in
      let whole : value M vars t ≡ Made con (values M vars (builders.tms_of (builders.selectors con 0 (length (types.fields_of p.cons con)) t))) =
      e2 ∙ ap (Made con) (ap elements.elems (sym sels) ∙ sym (values-in (builders.selectors con 0 (length (types.fields_of p.cons con)) t) M vars)) in
      ap (λ x. same_elem (value M vars t) x) (sym whole) ∙ same-self (value M vars t),
)

-- the fields of an arm
fields-read : (p : Prog) (ps : Parts) (M : Meaning) (vars : List Elem) (con i : ℕ) (t : Tm) (xs : Elems) (ts : List Ty) (args : Vals) (tys : List Ty) (bounds : List Bound) (bs : List Val)
    → value M vars t ≡ Made con xs → ((j : ℕ) → structures.nth_elem xs (i + j) ≡ structures.nth_elem (elems_in args) j) → list_all is_data ts ≡ true → fields_fit p ts args ≡ true
    → BoundsRead p ps M vars tys bounds bs → BoundsRead p ps M vars (typing.under ts tys) (under_fields con i ts t bounds) (bind args bs)
fields-read p ps M vars con i t xs [] no_val tys bounds bs e n d f w = w
fields-read p ps M vars con i t xs [] (also_val v vs) tys bounds bs e n d f w = no f
fields-read p ps M vars con i t xs (u ∷ ts) no_val tys bounds bs e n d f w = no f
fields-read p ps M vars con i t xs (u ∷ ts) (also_val v vs) tys bounds bs e n d f w =
    let b = and_parts (fits p u v) (fields_fit p ts vs) f in
    let c = and_parts (is_data u) (list_all is_data ts) d in
    fields-read p ps M vars con (suc i) t xs ts vs (u ∷ tys) (record { ty = u; term = tm.Sel con i t } ∷ bounds) (v ∷ bs) e
    (λ j. ap (structures.nth_elem xs) (omega arith) ∙ n (suc j)) c.1 b.1
    (refl, selected-is M vars con i t xs (elem_of v) e (ap (structures.nth_elem xs) (omega arith) ∙ n 0), fits-data p ps u v c.0 b.0, w)

module _ (r : Reading) (M : Meaning) (at : At) (stage : Staged r M at) (extra : Asks r) (frame : Frame) where
  abbrev Says : List Elem → Around → List Val → Fm → Bool → Type 0
  Says vars a bs f b = Holds M vars f ↔ (b ≡ true)

  -- a term of type `Bool`
  bool-is : (e : Ex) (vars : List Elem) (a : Around) (tys : List Ty) (bs : List Val) → Reads r M at stage frame vars a tys bs → is_ty (type_of r.program frame tys e) bool_ty ≡ true
      → Holds M vars (fm.Lit true (tm.Equal (term_of r.program at a e) (tm.Con 1 no_tm))) ↔ (truths.is_true (truths.value r bs e) ≡ true)
  bool-is e vars a tys bs w h =
      let k = value-is r M at stage frame e bool_ty vars a tys bs w (is-type _ bool_ty h) refl in
      let t = truth-is (truths.value r bs e) in
      let s = ap (λ x. same_elem x (Made 1 no_elem)) k.0 in ((λ z. t.0 (sym s ∙ z)), λ z. s ∙ t.1 z)

  question-is : (n : ℕ) (args : Exs) (vars : List Elem) (a : Around) (tys : List Ty) (bs : List Val) → Reads r M at stage frame vars a tys bs
      → is_truth r.program frame tys (ex.Query n args) ≡ true → (b : Bool) → asks (slice_get r.program.queries n) ≡ b
      → Holds M vars (cond b (query_formula r.program at.view n (formulas.list_of (terms_of r.program at a args))) (fm.Lit true (tm.Equal (term_of r.program at a (ex.Query n args)) (tm.Con 1 no_tm))))
      ↔ (truths.is_true (truths.value r bs (ex.Query n args)) ≡ true)
  question-is n args vars a tys bs w h true e =
      let q = asked-query r.program.queries n e in
      let given' : have_types r.program frame tys (query_args (slice_get r.program.queries n)) args ≡ true = question-types (slice_get r.program.queries n) frame.reads _ e h in
      let k = values-are r M at stage frame q.0.args args vars a tys bs w (ap (λ o. have_types r.program frame tys (query_args o) args) (sym q.1) ∙ given') (stage.asks_data n q.0 q.1).0 in
      let z = zipped-is M vars (terms_of r.program at a args) (truths.values r bs args) k.0 in
      let f : all_fit r.program q.0.args (ask.vals_of (zipped (terms_of r.program at a args) (truths.values r bs args))) ≡ true =
      ap (all_fit r.program q.0.args) z.vals ∙ listed-fit r.program q.0.args _ k.1 in
      let l = query-is r.program M r.parts.calls at.view r.visible vars stage.parts.calls stage.view stage.calls_fit n q.0 (zipped (terms_of r.program at a args) (truths.values r bs args)) q.1 z.read (extra.fit n q.0 _ q.1 q.2 f) in
      let answer = extra.answers n q.0 (truths.list_of (truths.values r bs args)) q.1 q.2 in
      let same : queries.is_true (answer_in r.program n r.parts.calls r.visible (truths.list_of (truths.values r bs args))) ≡ truths.is_true (asked r n (truths.list_of (truths.values r bs args))) =
      ap queries.is_true answer.1 ∙ (sym (truth-val answer.0) ∙ ap (λ x. truths.is_true (answer_val r.program r.parts.calls (slice_get r.program.queries n) x)) (sym answer.1)) in (
        (λ x. sym same ∙ (ap (λ vs. queries.is_true (answer_in r.program n r.parts.calls r.visible vs)) (sym z.vals) ∙ l.0 (subst (λ ts. Holds M vars (query_formula r.program at.view n ts)) (sym z.terms) x))),
        λ x. subst (λ ts. Holds M vars (query_formula r.program at.view n ts)) z.terms (l.1 (ap (λ vs. queries.is_true (answer_in r.program n r.parts.calls r.visible vs)) z.vals ∙ (same ∙ x))),
      )
  question-is n args vars a tys bs w h false e =
      let rest = frame.reads && have_types r.program frame tys (query_args (slice_get r.program.queries n)) args in
      let q : is_question r.program frame tys (ex.Query n args) ≡ false = ap (λ b. b && frame.reads && have_types r.program frame tys (query_args (slice_get r.program.queries n)) args) (not-asked (slice_get r.program.queries n) e) in
      bool-is (ex.Query n args) vars a tys bs w (or-false (is_question r.program frame tys (ex.Query n args)) (is_ty (type_of r.program frame tys (ex.Query n args)) bool_ty) h q)

  holds-is : (e : Ex) (vars : List Elem) (a : Around) (tys : List Ty) (bs : List Val) → Reads r M at stage frame vars a tys bs → is_truth r.program frame tys e ≡ true
      → Holds M vars (true_formula r.program at a e) ↔ (truths.is_true (truths.value r bs e) ≡ true)
  holds-is (ex.Query n args) vars a tys bs w h = question-is n args vars a tys bs w h (asks (slice_get r.program.queries n)) refl
  holds-is (ex.Slot s) vars a tys bs w h = bool-is (ex.Slot s) vars a tys bs w h
  holds-is (ex.Bound n) vars a tys bs w h = bool-is (ex.Bound n) vars a tys bs w h
  holds-is (ex.Int n) vars a tys bs w h = bool-is (ex.Int n) vars a tys bs w h
  holds-is (ex.Str n) vars a tys bs w h = bool-is (ex.Str n) vars a tys bs w h
  holds-is (ex.Con c args) vars a tys bs w h = bool-is (ex.Con c args) vars a tys bs w h
  holds-is (ex.Plus b n) vars a tys bs w h = bool-is (ex.Plus b n) vars a tys bs w h
  holds-is (ex.Add b c) vars a tys bs w h = bool-is (ex.Add b c) vars a tys bs w h
  holds-is (ex.Sub b c) vars a tys bs w h = bool-is (ex.Sub b c) vars a tys bs w h
  holds-is (ex.OpOf c) vars a tys bs w h = bool-is (ex.OpOf c) vars a tys bs w h
  holds-is (ex.OpTerm n c) vars a tys bs w h = bool-is (ex.OpTerm n c) vars a tys bs w h
  holds-is (ex.OriginOf c) vars a tys bs w h = bool-is (ex.OriginOf c) vars a tys bs w h
  holds-is (ex.InfoOf c) vars a tys bs w h = bool-is (ex.InfoOf c) vars a tys bs w h
  holds-is (ex.InfoTerm n c) vars a tys bs w h = bool-is (ex.InfoTerm n c) vars a tys bs w h
  holds-is (ex.ResultOf c) vars a tys bs w h = bool-is (ex.ResultOf c) vars a tys bs w h
  holds-is (ex.ResultTerm c) vars a tys bs w h = bool-is (ex.ResultTerm c) vars a tys bs w h
  holds-is (ex.ResultWith n c) vars a tys bs w h = bool-is (ex.ResultWith n c) vars a tys bs w h
  holds-is ex.Unreturned vars a tys bs w h = bool-is ex.Unreturned vars a tys bs w h

  both-of : (a b : Ex) (t : Ty) (tys : List Ty) → are_both r.program frame tys t a b ≡ true → (type_of r.program frame tys a ≡ Some t) × (type_of r.program frame tys b ≡ Some t)
  both-of a b t tys h = let k = and_parts _ _ h in (is-type _ t k.0, is-type _ t k.1)

  gives-call : (e : Ex) (vars : List Elem) (a : Around) (tys : List Ty) (bs : List Val) → Reads r M at stage frame vars a tys bs → type_of r.program frame tys e ≡ Some ty.Call → gives_inv a e ≡ false
  gives-call (ex.Bound n) vars a tys bs w h = (bound-at r.program r.parts M vars tys a.bounds bs w.1 n ty.Call h).inv
  gives-call (ex.OriginOf c) vars a tys bs w h = not-inv-call (given-some _ _ ty.Call h).1
  gives-call _ vars a tys bs w h = refl

  gives-an-inv : (e : Ex) (vars : List Elem) (a : Around) (tys : List Ty) (bs : List Val) → Reads r M at stage frame vars a tys bs → type_of r.program frame tys e ≡ Some ty.Inv → gives_inv a e ≡ true
  gives-an-inv (ex.Bound n) vars a tys bs w h = (bound-at r.program r.parts M vars tys a.bounds bs w.1 n ty.Inv h).inv
  gives-an-inv (ex.OriginOf c) vars a tys bs w h = refl
  gives-an-inv (ex.Slot s) vars a tys bs w h = no (w.0 s ty.Inv h).0
  gives-an-inv (ex.Int n) vars a tys bs w h = not-inv ty.Int (given-some _ _ ty.Inv h).1 refl
  gives-an-inv (ex.Str n) vars a tys bs w h = not-inv ty.Str h refl
  gives-an-inv (ex.Con con args) vars a tys bs w h = con-no-inv (slice_get r.program.cons.cons con) (given-some _ _ ty.Inv h).1
  gives-an-inv (ex.Plus b n) vars a tys bs w h = not-inv ty.Int (given-some _ _ ty.Inv h).1 refl
  gives-an-inv (ex.Add b n) vars a tys bs w h = not-inv ty.Int (given-some _ _ ty.Inv h).1 refl
  gives-an-inv (ex.Sub b n) vars a tys bs w h = not-inv ty.Int (given-some _ _ ty.Inv h).1 refl
  gives-an-inv (ex.Query n args) vars a tys bs w h =
      let q = get-query r.program.queries n ty.Inv (given-some _ _ ty.Inv h).1 in no (ap is_data (sym q.3) ∙ (stage.asks_data n q.0 q.1).1)
  gives-an-inv (ex.OpOf c) vars a tys bs w h = not-inv ty.Operation (given-some _ _ ty.Inv h).1 refl
  gives-an-inv (ex.OpTerm n c) vars a tys bs w h = not-inv ty.Operation (given-some _ _ ty.Inv h).1 refl
  gives-an-inv (ex.InfoOf c) vars a tys bs w h = not-inv ty.Info (given-some _ _ ty.Inv h).1 refl
  gives-an-inv (ex.InfoTerm n c) vars a tys bs w h = not-inv ty.Info (given-some _ _ ty.Inv h).1 refl
  gives-an-inv (ex.ResultOf c) vars a tys bs w h = not-inv ty.Outcome (given-some _ _ ty.Inv h).1 refl
  gives-an-inv (ex.ResultTerm c) vars a tys bs w h = not-inv ty.Outcome (given-some _ _ ty.Inv h).1 refl
  gives-an-inv (ex.ResultWith n c) vars a tys bs w h = not-inv ty.Outcome (given-some _ _ ty.Inv h).1 refl
  gives-an-inv ex.Unreturned vars a tys bs w h = not-inv ty.Outcome h refl

  visible-is : (e : Ex) (vars : List Elem) (a : Around) (tys : List Ty) (bs : List Val) → Reads r M at stage frame vars a tys bs → is_ty (type_of r.program frame tys e) ty.Call ≡ true
      → Holds M vars (formula_of r.program at a (fo.Visible e)) ↔ (is_visible r (truths.value r bs e) ≡ true)
  visible-is e vars a tys bs w h =
      let k = value-is r M at stage frame e ty.Call vars a tys bs w (is-type _ ty.Call h) refl in
      let c = k.1.0 in
      let s : holds_of M at.view (value M vars (term_of r.program at a e)) ≡ r.visible c && nat_lt c (length r.parts.calls) =
      ap (holds_of M at.view) (k.0 ∙ ap elem_of k.1.1) ∙ stage.view.visible_calls c (stage.parts.calls.calls c k.1.2) in
      let v : is_visible r (truths.value r bs e) ≡ r.visible c = ap (is_visible r) k.1.1 in (
        (λ x. v ∙ (and_parts (r.visible c) _ (sym s ∙ x)).0),
        λ x. s ∙ and_from (r.visible c) _ (sym v ∙ x) (lt-ltb c (length r.parts.calls) k.1.2),
      )

  before-call : (d e : Ex) (vars : List Elem) (a : Around) (tys : List Ty) (bs : List Val) → Reads r M at stage frame vars a tys bs → are_both r.program frame tys ty.Call d e ≡ true
      → Holds M vars (formula_of r.program at a (fo.Before d e)) ↔ (truth r bs (fo.Before d e) ≡ true)
  before-call d e vars a tys bs w h =
      let t = both-of d e ty.Call tys h in
      let k = value-is r M at stage frame d ty.Call vars a tys bs w t.0 refl in
      let l = value-is r M at stage frame e ty.Call vars a tys bs w t.1 refl in
      let s : holds_of_two M 4 (value M vars (term_of r.program at a d)) (value M vars (term_of r.program at a e)) ≡ before r.parts.calls k.1.0 l.1.0 =
      ap₂ (holds_of_two M 4) (k.0 ∙ ap elem_of k.1.1) (l.0 ∙ ap elem_of l.1.1) ∙ stage.parts.calls.before k.1.0 l.1.0 k.1.2 l.1.2 in
      let v : truth r bs (fo.Before d e) ≡ before r.parts.calls k.1.0 l.1.0 = ap₂ (truths.is_before r.parts) k.1.1 l.1.1 in
      go (gives_inv a d) (gives-call d vars a tys bs w t.0) ((λ x. v ∙ (sym s ∙ x)), λ x. s ∙ (sym v ∙ x))
    where
      go : (b : Bool) → b ≡ false → Holds M vars (builders.is_before true (term_of r.program at a d) (term_of r.program at a e)) ↔ (truth r bs (fo.Before d e) ≡ true)
          → Holds M vars (cond b (formulas.inv_before at (term_of r.program at a d) (term_of r.program at a e)) (builders.is_before true (term_of r.program at a d) (term_of r.program at a e))) ↔ (truth r bs (fo.Before d e) ≡ true)
      go true q x = absurd (true≢false q)
      go false q x = x

  before-inv : (d e : Ex) (vars : List Elem) (a : Around) (tys : List Ty) (bs : List Val) → Reads r M at stage frame vars a tys bs → are_both r.program frame tys ty.Inv d e ≡ true
      → Holds M vars (formula_of r.program at a (fo.Before d e)) ↔ (truth r bs (fo.Before d e) ≡ true)
  before-inv d e vars a tys bs w h =
      let t = both-of d e ty.Inv tys h in
      let k = value-is r M at stage frame d ty.Inv vars a tys bs w t.0 refl in
      let l = value-is r M at stage frame e ty.Inv vars a tys bs w t.1 refl in
      let s = inv-before r.program M at r.parts r.visible stage.parts stage.view stage.calls_fit k.1.0 l.1.0 (term_of r.program at a d) (term_of r.program at a e) vars (k.0 ∙ ap elem_of k.1.1) (l.0 ∙ ap elem_of l.1.1) in
      let v : truth r bs (fo.Before d e) ≡ parts.inv_before r.parts k.1.0 l.1.0 = ap₂ (truths.is_before r.parts) k.1.1 l.1.1 in
      go (gives_inv a d) (gives-an-inv d vars a tys bs w t.0) ((λ x. v ∙ s.0 x), λ x. s.1 (sym v ∙ x))
    where
      go : (b : Bool) → b ≡ true → Holds M vars (formulas.inv_before at (term_of r.program at a d) (term_of r.program at a e)) ↔ (truth r bs (fo.Before d e) ≡ true)
          → Holds M vars (cond b (formulas.inv_before at (term_of r.program at a d) (term_of r.program at a e)) (builders.is_before true (term_of r.program at a d) (term_of r.program at a e))) ↔ (truth r bs (fo.Before d e) ≡ true)
      go true q x = x
      go false q x = absurd (true≢false (sym q))

  same-call : (d e : Ex) (vars : List Elem) (a : Around) (tys : List Ty) (bs : List Val) → Reads r M at stage frame vars a tys bs → are_both r.program frame tys ty.Call d e ≡ true
      → Holds M vars (formula_of r.program at a (fo.Same d e)) ↔ (truth r bs (fo.Same d e) ≡ true)
  same-call d e vars a tys bs w h =
      let t = both-of d e ty.Call tys h in
      let k = value-is r M at stage frame d ty.Call vars a tys bs w t.0 refl in
      let l = value-is r M at stage frame e ty.Call vars a tys bs w t.1 refl in
      let s : holds_of_two M same_rel (value M vars (term_of r.program at a d)) (value M vars (term_of r.program at a e)) ≡ same_tx r.parts.calls k.1.0 l.1.0 =
      ap₂ (holds_of_two M same_rel) (k.0 ∙ ap elem_of k.1.1) (l.0 ∙ ap elem_of l.1.1) ∙ stage.parts.same k.1.0 l.1.0 k.1.2 l.1.2 in
      let v : truth r bs (fo.Same d e) ≡ same_tx r.parts.calls k.1.0 l.1.0 = ap₂ (truths.is_same r.parts) k.1.1 l.1.1 in ((λ x. v ∙ (sym s ∙ x)), λ x. s ∙ (sym v ∙ x))

  numbers : (d : Ex) (vars : List Elem) (a : Around) (tys : List Ty) (bs : List Val) → Reads r M at stage frame vars a tys bs → type_of r.program frame tys d ≡ Some ty.Int
      → number_of (value M vars (term_of r.program at a d)) ≡ number (truths.value r bs d)
  numbers d vars a tys bs w h = let k = value-is r M at stage frame d ty.Int vars a tys bs w h refl in number-is r.program r.parts (truths.value r bs d) _ k.0 k.1

  equal-law : (d e : Ex) (vars : List Elem) (a : Around) (tys : List Ty) (bs : List Val) → Reads r M at stage frame vars a tys bs → are_comparable r.program frame tys d e ≡ true
      → Holds M vars (formula_of r.program at a (fo.Equal d e)) ↔ (truth r bs (fo.Equal d e) ≡ true)
  equal-law d e vars a tys bs w h =
      let t = agree-is _ _ (and_parts _ _ h).0 in
      let k = meant-is r M at stage frame d t.0 vars a tys bs w t.1 in
      let l = meant-is r M at stage frame e t.0 vars a tys bs w t.2 in
      equal-is r.program r.parts t.0 _ _ _ _ k.1 l.1 k.0 l.0

  -- an arm of a match, where what comes behind it is known
  arm-step : (con c : ℕ) (seen : List ℕ) (args : Vals) (t : Tm) (vars : List Elem) (a : Around) (bs : List Val) (body : Fo) (rest : Arms)
      → value M vars t ≡ Made c (elems_in args) → fields_fit r.program (types.fields_of r.program.cons c) args ≡ true → is_among c seen ≡ false
      → (x : Bool) → is_among con seen ≡ x → (y : Bool) → nat_eq c con ≡ y
      → ((¬ NoneHolds M vars (arms_of r.program at a t seen rest)) ↔ (arm_true r bs (val.Con c args) rest ≡ true))
      → (is_among c (con ∷ seen) ≡ false → (¬ NoneHolds M vars (arms_of r.program at a t (con ∷ seen) rest)) ↔ (arm_true r bs (val.Con c args) rest ≡ true))
      → (nat_eq c con ≡ true → Holds M vars (formula_of r.program at (record { slots = a.slots; bounds = under_fields con 0 (types.fields_of r.program.cons con) t a.bounds }) body) ↔ (truth r (bind args bs) body ≡ true))
      → (¬ NoneHolds M vars (cond x (arms_of r.program at a t seen rest) (also_fm
      (fm.And (also_fm (formulas.is_built r.program con t) (also_fm (formula_of r.program at (record { slots = a.slots; bounds = under_fields con 0 (types.fields_of r.program.cons con) t a.bounds }) body) no_fm)))
      (arms_of r.program at a t (con ∷ seen) rest))))
      ↔ (cond y (truth r (bind args bs) body) (arm_true r bs (val.Con c args) rest) ≡ true)
  arm-step con c seen args t vars a bs body rest e f s true ex true ey here next law = absurd (true≢false (sym ex ∙ (ap (λ n. is_among n seen) (sym (eqb-true c con ey)) ∙ s)))
  arm-step con c seen args t vars a bs body rest e f s true ex false ey here next law = here
  arm-step con c seen args t vars a bs body rest e f s false ex true ey here next law =
      let l = law ey in
      let b = built-is r.program M vars t con c args e f in
      let none = no-arms r.program at a t M vars c (elems_in args) e (con ∷ seen) rest (ap (λ b. b || is_among c seen) ey) in (
        (λ x. is-true _ (λ z. x ((λ y. not-both _ (l.0 y.1.0) z), none))),
        λ x n. n.0 (b.1 ey, (l.1 x, tt)),
      )
  arm-step con c seen args t vars a bs body rest e f s false ex false ey here next law =
      let n = next (neither (nat_eq c con) (is_among c seen) ey s) in
      let b = built-is r.program M vars t con c args e f in (
        (λ x. n.0 (λ z. x ((λ y. not-both _ (b.0 y.0) ey), z))),
        λ x z. n.1 x z.1,
      )

  -- # All formulas

  reads-under : (over : Ty) (k : ℕ) (vars : List Elem) (a : Around) (tys : List Ty) (bs : List Val) → Reads r M at stage frame vars a tys bs → Range r.program M at r.parts over → k < bound r.parts over
      → Reads r M at stage frame (Point k ∷ vars) (under over a) (over ∷ tys) (member over k ∷ bs)
  reads-under over k vars a tys bs w g lt =
      (w.0, (refl, sym (g.elem k), g.typed k lt, raised-read r.program r.parts M (Point k) vars tys a.bounds bs w.1))

  mutual
    pub formula-is : (f : Fo) (vars : List Elem) (a : Around) (tys : List Ty) (bs : List Val) → Reads r M at stage frame vars a tys bs → is_typed r.program frame tys f ≡ true
        → Holds M vars (formula_of r.program at a f) ↔ (truth r bs f ≡ true)
    formula-is (fo.And fs) vars a tys bs w h = (formulas-are fs vars a tys bs w h).0
    formula-is (fo.Or fs) vars a tys bs w h =
        let k = (formulas-are fs vars a tys bs w h).1 in ((λ x. is-true _ (λ e. x (k.1 e))), λ x n. not-both _ x (k.0 n))
    formula-is (fo.Not f) vars a tys bs w h =
        let k = formula-is f vars a tys bs w h in
        let d = dual_law (formula_of r.program at a f) M vars in
        let n = not-is (truth r bs f) in ((λ x. n.0 (λ t. d.0 x (k.1 t))), λ x. d.1 (λ t. n.1 x (k.0 t)))
    formula-is (fo.Implies f g) vars a tys bs w h =
        let b = and_parts _ _ h in
        let k = formula-is f vars a tys bs w b.0 in
        let l = formula-is g vars a tys bs w b.1 in
        let d = dual_law (formula_of r.program at a f) M vars in
        let o = or-not (truth r bs f) (truth r bs g) in (
          (λ x. o.1 (λ t. is-true _ (λ e. x ((λ n. d.0 n (k.1 t)), ((λ n. not-both _ (l.0 n) e), tt))))),
          λ x n. n.0 (d.1 (λ t. n.1.0 (l.1 (o.0 x (k.0 t))))),
        )
    formula-is (fo.All over body) vars a tys bs w h =
        let b = and_parts _ _ h in
        let g = range-of r.program M at r.parts stage.parts frame over b.0 in
        let f = formula_of r.program at (under over a) body in
        let all = all-below (λ k. not (is_in_range r.parts over k) || truth r (member over k ∷ bs) body) (bound r.parts over) in
        let each = λ (k : ℕ) (lt : k < bound r.parts over). formula-is body (Point k ∷ vars) (under over a) (over ∷ tys) (member over k ∷ bs) (reads-under over k vars a tys bs w g lt) b.1 in (
          (λ x. all.1 (λ k lt. (or-not _ _).1 (λ i.
              (each k lt).0 ((each-under (guard false at over) f M (Point k ∷ vars)).0 (x (Point k) (g.within k lt)) ((g.guarded_not k vars (g.within k lt)).1 (lt, i)))))),
          λ x v i.
              let c = g.points v i in
              let is : Is M (sort_of over) (Point c.0) = subst (λ e. Is M (sort_of over) e) c.1 i in
              subst (λ e. Holds M (e ∷ vars) (each_under (guard false at over) f)) (sym c.1)
              ((each-under (guard false at over) f M (Point c.0 ∷ vars)).1 (λ n. let q = (g.guarded_not c.0 vars is).0 n in (each c.0 q.0).1 ((or-not _ _).0 (all.0 x c.0 q.0) q.1))),
        )
    formula-is (fo.Any over body) vars a tys bs w h =
        let b = and_parts _ _ h in
        let g = range-of r.program M at r.parts stage.parts frame over b.0 in
        let f = formula_of r.program at (under over a) body in
        let some = some-below (λ k. is_in_range r.parts over k && truth r (member over k ∷ bs) body) (bound r.parts over) in
        let each = λ (k : ℕ) (lt : k < bound r.parts over). formula-is body (Point k ∷ vars) (under over a) (over ∷ tys) (member over k ∷ bs) (reads-under over k vars a tys bs w g lt) b.1 in (
          (λ x. some.1 (λ z. x (λ v i y.
              let c = g.points v i in
              let is : Is M (sort_of over) (Point c.0) = subst (λ e. Is M (sort_of over) e) c.1 i in
              let s = (some-under (guard true at over) f M (Point c.0 ∷ vars)).0 (subst (λ e. Holds M (e ∷ vars) (some_under (guard true at over) f)) c.1 y) in
              let q = (g.guarded c.0 vars is).0 s.0 in
              z c.0 q.0 (and_from _ _ q.1 ((each c.0 q.0).0 s.1))))),
          λ x z. some.0 x (λ k lt y.
              let q = and_parts (is_in_range r.parts over k) _ y in
              z (Point k) (g.within k lt) ((some-under (guard true at over) f M (Point k ∷ vars)).1 ((g.guarded k vars (g.within k lt)).1 (lt, q.0), (each k lt).1 q.1))),
        )
    formula-is (fo.Holds e) vars a tys bs w h = holds-is e vars a tys bs w h
    formula-is (fo.Equal d e) vars a tys bs w h = equal-law d e vars a tys bs w h
    formula-is (fo.Less d e) vars a tys bs w h =
        let t = both-of d e ty.Int tys h in
        let s = ap₂ (λ m n. int_le m (n +ℤ negsuc 0)) (numbers d vars a tys bs w t.0) (numbers e vars a tys bs w t.1) in
        let l = less-is (number (truths.value r bs d)) (number (truths.value r bs e)) in ((λ x. l.0 (sym s ∙ x)), λ x. s ∙ l.1 x)
    formula-is (fo.AtMost d e) vars a tys bs w h =
        let t = both-of d e ty.Int tys h in
        let s = ap₂ (λ m n. int_le m (n +ℤ pos 0)) (numbers d vars a tys bs w t.0) (numbers e vars a tys bs w t.1) in
        let l = most-is (number (truths.value r bs d)) (number (truths.value r bs e)) in ((λ x. l.0 (sym s ∙ x)), λ x. s ∙ l.1 x)
    formula-is (fo.Visible call) vars a tys bs w h = visible-is call vars a tys bs w h
    formula-is (fo.Before d e) vars a tys bs w h =
        elim (or-cases _ _ h) [
          | inl k ↦ before-call d e vars a tys bs w k
          | inr k ↦ before-inv d e vars a tys bs w k
        ]
    formula-is (fo.Same d e) vars a tys bs w h = same-call d e vars a tys bs w h
    formula-is (fo.Match on arms) vars a tys bs w h =
        let b = and_parts _ _ h in
        let t = cases-type r.program (type_of r.program frame tys on) _ b.0 in
        let k = value-is r M at stage frame on (ty.Datatype t.0) vars a tys bs w t.1 refl in
        let c = made-of r.program t.0 (truths.value r bs on) k.1 in
        let l = arms-are arms [] c.0 c.1 (term_of r.program at a on) vars a tys bs w (k.0 ∙ ap elem_of c.2) c.3 refl b.1 in
        let s = ap (λ v. arm_true r bs v arms) c.2 in ((λ x. s ∙ l.0 x), λ x. l.1 (sym s ∙ x))

    arms-are : (arms : Arms) (seen : List ℕ) (c : ℕ) (args : Vals) (t : Tm) (vars : List Elem) (a : Around) (tys : List Ty) (bs : List Val) → Reads r M at stage frame vars a tys bs
        → value M vars t ≡ Made c (elems_in args) → fields_fit r.program (types.fields_of r.program.cons c) args ≡ true → is_among c seen ≡ false → are_typed_arms r.program frame tys arms ≡ true
        → (¬ NoneHolds M vars (arms_of r.program at a t seen arms)) ↔ (arm_true r bs (val.Con c args) arms ≡ true)
    arms-are no_arm seen c args t vars a tys bs w e f s h = ((λ x. absurd (x tt)), λ x. no x)
    arms-are (also_arm con body rest) seen c args t vars a tys bs w e f s h =
        let b = and_parts _ _ h in
        let inner : Around = record { slots = a.slots; bounds = under_fields con 0 (types.fields_of r.program.cons con) t a.bounds } in
        arm-step con c seen args t vars a bs body rest e f s (is_among con seen) refl (nat_eq c con) refl
        (arms-are rest seen c args t vars a tys bs w e f s b.1)
        (λ q. arms-are rest (con ∷ seen) c args t vars a tys bs w e f q b.1)
        (λ q.
        let n : c ≡ con = eqb-true c con q in
        let e2 : value M vars t ≡ Made con (elems_in args) = e ∙ ap (λ n. Made n (elems_in args)) n in
        let f2 : fields_fit r.program (types.fields_of r.program.cons con) args ≡ true = ap (λ n. fields_fit r.program (types.fields_of r.program.cons n) args) (sym n) ∙ f in
        formula-is body vars inner (typing.under (types.fields_of r.program.cons con) tys) (bind args bs)
        (w.0, fields-read r.program r.parts M vars con 0 t (elems_in args) (types.fields_of r.program.cons con) args tys a.bounds bs e2 (λ j. refl-plus (elems_in args) j) (stage.fields con) f2 w.1) b.0)

    pub formulas-are : (fs : Fos) (vars : List Elem) (a : Around) (tys : List Ty) (bs : List Val) → Reads r M at stage frame vars a tys bs → are_typed r.program frame tys fs ≡ true
        → (AllHold M vars (formulas_of r.program at a fs) ↔ (all_true r bs fs ≡ true)) × (NoneHolds M vars (formulas_of r.program at a fs) ↔ (any_true r bs fs ≡ false))
    formulas-are no_fo vars a tys bs w h = (((λ x. refl), λ x. tt), ((λ x. refl), λ x. tt))
    formulas-are (also_fo f fs) vars a tys bs w h =
        let b = and_parts _ _ h in
        let k = formula-is f vars a tys bs w b.0 in
        let l = formulas-are fs vars a tys bs w b.1 in (
          ((λ x. and_from (truth r bs f) _ (k.0 x.0) (l.0.0 x.1)), λ x. let y = and_parts (truth r bs f) _ x in (k.1 y.0, l.0.1 y.1)),
          ((λ x. neither _ _ (is-false _ (λ t. x.0 (k.1 t))) (l.1.0 x.1)), λ x. let y = both-false _ _ x in ((λ n. not-both _ (k.0 n) y.0), l.1.1 y.1)),
        )
