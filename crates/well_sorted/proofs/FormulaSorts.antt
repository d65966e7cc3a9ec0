-- The formulas of formulas are well sorted.
use Rattle.std.proofs.Common.{◌≡◌, ◌<◌, ◌⊎◌, inl, inr, ℕ, suc, ◌+◌, ◌||◌, List, [], ◌∷◌, length, map, slice_get, Bool, true, false, ◌&&◌, cond, nat_eq, Some, refl, sym, ap, ◌∙◌, subst, eq-eqb, ltb-true, arith}
use Rattle.std.proofs.lemmas.Bool.{and_parts}
use Rattle.std.proofs.lemmas.List.{length-map}
use Rattle.rp_value.specs.declared.tables.Ty.{Ty}
use Rattle.rp_value.specs.declared.tables.Ty.TheVariants as ty
use Rattle.rp_lang.specs.Exprs as ex
use Rattle.rp_lang.specs.Exprs.{Ex, Exs}
use Rattle.rp_lang.specs.Formulas as fo
use Rattle.rp_lang.specs.Formulas.{Fo, Fos, no_fo, also_fo, Arms, no_arm, also_arm}
use Rattle.rp_lang.specs.Types as types
use Rattle.rp_lang.specs.Types.{is_ty, bool_ty, datatype_of, datatype_in, fields_in, are_ordinary}
use Rattle.rp_lang.specs.Typing as typing
use Rattle.rp_lang.specs.Typing.{Frame, type_of, have_types, is_get, query_args, is_question, is_truth, is_typed, are_typed, are_typed_arms, are_both, is_range, is_among, arm_cons}
use Rattle.rp_lang.specs.Programs.{Prog}
use Rattle.rp_lang.proofs.TypeFacts.{is-type}
use Rattle.event_machine.proofs.PlaceLemmas.{at-lt}
use Rattle.rp_logic.specs.declared.sort.LogicCon.{LogicCon}
use Rattle.rp_logic.specs.Terms as tm
use Rattle.rp_logic.specs.Terms.{Tm, Tms, no_tm, also_tm}
use Rattle.rp_logic.specs.Formulas as fm
use Rattle.rp_logic.specs.Formulas.{Fm, Fms, no_fm, also_fm}
use Rattle.rp_logic.specs.Sorted.{has_sort, have_sorts, IsSorted, AreSorted}
use Rattle.rp_logic.proofs.DualSorts.{dual-sorted}
use Rattle.rp_logic.proofs.KeptSorts.{raised-sort}
use Rattle.rp_logic.proofs.SortLaws.{no}
use Rattle.rp_symbols.specs.Numbers.{call_sort, inv_sort, atom_sort, data_sort, before_rel, same_rel, origin_fn}
use Rattle.rp_symbols.specs.Signatures.{sort_of, sorts_of, con_of}
use Rattle.rp_symbols.proofs.LookUps.{get-mapped}
use Rattle.rp_symbols.proofs.Stand.{atoms-stand}
use Rattle.reshape.specs.Joined.{joined}
use Rattle.crdt_enc.specs.Builders as builders
use Rattle.crdt_enc.specs.Builders.{one_fm}
use Rattle.crdt_enc.specs.QueryFormulas.{query_formula}
use Rattle.crdt_enc.specs.FormulaFormulas as formulas
use Rattle.crdt_enc.specs.FormulaFormulas.{Bound, Around, term_of, terms_of, under, under_fields, under_arm, guard, each_under, some_under, gives_inv, asks, true_formula, formula_of, formulas_of, arms_of, done_by, does_one, inv_before}
use Rattle.crdt_enc.proofs.MeantLaws.{agree-is}
use Rattle.rp_logic.specs.Filling.{raised}
use Rattle.crdt_enc.proofs.FormulaLaws.{asked-query, question-types, not-asked, or-false, or-cases, cases-type}
use Rattle.well_sorted.proofs.Pieces.{applied-sorted, con-sorted, sel-sorted, sels-sorted, set-sorted, pair-sorted, joined-sorted, raised-by}
use Rattle.well_sorted.proofs.QueryLaw.{query-sorted}
use Rattle.well_sorted.proofs.ArmCons.{covered}
use Rattle.well_sorted.proofs.TermSorts.{Setting, con-of-type, OfType, BoundsSorted, AroundSorted, under-sorted, number-sorted, true-sorted, term-sorted, terms-sorted, gives-call, gives-an-inv}

-- # Constructors of a datatype

con-there : (p : Prog) (g : Setting p) (con n : ℕ) → datatype_of p.cons con ≡ Some (ty.Datatype n)
    → slice_get g.sig.cons con ≡ Some (con_of (data_sort p n) (map (sort_of p) (types.fields_of p.cons con)))
con-there p g con n e = ap (λ cs. slice_get cs con) g.has.cons ∙ con-of-type p con n e

arm-built : (p : Prog) (g : Setting p) (scope : List ℕ) (con n : ℕ) (t : Tm) → datatype_of p.cons con ≡ Some (ty.Datatype n) → OfType p g scope (ty.Datatype n) t
    → IsSorted g.sig g.added scope (formulas.is_built p con t)
arm-built p g scope con n t e h =
    let sorts = map (sort_of p) (types.fields_of p.cons con) in
    let decl = con_of (data_sort p n) sorts in
    let at = con-there p g con n e in (
      data_sort p n,
      h,
      con-sorted g.sig g.added scope con decl (builders.tms_of (builders.selectors con 0 (length (types.fields_of p.cons con)) t)) at
          (ap (λ k. have_sorts g.sig g.added scope sorts (builders.tms_of (builders.selectors con 0 k t))) (sym (length-map (types.fields_of p.cons con) (sort_of p)))
          ∙ sels-sorted g.sig g.added scope con decl t at h sorts 0 (λ j s q. ap (slice_get sorts) (let x : 0 + j ≡ j = omega arith in x) ∙ q)),
    )

fields-sorted : (p : Prog) (g : Setting p) (scope : List ℕ) (con i : ℕ) (decl : LogicCon) (t : Tm) (ts : List Ty) (tys : List Ty) (bounds : List Bound) → slice_get g.sig.cons con ≡ Some decl
    → has_sort g.sig g.added scope decl.sort t ≡ true → ((j : ℕ) (u : Ty) → slice_get ts j ≡ Some u → slice_get decl.args (i + j) ≡ Some (sort_of p u))
    → BoundsSorted p g scope tys bounds → BoundsSorted p g scope (typing.under ts tys) (under_fields con i ts t bounds)
fields-sorted p g scope con i decl t [] tys bounds e h f w = w
fields-sorted p g scope con i decl t (u ∷ ts) tys bounds e h f w =
    fields-sorted p g scope con (suc i) decl t ts (u ∷ tys) (record { ty = u; term = tm.Sel con i t } ∷ bounds) e h
    (λ j v q. ap (slice_get decl.args) (let x : suc i + j ≡ i + suc j = omega arith in x) ∙ f (suc j) v q)
    (refl, sel-sorted g.sig g.added scope con decl i (sort_of p u) t e (ap (slice_get decl.args) (let x : i ≡ i + 0 = omega arith in x) ∙ f 0 u refl) h, w)

arm-around : (p : Prog) (g : Setting p) (frame : Frame) (scope : List ℕ) (con n : ℕ) (t : Tm) (a : Around) (tys : List Ty) → datatype_of p.cons con ≡ Some (ty.Datatype n) → OfType p g scope (ty.Datatype n) t
    → AroundSorted p g frame scope a tys → AroundSorted p g frame scope (under_arm p con t a) (typing.under (types.fields_of p.cons con) tys)
arm-around p g frame scope con n t a tys e h w =
    let sorts = map (sort_of p) (types.fields_of p.cons con) in
    record {
      slots = w.slots;
      bounds =
          fields-sorted p g scope con 0 (con_of (data_sort p n) sorts) t (types.fields_of p.cons con) tys a.bounds (con-there p g con n e) h
          (λ j u q. ap (slice_get sorts) (let x : 0 + j ≡ j = omega arith in x) ∙ get-mapped (sort_of p) (types.fields_of p.cons con) j u q) w.bounds;
    }

or-later : (a b : Bool) → b ≡ true → a || b ≡ true
or-later true b h = refl
or-later false b h = h

-- # Formulas

module _ (p : Prog) (g : Setting p) (frame : Frame) where
  abbrev Fine : List ℕ → Fm → Type 0
  Fine scope f = IsSorted g.sig g.added scope f

  abbrev AllFine : List ℕ → Fms → Type 0
  AllFine scope fs = AreSorted g.sig g.added scope fs

  abbrev Stands : List ℕ → Around → List Ty → Type 0
  Stands scope a tys = AroundSorted p g frame scope a tys

  -- # What holds

  bool-sorted : (e : Ex) (scope : List ℕ) (a : Around) (tys : List Ty) → Stands scope a tys → is_ty (type_of p frame tys e) bool_ty ≡ true
      → Fine scope (fm.Lit true (tm.Equal (term_of p g.at a e) (tm.Con 1 no_tm)))
  bool-sorted e scope a tys w h = (data_sort p 0, term-sorted p g frame e bool_ty scope a tys w (is-type _ bool_ty h), true-sorted p g scope)

  question-sorted : (n : ℕ) (args : Exs) (scope : List ℕ) (a : Around) (tys : List Ty) → Stands scope a tys → is_truth p frame tys (ex.Query n args) ≡ true → (b : Bool) → asks (slice_get p.queries n) ≡ b
      → Fine scope (cond b (query_formula p g.at.view n (formulas.list_of (terms_of p g.at a args))) (fm.Lit true (tm.Equal (term_of p g.at a (ex.Query n args)) (tm.Con 1 no_tm))))
  question-sorted n args scope a tys w h true e =
      let q = asked-query p.queries n e in
      let given' : have_types p frame tys (query_args (slice_get p.queries n)) args ≡ true = question-types (slice_get p.queries n) frame.reads _ e h in
      query-sorted p g scope n q.0 (terms_of p g.at a args) q.1
      (terms-sorted p g frame q.0.args args scope a tys w (ap (λ o. have_types p frame tys (query_args o) args) (sym q.1) ∙ given'))
  question-sorted n args scope a tys w h false e =
      let q : is_question p frame tys (ex.Query n args) ≡ false = ap (λ b. b && frame.reads && have_types p frame tys (query_args (slice_get p.queries n)) args) (not-asked (slice_get p.queries n) e) in
      bool-sorted (ex.Query n args) scope a tys w (or-false (is_question p frame tys (ex.Query n args)) (is_ty (type_of p frame tys (ex.Query n args)) bool_ty) h q)

  holds-sorted : (e : Ex) (scope : List ℕ) (a : Around) (tys : List Ty) → Stands scope a tys → is_truth p frame tys e ≡ true → Fine scope (true_formula p g.at a e)
  holds-sorted (ex.Query n args) scope a tys w h = question-sorted n args scope a tys w h (asks (slice_get p.queries n)) refl
  holds-sorted (ex.Slot s) scope a tys w h = bool-sorted (ex.Slot s) scope a tys w h
  holds-sorted (ex.Bound n) scope a tys w h = bool-sorted (ex.Bound n) scope a tys w h
  holds-sorted (ex.Int n) scope a tys w h = bool-sorted (ex.Int n) scope a tys w h
  holds-sorted (ex.Str n) scope a tys w h = bool-sorted (ex.Str n) scope a tys w h
  holds-sorted (ex.Con c args) scope a tys w h = bool-sorted (ex.Con c args) scope a tys w h
  holds-sorted (ex.Plus b n) scope a tys w h = bool-sorted (ex.Plus b n) scope a tys w h
  holds-sorted (ex.Add b c) scope a tys w h = bool-sorted (ex.Add b c) scope a tys w h
  holds-sorted (ex.Sub b c) scope a tys w h = bool-sorted (ex.Sub b c) scope a tys w h
  holds-sorted (ex.OpOf c) scope a tys w h = bool-sorted (ex.OpOf c) scope a tys w h
  holds-sorted (ex.OpTerm n c) scope a tys w h = bool-sorted (ex.OpTerm n c) scope a tys w h
  holds-sorted (ex.OriginOf c) scope a tys w h = bool-sorted (ex.OriginOf c) scope a tys w h
  holds-sorted (ex.InfoOf c) scope a tys w h = bool-sorted (ex.InfoOf c) scope a tys w h
  holds-sorted (ex.InfoTerm n c) scope a tys w h = bool-sorted (ex.InfoTerm n c) scope a tys w h
  holds-sorted (ex.ResultOf c) scope a tys w h = bool-sorted (ex.ResultOf c) scope a tys w h
  holds-sorted (ex.ResultTerm c) scope a tys w h = bool-sorted (ex.ResultTerm c) scope a tys w h
  holds-sorted (ex.ResultWith n c) scope a tys w h = bool-sorted (ex.ResultWith n c) scope a tys w h
  holds-sorted ex.Unreturned scope a tys w h = bool-sorted ex.Unreturned scope a tys w h

  -- # Ranges

  record Ranged (over : Ty) : Type 0 where
    same : formulas.sort_of over ≡ sort_of p over
    below : sort_of p over < length g.sig.sorts

  calls-below : call_sort < length g.sig.sorts
  calls-below = subst (λ ss. call_sort < length ss) (sym g.has.sorts) (omega arith)

  ranged : (over : Ty) → is_range p frame over ≡ true → Ranged over
  ranged (ty.Atom n) h = record { same = refl; below = subst (λ ss. atom_sort n < length ss) (sym g.has.sorts) (at-lt (sorts_of p) (atom_sort n) _ (atoms-stand p n (ltb-true n _ h))) }
  ranged ty.Call h = record { same = refl; below = calls-below }
  ranged ty.Inv h = record { same = refl; below = subst (λ ss. inv_sort < length ss) (sym g.has.sorts) (omega arith) }
  ranged _ h = no h

  guard-sorted : (sign : Bool) (over : Ty) (scope : List ℕ) → AllFine (sort_of p over ∷ scope) (guard sign g.at over)
  guard-sorted sign ty.Call scope = (set-sorted g.sig g.added (call_sort ∷ scope) sign g.at.calls call_sort (tm.Var 0) g.place.calls refl, tt)
  guard-sorted sign ty.Inv scope = (set-sorted g.sig g.added (inv_sort ∷ scope) sign g.at.invs inv_sort (tm.Var 0) g.place.invs refl, tt)
  guard-sorted sign ty.Int scope = tt
  guard-sorted sign ty.Str scope = tt
  guard-sorted sign (ty.Atom n) scope = tt
  guard-sorted sign (ty.Datatype n) scope = tt
  guard-sorted sign ty.Operation scope = tt
  guard-sorted sign ty.Info scope = tt
  guard-sorted sign ty.Outcome scope = tt

  each-under-sorted : (gs : Fms) (f : Fm) (scope : List ℕ) → AllFine scope gs → Fine scope f → Fine scope (each_under gs f)
  each-under-sorted no_fm f scope h k = k
  each-under-sorted (also_fm c gs) f scope h k = (h.0, (k, h.1))

  some-under-sorted : (gs : Fms) (f : Fm) (scope : List ℕ) → AllFine scope gs → Fine scope f → Fine scope (some_under gs f)
  some-under-sorted no_fm f scope h k = k
  some-under-sorted (also_fm c gs) f scope h k = (h.0, (k, h.1))

  -- # Before

  done-sorted : (sign : Bool) (scope : List ℕ) (call inv : Tm) → has_sort g.sig g.added scope call_sort call ≡ true → has_sort g.sig g.added scope inv_sort inv ≡ true
      → AllFine scope (done_by sign g.at call inv)
  done-sorted sign scope call inv h k = (
    set-sorted g.sig g.added scope sign g.at.calls call_sort call g.place.calls h,
    ((inv_sort, applied-sorted g.sig g.added scope origin_fn call_sort inv_sort call g.has.origin h, k), tt),
  )

  one-sorted : (scope : List ℕ) (inv : Tm) → OfType p g scope ty.Inv inv → Fine scope (does_one g.at inv)
  one-sorted scope inv h = (calls-below, done-sorted true (call_sort ∷ scope) (tm.Var 0) (raised 1 inv) refl (raised-sort inv g.sig g.added scope call_sort inv_sort ∙ h))

  inv-before-sorted : (scope : List ℕ) (i j : Tm) → OfType p g scope ty.Inv i → OfType p g scope ty.Inv j → Fine scope (inv_before g.at i j)
  inv-before-sorted scope i j h k =
      let deep = call_sort ∷ call_sort ∷ scope in
      let one = done_by false g.at (tm.Var 1) (raised 2 i) in
      let other = done_by false g.at (tm.Var 0) (raised 2 j) in
      let before = one_fm (builders.is_before true (tm.Var 1) (tm.Var 0)) in (
        one-sorted scope i h,
        (
          one-sorted scope j k,
          (
            (
              calls-below,
              (
                calls-below,
                joined-sorted g.sig g.added deep one (joined other before) (done-sorted false deep (tm.Var 1) (raised 2 i) refl (raised-by g.sig g.added scope 2 inv_sort i h))
                    (joined-sorted g.sig g.added deep other before (done-sorted false deep (tm.Var 0) (raised 2 j) refl (raised-by g.sig g.added scope 2 inv_sort j k))
                    (pair-sorted g.sig g.added deep true before_rel call_sort call_sort (tm.Var 1) (tm.Var 0) g.has.before refl refl, tt)),
              ),
            ),
            tt,
          ),
        ),
      )

  both-of : (a b : Ex) (t : Ty) (tys : List Ty) → are_both p frame tys t a b ≡ true → (type_of p frame tys a ≡ Some t) × (type_of p frame tys b ≡ Some t)
  both-of a b t tys h = let k = and_parts _ _ h in (is-type _ t k.0, is-type _ t k.1)

  before-sorted : (d e : Ex) (scope : List ℕ) (a : Around) (tys : List Ty) → Stands scope a tys → (are_both p frame tys ty.Call d e ≡ true) ⊎ (are_both p frame tys ty.Inv d e ≡ true) → Fine scope (formula_of p g.at a (fo.Before d e))
  before-sorted d e scope a tys w (inl h) =
      let t = both-of d e ty.Call tys h in
      subst (λ b. Fine scope (cond b (inv_before g.at (term_of p g.at a d) (term_of p g.at a e)) (builders.is_before true (term_of p g.at a d) (term_of p g.at a e)))) (sym (gives-call p g frame d scope a tys w t.0))
      (pair-sorted g.sig g.added scope true before_rel call_sort call_sort (term_of p g.at a d) (term_of p g.at a e) g.has.before (term-sorted p g frame d ty.Call scope a tys w t.0) (term-sorted p g frame e ty.Call scope a tys w t.1))
  before-sorted d e scope a tys w (inr h) =
      let t = both-of d e ty.Inv tys h in
      subst (λ b. Fine scope (cond b (inv_before g.at (term_of p g.at a d) (term_of p g.at a e)) (builders.is_before true (term_of p g.at a d) (term_of p g.at a e)))) (sym (gives-an-inv p g frame d scope a tys w t.0))
      (inv-before-sorted scope (term_of p g.at a d) (term_of p g.at a e) (term-sorted p g frame d ty.Inv scope a tys w t.0) (term-sorted p g frame e ty.Inv scope a tys w t.1))

  arm-step : (x : Bool) (seen : List ℕ) (con n : ℕ) (t : Tm) (scope : List ℕ) (a : Around) (body : Fo) (rest : Arms) → Fine scope (formulas.is_built p con t) → Fine scope (formula_of p g.at (under_arm p con t a) body)
      → AllFine scope (arms_of p g.at a t seen rest) → AllFine scope (arms_of p g.at a t (con ∷ seen) rest)
      → AllFine scope (cond x (arms_of p g.at a t seen rest) (also_fm (fm.And (also_fm (formulas.is_built p con t) (one_fm (formula_of p g.at (under_arm p con t a) body)))) (arms_of p g.at a t (con ∷ seen) rest)))
  arm-step true seen con n t scope a body rest b f here next = here
  arm-step false seen con n t scope a body rest b f here next = ((b, (f, tt)), next)

  -- # All formulas

  mutual
    pub formula-sorted : (f : Fo) (scope : List ℕ) (a : Around) (tys : List Ty) → Stands scope a tys → is_typed p frame tys f ≡ true → Fine scope (formula_of p g.at a f)
    formula-sorted (fo.And fs) scope a tys w h = formulas-sorted fs scope a tys w h
    formula-sorted (fo.Or fs) scope a tys w h = formulas-sorted fs scope a tys w h
    formula-sorted (fo.Not f) scope a tys w h = dual-sorted (formula_of p g.at a f) g.sig g.added scope (formula-sorted f scope a tys w h)
    formula-sorted (fo.Implies f k) scope a tys w h =
        let b = and_parts _ _ h in (dual-sorted (formula_of p g.at a f) g.sig g.added scope (formula-sorted f scope a tys w b.0), (formula-sorted k scope a tys w b.1, tt))
    formula-sorted (fo.All over body) scope a tys w h =
        let b = and_parts _ _ h in
        let r = ranged over b.0 in
        subst (λ s. (s < length g.sig.sorts) × Fine (s ∷ scope) (each_under (guard false g.at over) (formula_of p g.at (under over a) body))) (sym r.same) (
          r.below,
          each-under-sorted (guard false g.at over) (formula_of p g.at (under over a) body) (sort_of p over ∷ scope) (guard-sorted false over scope)
              (formula-sorted body (sort_of p over ∷ scope) (under over a) (over ∷ tys) (under-sorted p g frame scope a tys over w) b.1),
        )
    formula-sorted (fo.Any over body) scope a tys w h =
        let b = and_parts _ _ h in
        let r = ranged over b.0 in
        subst (λ s. (s < length g.sig.sorts) × Fine (s ∷ scope) (some_under (guard true g.at over) (formula_of p g.at (under over a) body))) (sym r.same) (
          r.below,
          some-under-sorted (guard true g.at over) (formula_of p g.at (under over a) body) (sort_of p over ∷ scope) (guard-sorted true over scope)
              (formula-sorted body (sort_of p over ∷ scope) (under over a) (over ∷ tys) (under-sorted p g frame scope a tys over w) b.1),
        )
    formula-sorted (fo.Holds e) scope a tys w h = holds-sorted e scope a tys w h
    formula-sorted (fo.Equal d e) scope a tys w h =
        let t = agree-is _ _ (and_parts _ _ h).0 in (sort_of p t.0, term-sorted p g frame d t.0 scope a tys w t.1, term-sorted p g frame e t.0 scope a tys w t.2)
    formula-sorted (fo.Less d e) scope a tys w h =
        let t = both-of d e ty.Int tys h in (number-sorted p g scope (term_of p g.at a d) (term-sorted p g frame d ty.Int scope a tys w t.0), number-sorted p g scope (term_of p g.at a e) (term-sorted p g frame e ty.Int scope a tys w t.1))
    formula-sorted (fo.AtMost d e) scope a tys w h =
        let t = both-of d e ty.Int tys h in (number-sorted p g scope (term_of p g.at a d) (term-sorted p g frame d ty.Int scope a tys w t.0), number-sorted p g scope (term_of p g.at a e) (term-sorted p g frame e ty.Int scope a tys w t.1))
    formula-sorted (fo.Visible call) scope a tys w h = set-sorted g.sig g.added scope true g.at.view call_sort (term_of p g.at a call) g.place.view (term-sorted p g frame call ty.Call scope a tys w (is-type _ ty.Call h))
    formula-sorted (fo.Before d e) scope a tys w h = before-sorted d e scope a tys w (or-cases _ _ h)
    formula-sorted (fo.Same d e) scope a tys w h =
        let t = both-of d e ty.Call tys h in
        pair-sorted g.sig g.added scope true same_rel call_sort call_sort (term_of p g.at a d) (term_of p g.at a e) g.has.same (term-sorted p g frame d ty.Call scope a tys w t.0) (term-sorted p g frame e ty.Call scope a tys w t.1)
    formula-sorted (fo.Match on arms) scope a tys w h =
        let b = and_parts _ _ h in
        let t = cases-type p (type_of p frame tys on) _ b.0 in
        let cover = ap (λ o. typing.are_cases p o (arm_cons arms)) (sym t.1) ∙ b.0 in
        arms-sorted arms [] t.0 (term_of p g.at a on) scope a tys w (term-sorted p g frame on (ty.Datatype t.0) scope a tys w t.1) (λ c m. covered p g.facts t.0 (arm_cons arms) cover c m) b.1

    arms-sorted : (arms : Arms) (seen : List ℕ) (n : ℕ) (t : Tm) (scope : List ℕ) (a : Around) (tys : List Ty) → Stands scope a tys → OfType p g scope (ty.Datatype n) t
        → ((c : ℕ) → is_among c (arm_cons arms) ≡ true → datatype_of p.cons c ≡ Some (ty.Datatype n)) → are_typed_arms p frame tys arms ≡ true → AllFine scope (arms_of p g.at a t seen arms)
    arms-sorted no_arm seen n t scope a tys w s c h = tt
    arms-sorted (also_arm con body rest) seen n t scope a tys w s c h =
        let b = and_parts _ _ h in
        let of = c con (ap (λ b. b || is_among con (arm_cons rest)) (eq-eqb con con refl)) in
        let later : (d : ℕ) → is_among d (arm_cons rest) ≡ true → datatype_of p.cons d ≡ Some (ty.Datatype n) = λ d m. c d (or-later (nat_eq d con) (is_among d (arm_cons rest)) m) in
        arm-step (is_among con seen) seen con n t scope a body rest (arm-built p g scope con n t of s)
        (formula-sorted body scope (under_arm p con t a) (typing.under (types.fields_of p.cons con) tys) (arm-around p g frame scope con n t a tys of s w) b.0)
        (arms-sorted rest seen n t scope a tys w s later b.1) (arms-sorted rest (con ∷ seen) n t scope a tys w s later b.1)

    formulas-sorted : (fs : Fos) (scope : List ℕ) (a : Around) (tys : List Ty) → Stands scope a tys → are_typed p frame tys fs ≡ true → AllFine scope (formulas_of p g.at a fs)
    formulas-sorted no_fo scope a tys w h = tt
    formulas-sorted (also_fo f fs) scope a tys w h = let b = and_parts _ _ h in (formula-sorted f scope a tys w b.0, formulas-sorted fs scope a tys w b.1)
