-- The terms of expressions are of the sorts of their types.
use Rattle.std.proofs.Common.{◌≡◌, ℕ, zero, suc, List, [], ◌∷◌, length, map, slice_get, true, false, Option, Some, None, refl, sym, ap, ◌∙◌, subst, eq-eqb, ltb-true, true≢false, ◌<◌}
use Rattle.std.proofs.lemmas.Bool.{and_parts, and_from}
use Rattle.std.proofs.lemmas.Option.{none-some, same_Some}
use Rattle.rp_value.specs.declared.tables.Ty.{Ty}
use Rattle.rp_value.specs.declared.tables.Ty.TheVariants as ty
use Rattle.rp_value.specs.declared.tables.ConDecl.{ConDecl}
use Rattle.rp_lang.specs.Exprs as ex
use Rattle.rp_lang.specs.Exprs.{Ex, Exs, no_ex, also_ex}
use Rattle.rp_lang.specs.Types as types
use Rattle.rp_lang.specs.Types.{is_ty, bool_ty, is_ordinary, datatype_of, datatype_in, fields_in}
use Rattle.rp_lang.specs.Typing.{Frame, slot_ty, type_of, have_types, query_args, op_args, proc_params, is_proc}
use Rattle.rp_lang.specs.Programs.{Prog, Proc}
use Rattle.rp_lang.specs.WellFormed.{is_well_formed}
use Rattle.rp_lang.proofs.ProgramFacts.{Facts, bool-decl, listed-of, bare-fields, facts}
use Rattle.rp_lang.proofs.TypeFacts.{is_data, is-type, given-some}
use Rattle.event_machine.proofs.PlaceLemmas.{at-exists, at-lt}
use Rattle.rp_logic.specs.declared.sort.LogicCon.{LogicCon}
use Rattle.rp_logic.specs.declared.sort.NewConst.{NewConst}
use Rattle.rp_logic.specs.Terms as tm
use Rattle.rp_logic.specs.Terms.{Tm, Tms, no_tm, also_tm}
use Rattle.rp_logic.specs.Signatures.{Signature, is_int, is_str}
use Rattle.rp_logic.specs.Sorted.{has_sort, have_sorts, IsNumber}
use Rattle.rp_logic.proofs.KeptSorts.{raised-sort}
use Rattle.rp_logic.proofs.SortLaws.{no}
use Rattle.rp_symbols.specs.Numbers.{inv_sort, atom_sort, int_sort, str_sort, data_sort, op_sort, info_sort, outcome_sort, op_con, info_con, unreturned_con, outcome_con, op_fn, origin_fn, info_fn, add_fn, sub_fn, val_fn}
use Rattle.rp_symbols.specs.Signatures.{sort_of, sorts_of, con_of, con_decls, result_list, fn_of}
use Rattle.rp_symbols.proofs.Stand.{atoms-stand, datatypes-stand, ints-stand, strings-stand, own-stand, operations-stand, records-stand, unreturned-stands, outcomes-stand}
use Rattle.crdt_enc.specs.Builders.{applied}
use Rattle.crdt_enc.specs.Places.{At}
use Rattle.crdt_enc.specs.FormulaFormulas.{Bound, Around, or_false_tm, bound_tm, term_of, terms_of, raised_bounds, is_inv, is_inv_type, gives_inv}
use Rattle.crdt_enc.proofs.TermLaws.{get-query}
use Rattle.crdt_enc.proofs.MeantLaws.{bare-there, result-there, agree-is}
use Rattle.crdt_enc.proofs.StageFacts.{query-data}
use Rattle.hist_struct.proofs.DefaultLaws.{data_number}
use Rattle.well_sorted.specs.Symbols.{HasSymbols, HasPlace}
use Rattle.well_sorted.proofs.Pieces.{fn-sorted, applied-sorted, con-sorted}

-- what the sorts of terms rest on
pub record Setting (p : Prog) : Type 0 where
  pub formed : is_well_formed p ≡ true
  pub facts : Facts p
  pub sig : Signature
  pub added : List NewConst
  pub has : HasSymbols p sig
  pub at : At
  pub place : HasPlace p sig at

-- at a place of a signature
abbrev pub setting : (p : Prog) (S : Signature) (added : List NewConst) (at : At) → is_well_formed p ≡ true → HasSymbols p S → HasPlace p S at → Setting p
setting p S added at w has place = record { formed = w; facts = facts p w; sig = S; added = added; has = has; at = at; place = place }

abbrev pub OfType : (p : Prog) → Setting p → List ℕ → Ty → Tm → Type 0
OfType p g scope t u = has_sort g.sig g.added scope (sort_of p t) u ≡ true

-- # What stands around

-- each variable's term is of its type's sort
abbrev pub BoundsSorted : (p : Prog) → Setting p → List ℕ → List Ty → List Bound → Type 0
BoundsSorted p g scope [] [] = Unit {0}
BoundsSorted p g scope (t ∷ tys) (b ∷ bounds) = (b.ty ≡ t) × OfType p g scope t b.term × BoundsSorted p g scope tys bounds
BoundsSorted p g scope _ _ = ⊥

-- the slots' terms are, wherever they stand
abbrev pub SlotsHave : (p : Prog) → Setting p → Frame → List Tm → Type 0
SlotsHave p g frame slots =
    (s : ℕ) (t : Ty) → slot_ty frame s ≡ Some t → (is_ordinary p.types t ≡ true) × ((scope : List ℕ) → OfType p g scope t (or_false_tm (slice_get slots s)))

pub record AroundSorted (p : Prog) (g : Setting p) (frame : Frame) (scope : List ℕ) (a : Around) (tys : List Ty) : Type 0 where
  pub slots : SlotsHave p g frame a.slots
  pub bounds : BoundsSorted p g scope tys a.bounds

record BoundIs (p : Prog) (g : Setting p) (scope : List ℕ) (t : Ty) (bound : Option Bound) : Type 0 where
  sorted : OfType p g scope t (bound_tm bound)
  inv : is_inv bound ≡ is_inv_type t

bound-at : (p : Prog) (g : Setting p) (scope : List ℕ) (tys : List Ty) (bounds : List Bound) → BoundsSorted p g scope tys bounds → (n : ℕ) (t : Ty) → slice_get tys n ≡ Some t
    → BoundIs p g scope t (slice_get bounds n)
bound-at p g scope (u ∷ tys) (b ∷ bounds) r zero t e =
    let s = same_Some u t e in record { sorted = subst (λ t. OfType p g scope t b.term) s r.1; inv = ap is_inv_type (r.0 ∙ s) }
bound-at p g scope (u ∷ tys) (b ∷ bounds) r (suc n) t e = bound-at p g scope tys bounds r.2 n t e
bound-at p g scope [] bounds r n t e = absurd (none-some t e)
bound-at p g scope (u ∷ tys) [] r n t e = elim r [ ]

raised-bounds : (p : Prog) (g : Setting p) (scope : List ℕ) (s : ℕ) (tys : List Ty) (bounds : List Bound) → BoundsSorted p g scope tys bounds → BoundsSorted p g (s ∷ scope) tys (raised_bounds 1 bounds)
raised-bounds p g scope s [] [] h = tt
raised-bounds p g scope s (t ∷ tys) (b ∷ bounds) h = (h.0, raised-sort b.term g.sig g.added scope s (sort_of p t) ∙ h.1, raised-bounds p g scope s tys bounds h.2)
raised-bounds p g scope s [] (b ∷ bounds) h = elim h [ ]
raised-bounds p g scope s (t ∷ tys) [] h = elim h [ ]

-- under one more quantifier over the type
pub under-sorted : (p : Prog) (g : Setting p) (frame : Frame) (scope : List ℕ) (a : Around) (tys : List Ty) (over : Ty) → AroundSorted p g frame scope a tys
    → AroundSorted p g frame (sort_of p over ∷ scope) (record { slots = a.slots; bounds = record { ty = over; term = tm.Var 0 } ∷ raised_bounds 1 a.bounds }) (over ∷ tys)
under-sorted p g frame scope a tys over w = record {
  slots = w.slots;
  bounds = (refl, eq-eqb (sort_of p over) (sort_of p over) refl, raised-bounds p g scope (sort_of p over) tys a.bounds w.bounds);
}

-- # Symbols

con-at : (p : Prog) (g : Setting p) (c : ℕ) (decl : LogicCon) → slice_get (con_decls p) c ≡ Some decl → slice_get g.sig.cons c ≡ Some decl
con-at p g c decl e = ap (λ cs. slice_get cs c) g.has.cons ∙ e

-- a constructor of a datatype
pub con-of-type : (p : Prog) (con n : ℕ) → datatype_of p.cons con ≡ Some (ty.Datatype n) → slice_get (con_decls p) con ≡ Some (con_of (data_sort p n) (map (sort_of p) (types.fields_of p.cons con)))
con-of-type p con n e = go (slice_get p.cons.cons con) refl e
  where
    go : (o : Option ConDecl) → slice_get p.cons.cons con ≡ o → datatype_in o ≡ Some (ty.Datatype n) → slice_get (con_decls p) con ≡ Some (con_of (data_sort p n) (map (sort_of p) (types.fields_of p.cons con)))
    go None is e = absurd (none-some _ e)
    go (Some decl) is e =
        own-stand p con decl is
        ∙ (ap (λ n. Some (con_of (data_sort p n) (map (sort_of p) decl.fields))) (ap data_number (same_Some (ty.Datatype decl.of) (ty.Datatype n) e))
        ∙ ap (λ o. Some (con_of (data_sort p n) (map (sort_of p) (fields_in o)))) (sym is))

-- the sort of a type of data is there
pub sort-below : (p : Prog) (g : Setting p) (t : Ty) → is_ordinary p.types t ≡ true → sort_of p t < length g.sig.sorts
sort-below p g t o = subst (λ ss. sort_of p t < length ss) (sym g.has.sorts) (go t o)
  where
    go : (t : Ty) → is_ordinary p.types t ≡ true → sort_of p t < length (sorts_of p)
    go ty.Int o = at-lt (sorts_of p) (int_sort p) _ (ints-stand p)
    go ty.Str o = at-lt (sorts_of p) (str_sort p) _ (strings-stand p)
    go (ty.Atom n) o = at-lt (sorts_of p) (atom_sort n) _ (atoms-stand p n (ltb-true n _ o))
    go (ty.Datatype d) o = let decl = at-exists p.types.datatypes d (ltb-true d _ o) in at-lt (sorts_of p) (data_sort p d) _ (datatypes-stand p d decl.0 decl.1)
    go _ o = no o

pub int-is : (p : Prog) (g : Setting p) → is_int (slice_get g.sig.sorts (int_sort p)) ≡ true
int-is p g = ap (λ ss. is_int (slice_get ss (int_sort p))) g.has.sorts ∙ ap is_int (ints-stand p)

str-is : (p : Prog) (g : Setting p) → is_str (slice_get g.sig.sorts (str_sort p)) ≡ true
str-is p g = ap (λ ss. is_str (slice_get ss (str_sort p))) g.has.sorts ∙ ap is_str (strings-stand p)

pub number-sorted : (p : Prog) (g : Setting p) (scope : List ℕ) (u : Tm) → OfType p g scope ty.Int u → IsNumber g.sig g.added scope u
number-sorted p g scope u h = (int_sort p, int-is p g, h)

two-numbers : (p : Prog) (g : Setting p) (scope : List ℕ) (f : ℕ) (t u : Tm) → slice_get g.sig.fns f ≡ Some (fn_of (int_sort p ∷ int_sort p ∷ []) (int_sort p)) → OfType p g scope ty.Int t → OfType p g scope ty.Int u
    → OfType p g scope ty.Int (tm.Fn f (also_tm t (also_tm u no_tm)))
two-numbers p g scope f t u e h k =
    fn-sorted g.sig g.added scope f (fn_of (int_sort p ∷ int_sort p ∷ []) (int_sort p)) (also_tm t (also_tm u no_tm)) e
    (and_from (has_sort g.sig g.added scope (int_sort p) t) _ h (and_from (has_sort g.sig g.added scope (int_sort p) u) true k refl))

-- of the type that was found
told : (p : Prog) (g : Setting p) (scope : List ℕ) (t u : Ty) (x : Tm) → Some t ≡ Some u → OfType p g scope t x → OfType p g scope u x
told p g scope t u x e h = subst (λ t. OfType p g scope t x) (same_Some t u e) h

-- a constructor of the program
pub own-sorted : (p : Prog) (g : Setting p) (scope : List ℕ) (con : ℕ) (args : Tms) (t : Ty) → datatype_of p.cons con ≡ Some t
    → have_sorts g.sig g.added scope (map (sort_of p) (types.fields_of p.cons con)) args ≡ true → OfType p g scope t (tm.Con con args)
own-sorted p g scope con args t e h = go (slice_get p.cons.cons con) refl e h
  where
    go : (o : Option ConDecl) → slice_get p.cons.cons con ≡ o → datatype_in o ≡ Some t → have_sorts g.sig g.added scope (map (sort_of p) (fields_in o)) args ≡ true → OfType p g scope t (tm.Con con args)
    go None is e h = absurd (none-some t e)
    go (Some decl) is e h =
        told p g scope (ty.Datatype decl.of) t (tm.Con con args) e
        (con-sorted g.sig g.added scope con (con_of (data_sort p decl.of) (map (sort_of p) decl.fields)) args (con-at p g con (con_of (data_sort p decl.of) (map (sort_of p) decl.fields)) (own-stand p con decl is)) h)

-- the term `true`
pub true-sorted : (p : Prog) (g : Setting p) (scope : List ℕ) → OfType p g scope bool_ty (tm.Con 1 no_tm)
true-sorted p g scope =
    let parts = and_parts _ _ g.facts.truths in
    let first = and_parts _ _ parts.0 in
    let decl = bool-decl (slice_get p.types.datatypes 0) first.0 in
    own-sorted p g scope 1 no_tm bool_ty (listed-of p g.facts 0 decl.0 1 1 decl.1 decl.3)
    (ap (λ ts. have_sorts g.sig g.added scope (map (sort_of p) ts) no_tm) (bare-fields _ (slice_get p.cons.cons 1) parts.1))

-- # Terms

proc-there : (procs : List Proc) (n : ℕ) → is_proc (slice_get procs n) ≡ true → (q : Proc) × (slice_get procs n ≡ Some q)
proc-there procs n h = go (slice_get procs n) refl h
  where
    go : (o : Option Proc) → slice_get procs n ≡ o → is_proc o ≡ true → (q : Proc) × (slice_get procs n ≡ Some q)
    go None e h = no h
    go (Some q) e h = (q, e)

module _ (p : Prog) (g : Setting p) (frame : Frame) where
  mutual
    pub term-sorted : (e : Ex) (t : Ty) (scope : List ℕ) (a : Around) (tys : List Ty) → AroundSorted p g frame scope a tys → type_of p frame tys e ≡ Some t → OfType p g scope t (term_of p g.at a e)
    term-sorted (ex.Slot s) t scope a tys w e = (w.slots s t e).1 scope
    term-sorted (ex.Bound n) t scope a tys w e = (bound-at p g scope tys a.bounds w.bounds n t e).sorted
    term-sorted (ex.Int n) t scope a tys w e = told p g scope ty.Int t (tm.Int n) (given-some _ _ t e).1 (int-is p g)
    term-sorted (ex.Str bytes) t scope a tys w e = told p g scope ty.Str t (tm.Str bytes) e (str-is p g)
    term-sorted (ex.Con con args) t scope a tys w e =
        let k = given-some _ _ t e in own-sorted p g scope con (terms_of p g.at a args) t k.1 (terms-sorted (types.fields_of p.cons con) args scope a tys w k.0)
    term-sorted (ex.Plus b n) t scope a tys w e =
        let k = given-some _ _ t e in
        told p g scope ty.Int t (tm.Plus (term_of p g.at a b) n) k.1 (and_from (is_int (slice_get g.sig.sorts (int_sort p))) _ (int-is p g) (term-sorted b ty.Int scope a tys w (is-type _ ty.Int (and_parts _ _ k.0).1)))
    term-sorted (ex.Add b c) t scope a tys w e =
        let k = given-some _ _ t e in
        let s = and_parts _ _ k.0 in
        told p g scope ty.Int t (tm.Fn add_fn (also_tm (term_of p g.at a b) (also_tm (term_of p g.at a c) no_tm))) k.1
        (two-numbers p g scope add_fn (term_of p g.at a b) (term_of p g.at a c) g.has.add (term-sorted b ty.Int scope a tys w (is-type _ ty.Int s.0)) (term-sorted c ty.Int scope a tys w (is-type _ ty.Int s.1)))
    term-sorted (ex.Sub b c) t scope a tys w e =
        let k = given-some _ _ t e in
        let s = and_parts _ _ k.0 in
        told p g scope ty.Int t (tm.Fn sub_fn (also_tm (term_of p g.at a b) (also_tm (term_of p g.at a c) no_tm))) k.1
        (two-numbers p g scope sub_fn (term_of p g.at a b) (term_of p g.at a c) g.has.sub (term-sorted b ty.Int scope a tys w (is-type _ ty.Int s.0)) (term-sorted c ty.Int scope a tys w (is-type _ ty.Int s.1)))
    term-sorted (ex.Query n args) t scope a tys w e =
        let k = given-some _ _ t e in
        let q = get-query p.queries n t k.1 in
        let types' : have_types p frame tys q.0.args args ≡ true = ap (λ o. have_types p frame tys (query_args o) args) (sym q.1) ∙ (and_parts _ _ k.0).1 in
        subst (λ t. OfType p g scope t (tm.Fn (val_fn p g.at.view n) (terms_of p g.at a args))) q.3
        (fn-sorted g.sig g.added scope (val_fn p g.at.view n) (fn_of (map (sort_of p) q.0.args) (sort_of p q.0.result)) (terms_of p g.at a args) (g.place.vals n q.0 q.1 q.2) (terms-sorted q.0.args args scope a tys w types'))
    term-sorted (ex.OpOf call) t scope a tys w e =
        let k = given-some _ _ t e in
        told p g scope ty.Operation t (applied op_fn (term_of p g.at a call)) k.1 (applied-sorted g.sig g.added scope op_fn 0 (op_sort p) (term_of p g.at a call) g.has.op (term-sorted call ty.Call scope a tys w (is-type _ ty.Call k.0)))
    term-sorted (ex.OpTerm op args) t scope a tys w e =
        let k = given-some _ _ t e in
        let s = and_parts _ _ k.0 in
        let decl = at-exists p.ops op (ltb-true op (length p.ops) s.0) in
        let types' : have_types p frame tys decl.0.args args ≡ true = ap (λ o. have_types p frame tys (op_args o) args) (sym decl.1) ∙ s.1 in
        told p g scope ty.Operation t (tm.Con (op_con p op) (terms_of p g.at a args)) k.1
        (con-sorted g.sig g.added scope (op_con p op) (con_of (op_sort p) (map (sort_of p) decl.0.args)) (terms_of p g.at a args) (con-at p g (op_con p op) (con_of (op_sort p) (map (sort_of p) decl.0.args)) (operations-stand p op decl.0 decl.1)) (terms-sorted decl.0.args args scope a tys w types'))
    term-sorted (ex.OriginOf call) t scope a tys w e =
        let k = given-some _ _ t e in
        told p g scope ty.Inv t (applied origin_fn (term_of p g.at a call)) k.1 (applied-sorted g.sig g.added scope origin_fn 0 inv_sort (term_of p g.at a call) g.has.origin (term-sorted call ty.Call scope a tys w (is-type _ ty.Call k.0)))
    term-sorted (ex.InfoOf inv) t scope a tys w e =
        let k = given-some _ _ t e in
        told p g scope ty.Info t (applied info_fn (term_of p g.at a inv)) k.1 (applied-sorted g.sig g.added scope info_fn inv_sort (info_sort p) (term_of p g.at a inv) g.has.info (term-sorted inv ty.Inv scope a tys w (is-type _ ty.Inv k.0)))
    term-sorted (ex.InfoTerm proc args) t scope a tys w e =
        let k = given-some _ _ t e in
        let s = and_parts _ _ k.0 in
        let q = proc-there p.procs proc s.0 in
        let types' : have_types p frame tys q.0.params args ≡ true = ap (λ o. have_types p frame tys (proc_params o) args) (sym q.1) ∙ s.1 in
        told p g scope ty.Info t (tm.Con (info_con p proc) (terms_of p g.at a args)) k.1
        (con-sorted g.sig g.added scope (info_con p proc) (con_of (info_sort p) (map (sort_of p) q.0.params)) (terms_of p g.at a args) (con-at p g (info_con p proc) (con_of (info_sort p) (map (sort_of p) q.0.params)) (records-stand p proc q.0 q.1)) (terms-sorted q.0.params args scope a tys w types'))
    term-sorted (ex.ResultOf inv) t scope a tys w e =
        let k = given-some _ _ t e in
        told p g scope ty.Outcome t (applied g.at.results (term_of p g.at a inv)) k.1 (applied-sorted g.sig g.added scope g.at.results inv_sort (outcome_sort p) (term_of p g.at a inv) g.place.results (term-sorted inv ty.Inv scope a tys w (is-type _ ty.Inv k.0)))
    term-sorted (ex.ResultTerm proc) t scope a tys w e =
        let k = given-some _ _ t e in
        let q = bare-there p.procs proc k.0 in
        told p g scope ty.Outcome t (tm.Con (outcome_con p proc) no_tm) k.1
        (con-sorted g.sig g.added scope (outcome_con p proc) (con_of (outcome_sort p) (map (sort_of p) (result_list q.0.result))) no_tm (con-at p g (outcome_con p proc) (con_of (outcome_sort p) (map (sort_of p) (result_list q.0.result))) (outcomes-stand p proc q.0 q.1))
        (ap (λ o. have_sorts g.sig g.added scope (map (sort_of p) (result_list o)) no_tm) q.2))
    term-sorted (ex.ResultWith proc v) t scope a tys w e =
        let k = given-some _ _ t e in
        let u = agree-is _ _ k.0 in
        let q = result-there p.procs proc u.0 u.2 in
        let value = term-sorted v u.0 scope a tys w u.1 in
        told p g scope ty.Outcome t (tm.Con (outcome_con p proc) (also_tm (term_of p g.at a v) no_tm)) k.1
        (con-sorted g.sig g.added scope (outcome_con p proc) (con_of (outcome_sort p) (map (sort_of p) (result_list q.0.result))) (also_tm (term_of p g.at a v) no_tm) (con-at p g (outcome_con p proc) (con_of (outcome_sort p) (map (sort_of p) (result_list q.0.result))) (outcomes-stand p proc q.0 q.1))
        (ap (λ o. have_sorts g.sig g.added scope (map (sort_of p) (result_list o)) (also_tm (term_of p g.at a v) no_tm)) q.2 ∙ and_from (has_sort g.sig g.added scope (sort_of p u.0) (term_of p g.at a v)) true value refl))
    term-sorted ex.Unreturned t scope a tys w e =
        told p g scope ty.Outcome t (tm.Con (unreturned_con p) no_tm) e (con-sorted g.sig g.added scope (unreturned_con p) (con_of (outcome_sort p) []) no_tm (con-at p g (unreturned_con p) (con_of (outcome_sort p) []) (unreturned-stands p)) refl)

    pub terms-sorted : (ts : List Ty) (es : Exs) (scope : List ℕ) (a : Around) (tys : List Ty) → AroundSorted p g frame scope a tys → have_types p frame tys ts es ≡ true
        → have_sorts g.sig g.added scope (map (sort_of p) ts) (terms_of p g.at a es) ≡ true
    terms-sorted [] no_ex scope a tys w h = refl
    terms-sorted [] (also_ex x es) scope a tys w h = no h
    terms-sorted (t ∷ ts) no_ex scope a tys w h = no h
    terms-sorted (t ∷ ts) (also_ex x es) scope a tys w h =
        let b = and_parts _ _ h in
        and_from (has_sort g.sig g.added scope (sort_of p t) (term_of p g.at a x)) _ (term-sorted x t scope a tys w (is-type _ t b.0)) (terms-sorted ts es scope a tys w b.1)

  -- # Whether an expression stands for an invocation

  no-inv : {A : Type 0} (u : Ty) → Some u ≡ Some ty.Inv → is_inv_type u ≡ false → A
  no-inv u e f = absurd (true≢false (sym (ap is_inv_type (same_Some u ty.Inv e)) ∙ f))

  no-con : {A : Type 0} (o : Option ConDecl) → datatype_in o ≡ Some ty.Inv → A
  no-con None e = absurd (none-some ty.Inv e)
  no-con (Some decl) e = no-inv (ty.Datatype decl.of) e refl

  pub gives-call : (e : Ex) (scope : List ℕ) (a : Around) (tys : List Ty) → AroundSorted p g frame scope a tys → type_of p frame tys e ≡ Some ty.Call → gives_inv a e ≡ false
  gives-call (ex.Bound n) scope a tys w h = (bound-at p g scope tys a.bounds w.bounds n ty.Call h).inv
  gives-call (ex.OriginOf c) scope a tys w h = absurd (true≢false (ap is_inv_type (same_Some ty.Inv ty.Call (given-some _ _ ty.Call h).1)))
  gives-call _ scope a tys w h = refl

  pub gives-an-inv : (e : Ex) (scope : List ℕ) (a : Around) (tys : List Ty) → AroundSorted p g frame scope a tys → type_of p frame tys e ≡ Some ty.Inv → gives_inv a e ≡ true
  gives-an-inv (ex.Bound n) scope a tys w h = (bound-at p g scope tys a.bounds w.bounds n ty.Inv h).inv
  gives-an-inv (ex.OriginOf c) scope a tys w h = refl
  gives-an-inv (ex.Slot s) scope a tys w h = no (w.slots s ty.Inv h).0
  gives-an-inv (ex.Int n) scope a tys w h = no-inv ty.Int (given-some _ _ ty.Inv h).1 refl
  gives-an-inv (ex.Str n) scope a tys w h = no-inv ty.Str h refl
  gives-an-inv (ex.Con con args) scope a tys w h = no-con (slice_get p.cons.cons con) (given-some _ _ ty.Inv h).1
  gives-an-inv (ex.Plus b n) scope a tys w h = no-inv ty.Int (given-some _ _ ty.Inv h).1 refl
  gives-an-inv (ex.Add b n) scope a tys w h = no-inv ty.Int (given-some _ _ ty.Inv h).1 refl
  gives-an-inv (ex.Sub b n) scope a tys w h = no-inv ty.Int (given-some _ _ ty.Inv h).1 refl
  gives-an-inv (ex.Query n args) scope a tys w h =
      let q = get-query p.queries n ty.Inv (given-some _ _ ty.Inv h).1 in no (ap is_data (sym q.3) ∙ (query-data p g.facts n q.0 q.1).1)
  gives-an-inv (ex.OpOf c) scope a tys w h = no-inv ty.Operation (given-some _ _ ty.Inv h).1 refl
  gives-an-inv (ex.OpTerm n c) scope a tys w h = no-inv ty.Operation (given-some _ _ ty.Inv h).1 refl
  gives-an-inv (ex.InfoOf c) scope a tys w h = no-inv ty.Info (given-some _ _ ty.Inv h).1 refl
  gives-an-inv (ex.InfoTerm n c) scope a tys w h = no-inv ty.Info (given-some _ _ ty.Inv h).1 refl
  gives-an-inv (ex.ResultOf c) scope a tys w h = no-inv ty.Outcome (given-some _ _ ty.Inv h).1 refl
  gives-an-inv (ex.ResultTerm c) scope a tys w h = no-inv ty.Outcome (given-some _ _ ty.Inv h).1 refl
  gives-an-inv (ex.ResultWith n c) scope a tys w h = no-inv ty.Outcome (given-some _ _ ty.Inv h).1 refl
  gives-an-inv ex.Unreturned scope a tys w h = no-inv ty.Outcome h refl
