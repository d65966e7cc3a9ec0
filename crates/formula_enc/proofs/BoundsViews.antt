-- What each variant of the variables around is seen as, and the look-up among an arm's variables.
use Rattle.std.proofs.Common.{◌≡◌, ◌<◌, ◌+◌, ◌-◌, ℕ, List, [], ◌∷◌, zero, suc, length, Option, Some, None, slice_get, arith, refl, sym, ap, ◌∙◌}
use Rattle.std.specs.Borrow.{Bor}
use Rattle.std.specs.Option.{option_map}
use Rattle.std.proofs.lemmas.Option.{slice_get-map, same_Some}
use Rattle.rp_value.specs.declared.tables.Ty.{Ty}
use Rattle.rp_logic.specs.declared.term.Term.{Term}
use Rattle.rp_logic.specs.Filling.{raised, raised_each}
use Rattle.rp_logic.specs.Terms.{Tm, Var, Const, Fn, Int, Str, Con, Sel, Plus, Tms, no_tm, also_tm}
use Rattle.rp_logic.specs.Views.{term_view}
use Rattle.crdt_enc.specs.FormulaFormulas.{Bound, raised_bounds, under_fields, bound_tm, is_inv, is_inv_type}
use Rattle.formula_enc.specs.declared.bounds.Bounds.{Bounds}
use Rattle.formula_enc.specs.declared.bounds.Bounds.TheVariants.{Closed, Quantified, Fields, outs-Closed, outs-Quantified, outs-Fields}
use Rattle.formula_enc.specs.declared.bounds.Bounds.TheFolds.{fold_out-Bounds, map-Bounds}
use Rattle.formula_enc.specs.Settings.{bounds_step, bounds_view}

pub bounds_view-Closed : bounds_view Closed ≡ []
bounds_view-Closed = fold_out-Bounds (List Bound) bounds_step Closed ∙ ap (λ l. bounds_step (map-Bounds Bounds (List Bound) bounds_view l)) outs-Closed

pub bounds_view-Quantified : (ty : Ty) (outer : Bor Bounds) → bounds_view (Quantified ty outer) ≡ record { ty = ty; term = Var 0 } ∷ raised_bounds 1 (bounds_view outer.now)
bounds_view-Quantified ty outer = fold_out-Bounds (List Bound) bounds_step (Quantified ty outer) ∙ ap (λ l. bounds_step (map-Bounds Bounds (List Bound) bounds_view l)) (outs-Quantified ty outer)

pub bounds_view-Fields : (con : ℕ) (tys : Bor (List Ty)) (on : Bor Term) (outer : Bor Bounds) → bounds_view (Fields con tys on outer) ≡ under_fields con 0 tys.now (term_view on.now) (bounds_view outer.now)
bounds_view-Fields con tys on outer = fold_out-Bounds (List Bound) bounds_step (Fields con tys on outer) ∙ ap (λ l. bounds_step (map-Bounds Bounds (List Bound) bounds_view l)) (outs-Fields con tys on outer)

pub ruleset bounds_views = (bounds_view-Closed, bounds_view-Quantified, bounds_view-Fields)

-- # Raised terms

mutual
  pub raised_twice : (k : ℕ) (t : Tm) → raised k (raised 1 t) ≡ raised (k + 1) t
  raised_twice k (Var n) = ap Var (let e : n + 1 + k ≡ n + (k + 1) = omega arith in e)
  raised_twice k (Const c) = refl
  raised_twice k (Fn f args) = ap (Fn f) (raised_each_twice k args)
  raised_twice k (Int n) = refl
  raised_twice k (Str bytes) = refl
  raised_twice k (Con con args) = ap (Con con) (raised_each_twice k args)
  raised_twice k (Sel con i t) = ap (Sel con i) (raised_twice k t)
  raised_twice k (Plus t n) = ap (λ u. Plus u n) (raised_twice k t)

  raised_each_twice : (k : ℕ) (ts : Tms) → raised_each k (raised_each 1 ts) ≡ raised_each (k + 1) ts
  raised_each_twice k no_tm = refl
  raised_each_twice k (also_tm t ts) = ap (λ u. also_tm u (raised_each k (raised_each 1 ts))) (raised_twice k t) ∙ ap (also_tm (raised (k + 1) t)) (raised_each_twice k ts)

mutual
  pub not_raised : (t : Tm) → raised 0 t ≡ t
  not_raised (Var n) = ap Var (let e : n + 0 ≡ n = omega arith in e)
  not_raised (Const c) = refl
  not_raised (Fn f args) = ap (Fn f) (none_raised args)
  not_raised (Int n) = refl
  not_raised (Str bytes) = refl
  not_raised (Con con args) = ap (Con con) (none_raised args)
  not_raised (Sel con i t) = ap (Sel con i) (not_raised t)
  not_raised (Plus t n) = ap (λ u. Plus u n) (not_raised t)

  none_raised : (ts : Tms) → raised_each 0 ts ≡ ts
  none_raised no_tm = refl
  none_raised (also_tm t ts) = ap (λ u. also_tm u (raised_each 0 ts)) (not_raised t) ∙ ap (also_tm t) (none_raised ts)

-- # Under a quantifier

raised-bound : (o : Option Bound) → bound_tm (option_map (λ (b : Bound). record { ty = b.ty; term = raised 1 b.term }) o) ≡ raised 1 (bound_tm o)
raised-bound None = refl
raised-bound (Some b) = refl

pub outer_term : (bounds : List Bound) (n : ℕ) → bound_tm (slice_get (raised_bounds 1 bounds) n) ≡ raised 1 (bound_tm (slice_get bounds n))
outer_term bounds n = ap bound_tm (slice_get-map (λ (b : Bound). record { ty = b.ty; term = raised 1 b.term }) bounds n) ∙ raised-bound (slice_get bounds n)

raised-inv : (o : Option Bound) → is_inv (option_map (λ (b : Bound). record { ty = b.ty; term = raised 1 b.term }) o) ≡ is_inv o
raised-inv None = refl
raised-inv (Some b) = refl

pub outer_inv : (bounds : List Bound) (n : ℕ) → is_inv (slice_get (raised_bounds 1 bounds) n) ≡ is_inv (slice_get bounds n)
outer_inv bounds n = ap is_inv (slice_get-map (λ (b : Bound). record { ty = b.ty; term = raised 1 b.term }) bounds n) ∙ raised-inv (slice_get bounds n)

-- # In an arm

-- past an arm's variables come those around it
pub fields_past : (con i : ℕ) (tys : List Ty) (t : Tm) (bounds : List Bound) (n : ℕ) → slice_get (under_fields con i tys t bounds) (length tys + n) ≡ slice_get bounds n
fields_past con i [] t bounds n = ap (slice_get bounds) (let e : 0 + n ≡ n = omega arith in e)
fields_past con i (ty ∷ tys) t bounds n =
    let e : length (ty ∷ tys) + n ≡ length tys + suc n = omega arith in
    ap (slice_get (under_fields con i (ty ∷ tys) t bounds)) e ∙ fields_past con (suc i) tys t (record { ty = ty; term = Sel con i t } ∷ bounds) (suc n)

-- the last field is the innermost
pub fields_within : (con i : ℕ) (tys : List Ty) (t : Tm) (bounds : List Bound) (j n : ℕ) (ty : Ty) → j + suc n ≡ length tys → slice_get tys j ≡ Some ty
    → slice_get (under_fields con i tys t bounds) n ≡ Some (record { ty = ty; term = Sel con (i + j) t })
fields_within con i [] t bounds j n ty e h = absurd (omega (arith, e))
fields_within con i (u ∷ tys) t bounds zero n ty e h =
    let past : n ≡ length tys + 0 = omega (arith, e) in
    let first : u ≡ ty = same_Some u ty h in
    ap (slice_get (under_fields con i (u ∷ tys) t bounds)) past
    ∙ (fields_past con (suc i) tys t (record { ty = u; term = Sel con i t } ∷ bounds) 0
    ∙ (ap (λ x. Some (record { ty = x; term = Sel con i t })) first ∙ ap (λ k. Some (record { ty = ty; term = Sel con k t })) (let z : i ≡ i + 0 = omega arith in z)))
fields_within con i (u ∷ tys) t bounds (suc j) n ty e h =
    fields_within con (suc i) tys t (record { ty = u; term = Sel con i t } ∷ bounds) j n ty (omega (arith, e)) h
    ∙ ap (λ k. Some (record { ty = ty; term = Sel con k t })) (let z : suc i + j ≡ i + suc j = omega arith in z)

pub term_within : (con i : ℕ) (tys : List Ty) (t : Tm) (bounds : List Bound) (j n : ℕ) → j + suc n ≡ length tys → bound_tm (slice_get (under_fields con i tys t bounds) n) ≡ Sel con (i + j) t
term_within con i [] t bounds j n e = absurd (omega (arith, e))
term_within con i (u ∷ tys) t bounds zero n e =
    let past : n ≡ length tys + 0 = omega (arith, e) in
    ap (λ m. bound_tm (slice_get (under_fields con i (u ∷ tys) t bounds) m)) past
    ∙ (ap bound_tm (fields_past con (suc i) tys t (record { ty = u; term = Sel con i t } ∷ bounds) 0) ∙ ap (λ k. Sel con k t) (let z : i ≡ i + 0 = omega arith in z))
term_within con i (u ∷ tys) t bounds (suc j) n e =
    term_within con (suc i) tys t (record { ty = u; term = Sel con i t } ∷ bounds) j n (omega (arith, e)) ∙ ap (λ k. Sel con k t) (let z : suc i + j ≡ i + suc j = omega arith in z)

-- # By the variant

pub inv-Quantified : (w : Bounds) (ty : Ty) (outer : Bor Bounds) (n m : ℕ) → w ≡ Quantified ty outer → n ≡ suc m → is_inv (slice_get (bounds_view outer.now) m) ≡ is_inv (slice_get (bounds_view w) n)
inv-Quantified w ty outer n m is e =
    sym (ap (λ b. is_inv (slice_get b n)) (ap bounds_view is ∙ bounds_view-Quantified ty outer)
    ∙ (ap (λ k. is_inv (slice_get (record { ty = ty; term = Var 0 } ∷ raised_bounds 1 (bounds_view outer.now)) k)) e ∙ outer_inv (bounds_view outer.now) m))

pub inv-past : (w : Bounds) (con : ℕ) (tys : Bor (List Ty)) (on : Bor Term) (outer : Bor Bounds) (n m : ℕ) → w ≡ Fields con tys on outer → n ≡ length tys.now + m
    → is_inv (slice_get (bounds_view outer.now) m) ≡ is_inv (slice_get (bounds_view w) n)
inv-past w con tys on outer n m is e =
    sym (ap (λ b. is_inv (slice_get b n)) (ap bounds_view is ∙ bounds_view-Fields con tys on outer)
    ∙ (ap (λ k. is_inv (slice_get (under_fields con 0 tys.now (term_view on.now) (bounds_view outer.now)) k)) e ∙ ap is_inv (fields_past con 0 tys.now (term_view on.now) (bounds_view outer.now) m)))

pub inv-within : (w : Bounds) (con : ℕ) (tys : Bor (List Ty)) (on : Bor Term) (outer : Bor Bounds) (n : ℕ) (ty : Ty) → w ≡ Fields con tys on outer → n < length tys.now
    → slice_get tys.now (length tys.now - 1 - n) ≡ Some ty → is_inv_type ty ≡ is_inv (slice_get (bounds_view w) n)
inv-within w con tys on outer n ty is l h =
    let e : (length tys.now - 1 - n) + suc n ≡ length tys.now = omega (arith, l) in
    sym (ap (λ b. is_inv (slice_get b n)) (ap bounds_view is ∙ bounds_view-Fields con tys on outer)
    ∙ ap is_inv (fields_within con 0 tys.now (term_view on.now) (bounds_view outer.now) (length tys.now - 1 - n) n ty e h))

pub term-Quantified : (w : Bounds) (ty : Ty) (outer : Bor Bounds) (n m k j : ℕ) → w ≡ Quantified ty outer → n ≡ suc m → j ≡ k + 1
    → raised j (bound_tm (slice_get (bounds_view outer.now) m)) ≡ raised k (bound_tm (slice_get (bounds_view w) n))
term-Quantified w ty outer n m k j is e at =
    ap (λ i. raised i (bound_tm (slice_get (bounds_view outer.now) m))) at
    ∙ (sym (raised_twice k (bound_tm (slice_get (bounds_view outer.now) m)))
    ∙ sym (ap (λ b. raised k (bound_tm (slice_get b n))) (ap bounds_view is ∙ bounds_view-Quantified ty outer)
    ∙ (ap (λ i. raised k (bound_tm (slice_get (record { ty = ty; term = Var 0 } ∷ raised_bounds 1 (bounds_view outer.now)) i))) e ∙ ap (raised k) (outer_term (bounds_view outer.now) m))))

pub term-past : (w : Bounds) (con : ℕ) (tys : Bor (List Ty)) (on : Bor Term) (outer : Bor Bounds) (n m k : ℕ) → w ≡ Fields con tys on outer → n ≡ length tys.now + m
    → raised k (bound_tm (slice_get (bounds_view outer.now) m)) ≡ raised k (bound_tm (slice_get (bounds_view w) n))
term-past w con tys on outer n m k is e =
    ap (raised k) (sym (ap (λ b. bound_tm (slice_get b n)) (ap bounds_view is ∙ bounds_view-Fields con tys on outer)
    ∙ (ap (λ i. bound_tm (slice_get (under_fields con 0 tys.now (term_view on.now) (bounds_view outer.now)) i)) e ∙ ap bound_tm (fields_past con 0 tys.now (term_view on.now) (bounds_view outer.now) m))))

pub term-within : (w : Bounds) (con : ℕ) (tys : Bor (List Ty)) (on : Bor Term) (outer : Bor Bounds) (n k : ℕ) → w ≡ Fields con tys on outer → n < length tys.now
    → Sel con (length tys.now - 1 - n) (raised k (term_view on.now)) ≡ raised k (bound_tm (slice_get (bounds_view w) n))
term-within w con tys on outer n k is l =
    let j = length tys.now - 1 - n in
    let e : (length tys.now - 1 - n) + suc n ≡ length tys.now = omega (arith, l) in
    let z : 0 + (length tys.now - 1 - n) ≡ length tys.now - 1 - n = omega arith in
    sym (ap (λ b. raised k (bound_tm (slice_get b n))) (ap bounds_view is ∙ bounds_view-Fields con tys on outer)
    ∙ (ap (raised k) (term_within con 0 tys.now (term_view on.now) (bounds_view outer.now) j n e) ∙ ap (λ i. Sel con i (raised k (term_view on.now))) z))
