-- PlacesAreTold: the formulas are true exactly where the condition holds.
use Rattle.std.proofs.Common.{◌≡◌, ℕ, zero, suc, ◌+◌, List, [], ◌∷◌, ◌++◌, length, if◌then◌else◌, slice_get, Bool, true, false, ◌↔◌, sym, refl, ap, ◌∙◌, subst, true≢false, arith}
use Rattle.std.proofs.lemmas.Option.{none-some, same_Some}
use Rattle.rp_value.specs.declared.tables.Ty.{Ty}
use Rattle.rp_value.specs.declared.tables.Ty.TheVariants as ty
use Rattle.rp_lang.specs.declared.op.OpDecl.{OpDecl}
use Rattle.rp_lang.specs.Programs.{Prog, Proc}
use Rattle.crdt_defs.specs.Fitting.{names_ids, fields_of}
use Rattle.event_machine.specs.WellFormed.{At}
use Rattle.rp_logic.specs.Terms.{Tm, Var, Sel}
use Rattle.rp_logic.specs.Formulas.{Fm, Fms, All, no_fm, also_fm}
use Rattle.rp_logic.specs.Elements.{Elem, Elems, Made}
use Rattle.rp_logic.specs.Structures.{nth_elem}
use Rattle.rp_logic.specs.Truth.{Meaning, Holds, AllHold, AllTrue, value}
use Rattle.reshape.proofs.ReshapeLaws.{selected-is}
use Rattle.rp_symbols.specs.Numbers.{call_sort, inv_sort, op_fn, info_fn, op_con, info_con, outcome_con}
use Rattle.crdt_enc.specs.Builders.{over_two, applied}
use Rattle.rp_symbols.specs.Numbers.{id_rel, old_result_fn}
use Rattle.crdt_enc.specs.FitsParts.{Is, value_at}
use Rattle.hist_struct.specs.Defaults.{most_parts}
use Rattle.hist_struct.specs.Conditions.{Rel, Fields, StandsIn, StandsAt, cons_of, PlacesAreTold}
use Rattle.rp_symbols.specs.Signatures.{result_list}
use Rattle.hist_struct.specs.Axioms.{implied, is_built, in_fields, of_con, in_cons, places_in, places, each_of, places_are_told}
use Rattle.hist_struct.proofs.Implied.{from-all, implied-is, all-both}
use Rattle.hist_struct.proofs.ResultExact.{built-exact}

module _ (p : Prog) (M : Meaning) (sort kind : ℕ) where
  -- where these are true, what stands is so by its relation
  abbrev pub Says : Fms → (Elem → ℕ → Elem → Type 0) → Type 0
  Says given P = (v : Elem) → Is M sort v → AllHold M (v ∷ []) given → (n : ℕ) (y : Elem) → P v n y → Rel M (id_rel p n kind) v y

  -- what a list of formulas for a place says
  abbrev pub Reads : (Fms → Ty → Tm → List Fm) → (Ty → Elem → ℕ → Elem → Type 0) → Type 0
  Reads rec Rec = (given : Fms) (ty : Ty) (t : Tm) → AllTrue M (rec given ty t) ↔ Says given (λ v. Rec ty (value M (v ∷ []) t))

  module _ (rec : Fms → Ty → Tm → List Fm) (Rec : Ty → Elem → ℕ → Elem → Type 0) (is : Reads rec Rec) where
    fields-later : (given : Fms) (con i : ℕ) (ty : Ty) (tys : List Ty) (t : Tm) → Says given (λ v. Rec ty (value M (v ∷ []) (Sel con i t)))
        → ((k : ℕ) (ty : Ty) → At tys k ty → Says given (λ v. Rec ty (value M (v ∷ []) (Sel con (suc i + k) t))))
        → (k : ℕ) (ty' : Ty) → At (ty ∷ tys) k ty' → Says given (λ v. Rec ty' (value M (v ∷ []) (Sel con (i + k) t)))
    fields-later given con i ty tys t o r zero ty' a =
        subst (λ j. Says given (λ v. Rec ty' (value M (v ∷ []) (Sel con j t)))) (let e : i ≡ i + 0 = omega arith in e)
        (subst (λ z. Says given (λ v. Rec z (value M (v ∷ []) (Sel con i t)))) (same_Some ty ty' a) o)
    fields-later given con i ty tys t o r (suc k) ty' a =
        subst (λ j. Says given (λ v. Rec ty' (value M (v ∷ []) (Sel con j t)))) (let e : suc i + k ≡ i + suc k = omega arith in e) (r k ty' a)

    fields-is : (given : Fms) (con i : ℕ) (tys : List Ty) (t : Tm)
        → AllTrue M (in_fields rec given con i tys t) ↔ ((k : ℕ) (ty : Ty) → At tys k ty → Says given (λ v. Rec ty (value M (v ∷ []) (Sel con (i + k) t))))
    fields-is given con i [] t = ((λ h k ty a. absurd (none-some ty a)), λ h. tt)
    fields-is given con i (ty ∷ tys) t =
        let b = all-both (rec given ty (Sel con i t)) (in_fields rec given con (suc i) tys t) M in
        let o = is given ty (Sel con i t) in
        let r = fields-is given con (suc i) tys t in (
          (λ h. fields-later given con i ty tys t (o.0 (b.0 h).0) (r.0 (b.0 h).1)),
          λ h. b.1 (
            o.1 (subst (λ j. Says given (λ v. Rec ty (value M (v ∷ []) (Sel con j t)))) (let e : i + 0 ≡ i = omega arith in e) (h 0 ty refl)),
            r.1 (λ k ty' a. subst (λ j. Says given (λ v. Rec ty' (value M (v ∷ []) (Sel con j t)))) (let e : i + suc k ≡ suc i + k = omega arith in e) (h (suc k) ty' a)),
          ),
        )

    part-is : (con i : ℕ) (t : Tm) (xs : Elems) (v : Elem) → value M (v ∷ []) t ≡ Made con xs → value M (v ∷ []) (Sel con (0 + i) t) ≡ nth_elem xs i
    part-is con i t xs v e = selected-is M (v ∷ []) con (0 + i) t xs (nth_elem xs i) e (ap (nth_elem xs) (let q : 0 + i ≡ i = omega arith in q))

    pub con-is : (given : Fms) (con : ℕ) (tys : List Ty) (t : Tm) → AllTrue M (of_con rec given con tys t) ↔ Says given (λ v. Fields Rec con tys (value M (v ∷ []) t))
    con-is given con tys t =
        let f = fields-is (also_fm (is_built con (length tys) t) given) con 0 tys t in (
          (λ h v iv gv n y s.
              f.0 h s.3 s.4 s.5 v iv ((built-exact M (v ∷ []) con (length tys) t).1 (s.0, s.1, s.2), gv) n y (subst (λ z. Rec s.4 z n y) (sym (part-is con s.3 t s.0 v s.1)) s.6)),
          λ k. f.1 (λ i ty a v iv gv n y r.
              let b = (built-exact M (v ∷ []) con (length tys) t).0 gv.0 in
              k v iv gv.1 n y (b.0, b.1, b.2, i, ty, a, subst (λ z. Rec ty z n y) (part-is con i t b.0 v b.1) r)),
        )

    Con : Fms → ℕ → Tm → Type 0
    Con given con t = Says given (λ v. Fields Rec con (fields_of (slice_get p.cons.cons con)) (value M (v ∷ []) t))

    cons-later : (given : Fms) (con : ℕ) (cons : List ℕ) (t : Tm) → Says given (λ v. Fields Rec con (fields_of (slice_get p.cons.cons con)) (value M (v ∷ []) t))
        → ((k con : ℕ) → At cons k con → Says given (λ v. Fields Rec con (fields_of (slice_get p.cons.cons con)) (value M (v ∷ []) t)))
        → (k con' : ℕ) → At (con ∷ cons) k con' → Says given (λ v. Fields Rec con' (fields_of (slice_get p.cons.cons con')) (value M (v ∷ []) t))
    cons-later given con cons t o r zero con' a = subst (λ z. Says given (λ v. Fields Rec z (fields_of (slice_get p.cons.cons z)) (value M (v ∷ []) t))) (same_Some con con' a) o
    cons-later given con cons t o r (suc k) con' a = r k con' a

    cons-is : (given : Fms) (cons : List ℕ) (t : Tm)
        → AllTrue M (in_cons p rec given cons t) ↔ ((k con : ℕ) → At cons k con → Says given (λ v. Fields Rec con (fields_of (slice_get p.cons.cons con)) (value M (v ∷ []) t)))
    cons-is given [] t = ((λ h k con a. absurd (none-some con a)), λ h. tt)
    cons-is given (con ∷ cons) t =
        let b = all-both (of_con rec given con (fields_of (slice_get p.cons.cons con)) t) (in_cons p rec given cons t) M in
        let o = con-is given con (fields_of (slice_get p.cons.cons con)) t in
        let r = cons-is given cons t in (
          (λ h. cons-later given con cons t (o.0 (b.0 h).0) (r.0 (b.0 h).1)),
          λ h. b.1 (o.1 (h 0 con refl), r.1 (λ k c a. h (suc k) c a)),
        )

    atom-is : (given : Fms) (k : ℕ) (t : Tm)
        → AllTrue M (places_in p sort kind rec given (ty.Atom k) t) ↔ Says given (λ v. StandsIn p Rec (ty.Atom k) (value M (v ∷ []) t))
    atom-is given k t = go (names_ids (slice_get p.types.atoms k)) refl
      where
        f : Fm
        f = over_two true (id_rel p k kind) (Var 0) t

        go : (b : Bool) → names_ids (slice_get p.types.atoms k) ≡ b
            → AllTrue M (if b then All sort (implied given (over_two true (id_rel p k kind) (Var 0) t)) ∷ [] else []) ↔ Says given (λ v. StandsIn p Rec (ty.Atom k) (value M (v ∷ []) t))
        go true e = (
          (λ h v iv gv n y s. subst (λ y. Rel M (id_rel p n kind) v y) s.2 (subst (λ n. Rel M (id_rel p n kind) v (value M (v ∷ []) t)) s.1
              ((from-all given M (v ∷ []) (Holds M (v ∷ []) f)).0 ((implied-is given f M (v ∷ [])).0 (h.0 v iv)) gv))),
          λ k'. ((λ v iv. (implied-is given f M (v ∷ [])).1 ((from-all given M (v ∷ []) (Holds M (v ∷ []) f)).1 (λ gv. k' v iv gv k (value M (v ∷ []) t) (e, refl, refl)))), tt),
        )
        go false e = ((λ h v iv gv n y s. absurd (true≢false (sym s.0 ∙ e))), λ h. tt)

    pub in-is : Reads (places_in p sort kind rec) (StandsIn p Rec)
    in-is given (ty.Atom k) t = atom-is given k t
    in-is given (ty.Datatype d) t =
        let r = cons-is given (cons_of (slice_get p.types.datatypes d)) t in
        ((λ h v iv gv n y s. r.0 h s.0 s.1 s.2 v iv gv n y s.3), λ k. r.1 (λ j con a v iv gv n y f. k v iv gv n y (j, con, a, f)))
    in-is given ty.Int t = ((λ h v iv gv n y s. absurd s), λ h. tt)
    in-is given ty.Str t = ((λ h v iv gv n y s. absurd s), λ h. tt)
    in-is given ty.Call t = ((λ h v iv gv n y s. absurd s), λ h. tt)
    in-is given ty.Inv t = ((λ h v iv gv n y s. absurd s), λ h. tt)
    in-is given ty.Operation t = ((λ h v iv gv n y s. absurd s), λ h. tt)
    in-is given ty.Info t = ((λ h v iv gv n y s. absurd s), λ h. tt)
    in-is given ty.Outcome t = ((λ h v iv gv n y s. absurd s), λ h. tt)

  pub places-is : (fuel : ℕ) → Reads (places p sort kind fuel) (StandsAt p fuel)
  places-is zero given ty t = in-is (λ given ty t. []) (λ ty e n y. ⊥) (λ given ty t. ((λ h v iv gv n y s. absurd s), λ h. tt)) given ty t
  places-is (suc fuel) given ty t = in-is (places p sort kind fuel) (StandsAt p fuel) (places-is fuel) given ty t

-- # One list for each

each-of-later : {A : Type 0} (P : ℕ → A → Type 0) (n : ℕ) (a : A) (as_ : List A) → P n a → ((k : ℕ) (b : A) → At as_ k b → P (suc n + k) b) → (k : ℕ) (b : A) → At (a ∷ as_) k b → P (n + k) b
each-of-later P n a as_ o r zero b e = subst (λ m. P m b) (let q : n ≡ n + 0 = omega arith in q) (subst (P n) (same_Some a b e) o)
each-of-later P n a as_ o r (suc k) b e = subst (λ m. P m b) (let q : suc n + k ≡ n + suc k = omega arith in q) (r k b e)

each-of-is : {A : Type 0} (M : Meaning) (f : ℕ → A → List Fm) (P : ℕ → A → Type 0) → ((n : ℕ) (a : A) → AllTrue M (f n a) ↔ P n a) → (n : ℕ) (as_ : List A)
    → AllTrue M (each_of f n as_) ↔ ((k : ℕ) (a : A) → At as_ k a → P (n + k) a)
each-of-is M f P is n [] = ((λ h k a e. absurd (none-some a e)), λ h. tt)
each-of-is M f P is n (a ∷ as_) =
    let b = all-both (f n a) (each_of f (suc n) as_) M in
    let o = is n a in
    let r = each-of-is M f P is (suc n) as_ in (
      (λ h. each-of-later P n a as_ (o.0 (b.0 h).0) (r.0 (b.0 h).1)),
      λ h. b.1 (
        o.1 (subst (λ m. P m a) (let q : n + 0 ≡ n = omega arith in q) (h 0 a refl)),
        r.1 (λ k b e. subst (λ m. P m b) (let q : n + suc k ≡ suc n + k = omega arith in q) (h (suc k) b e)),
      ),
    )

from-none : {A : Type 0} (M : Meaning) (f : ℕ → A → List Fm) (P : ℕ → A → Type 0) → ((n : ℕ) (a : A) → AllTrue M (f n a) ↔ P n a) → (as_ : List A)
    → AllTrue M (each_of f 0 as_) ↔ ((k : ℕ) (a : A) → At as_ k a → P k a)
from-none M f P is as_ =
    let r = each-of-is M f P is 0 as_ in (
      (λ h k a e. subst (λ m. P m a) (let q : 0 + k ≡ k = omega arith in q) (r.0 h k a e)),
      λ h. r.1 (λ k a e. subst (λ m. P m a) (let q : k ≡ 0 + k = omega arith in q) (h k a e)),
    )

-- the places of one constructor, where nothing else is given
root-is : (p : Prog) (M : Meaning) (sort kind con f : ℕ) (tys : List Ty)
    → AllTrue M (of_con (places p sort kind most_parts) no_fm con tys (applied f (Var 0)))
    ↔ ((v : Elem) → Is M sort v → (n : ℕ) (y : Elem) → Fields (StandsAt p most_parts) con tys (value_at M f v) n y → Rel M (id_rel p n kind) v y)
root-is p M sort kind con f tys =
    let r = con-is p M sort kind (places p sort kind most_parts) (StandsAt p most_parts) (places-is p M sort kind most_parts) no_fm con tys (applied f (Var 0)) in
    ((λ h v iv n y s. r.0 h v iv tt n y s), λ k. r.1 (λ v iv gv n y s. k v iv n y s))

pub places_are_told-exact : (p : Prog) (M : Meaning) → AllTrue M (places_are_told p) ↔ PlacesAreTold p M
places_are_told-exact p M =
    let o = from-none M (λ o (decl : OpDecl). of_con (places p call_sort 0 most_parts) no_fm (op_con p o) decl.args (applied op_fn (Var 0))) _ (λ o (decl : OpDecl). root-is p M call_sort 0 (op_con p o) op_fn decl.args) p.ops in
    let i = from-none M (λ k (q : Proc). of_con (places p inv_sort 1 most_parts) no_fm (info_con p k) q.params (applied info_fn (Var 0))) _ (λ k (q : Proc). root-is p M inv_sort 1 (info_con p k) info_fn q.params) p.procs in
    let r = from-none M (λ k (q : Proc). of_con (places p inv_sort 2 most_parts) no_fm (outcome_con p k) (result_list q.result) (applied old_result_fn (Var 0))) _ (λ k (q : Proc). root-is p M inv_sort 2 (outcome_con p k) old_result_fn (result_list q.result)) p.procs in
    let b = all-both (each_of (λ o (decl : OpDecl). of_con (places p call_sort 0 most_parts) no_fm (op_con p o) decl.args (applied op_fn (Var 0))) 0 p.ops)
    (each_of (λ k (q : Proc). of_con (places p inv_sort 1 most_parts) no_fm (info_con p k) q.params (applied info_fn (Var 0))) 0 p.procs
    ++ each_of (λ k (q : Proc). of_con (places p inv_sort 2 most_parts) no_fm (outcome_con p k) (result_list q.result) (applied old_result_fn (Var 0))) 0 p.procs) M in
    let c = all-both (each_of (λ k (q : Proc). of_con (places p inv_sort 1 most_parts) no_fm (info_con p k) q.params (applied info_fn (Var 0))) 0 p.procs)
    (each_of (λ k (q : Proc). of_con (places p inv_sort 2 most_parts) no_fm (outcome_con p k) (result_list q.result) (applied old_result_fn (Var 0))) 0 p.procs) M in (
      (λ h. record { ops = o.0 (b.0 h).0; infos = i.0 (c.0 (b.0 h).1).0; results = r.0 (c.0 (b.0 h).1).1 }),
      λ a. b.1 (o.1 a.ops, c.1 (i.1 a.infos, r.1 a.results)),
    )
