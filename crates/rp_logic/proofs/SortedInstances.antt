-- An instance by a closed term of the variable's sort is well sorted.
use Rattle.std.proofs.Common.{◌≡◌, ℕ, zero, suc, pred, ◌<◌, List, [], ◌∷◌, ◌++◌, length, Bool, true, false, cond, eqb, ltb, sym, refl, ap, ◌∙◌, subst, slice_get, Some, eqb-true, ltb-true, arith, ltb-false}
use Rattle.std.proofs.lemmas.Bool.{and_parts, and_from}
use Rattle.rp_logic.specs.declared.sort.NewConst.{NewConst}
use Rattle.rp_logic.specs.Terms.{Tm, Tms, Var, Const, Fn, Int, Str, Con, Sel, Plus, no_tm, also_tm, At, Equal, Le, Rel}
use Rattle.rp_logic.specs.Formulas.{Fm, Fms, And, Or, All, Ex, Lit, no_fm, also_fm}
use Rattle.rp_logic.specs.Signatures.{Signature, fields_of}
use Rattle.rp_logic.specs.Sorted.{is_sort, takes, sort_of_con, has_sort, have_sorts, IsNumber, IsSortedAtom, IsSorted, AreSorted}
use Rattle.rp_logic.specs.Instance.{put, put_each, put_atom, instance_at, instances_at}
use Rattle.rp_logic.proofs.SortLaws.{no}

-- # A closed term has its sort under any variables

mutual
  pub weaken : (t : Tm) (S : Signature) (added : List NewConst) (scope : List ℕ) (s : ℕ)
      → has_sort S added [] s t ≡ true → has_sort S added scope s t ≡ true
  weaken (Var n) S added scope s h = no h
  weaken (Const c) S added scope s h = h
  weaken (Fn f ts) S added scope s h =
      let b = and_parts _ _ h in
      and_from _ _ b.0 (weakens ts S added scope (takes (slice_get S.fns f)) b.1)
  weaken (Int z) S added scope s h = h
  weaken (Str y) S added scope s h = h
  weaken (Con c ts) S added scope s h =
      let b = and_parts _ _ h in
      and_from _ _ b.0 (weakens ts S added scope (fields_of (slice_get S.cons c)) b.1)
  weaken (Sel c i t) S added scope s h =
      let b = and_parts _ _ h in
      and_from _ _ b.0 (weaken t S added scope (sort_of_con (slice_get S.cons c)) b.1)
  weaken (Plus t z) S added scope s h =
      let b = and_parts _ _ h in
      and_from _ _ b.0 (weaken t S added scope s b.1)

  pub weakens : (ts : Tms) (S : Signature) (added : List NewConst) (scope : List ℕ) (ss : List ℕ)
      → have_sorts S added [] ss ts ≡ true → have_sorts S added scope ss ts ≡ true
  weakens no_tm S added scope [] h = refl
  weakens no_tm S added scope (s ∷ ss) h = h
  weakens (also_tm t ts) S added scope [] h = h
  weakens (also_tm t ts) S added scope (s ∷ ss) h =
      let b = and_parts _ _ h in
      and_from _ _ (weaken t S added scope s b.0) (weakens ts S added scope ss b.1)

-- # A closed term in place of a variable keeps the sort

at_low : (es xs ys : List ℕ) (n : ℕ) → n < length es
    → slice_get (es ++ xs) n ≡ slice_get (es ++ ys) n
at_low [] xs ys n h = absurd (omega arith)
at_low (x ∷ es) xs ys zero h = refl
at_low (x ∷ es) xs ys (suc n) h = at_low es xs ys n (omega arith)

at_there : (es e : List ℕ) (v : ℕ) → slice_get (es ++ v ∷ e) (length es) ≡ Some v
at_there [] e v = refl
at_there (x ∷ es) e v = at_there es e v

at_high : (es e : List ℕ) (v : ℕ) (n : ℕ) → length es < n
    → slice_get (es ++ e) (pred n) ≡ slice_get (es ++ v ∷ e) n
at_high es e v zero h = absurd (omega arith)
at_high [] e v (suc n) h = refl
at_high (x ∷ es) e v (suc zero) h = absurd (omega arith)
at_high (x ∷ es) e v (suc (suc n)) h = at_high es e v (suc n) (omega arith)

put_var : (n : ℕ) (S : Signature) (added : List NewConst) (es scope : List ℕ) (r s : ℕ) (t : Tm)
    → has_sort S added [] r t ≡ true → is_sort (slice_get (es ++ r ∷ scope) n) s ≡ true
    → (a b : Bool) → ltb n (length es) ≡ a → eqb n (length es) ≡ b
    → has_sort S added (es ++ scope) s (cond a (Var n) (cond b t (Var (pred n)))) ≡ true
put_var n S added es scope r s t g h true b p q =
    subst (λ o. is_sort o s ≡ true) (at_low es (r ∷ scope) scope n (ltb-true n (length es) p)) h
put_var n S added es scope r s t g h false true p q =
    let here : slice_get (es ++ r ∷ scope) n ≡ Some r = ap (λ m. slice_get (es ++ r ∷ scope) m) (eqb-true n (length es) q) ∙ at_there es scope r in
    let one : r ≡ s = eqb-true r s (subst (λ o. is_sort o s ≡ true) here h) in
    weaken t S added (es ++ scope) s (subst (λ x. has_sort S added [] x t ≡ true) one g)
put_var n S added es scope r s t g h false false p q =
    subst (λ o. is_sort o s ≡ true) (sym (at_high es scope r n (grind (arith, ltb-false n (length es) p, q)))) h

mutual
  pub put_sort : (u : Tm) (S : Signature) (added : List NewConst) (es scope : List ℕ) (r s : ℕ) (t : Tm)
      → has_sort S added [] r t ≡ true → has_sort S added (es ++ r ∷ scope) s u ≡ true
      → has_sort S added (es ++ scope) s (put (length es) t u) ≡ true
  put_sort (Var n) S added es scope r s t g h =
      put_var n S added es scope r s t g h (ltb n (length es)) (eqb n (length es)) refl refl
  put_sort (Const c) S added es scope r s t g h = h
  put_sort (Fn f us) S added es scope r s t g h =
      let b = and_parts _ _ h in
      and_from _ _ b.0 (put_sorts us S added es scope r (takes (slice_get S.fns f)) t g b.1)
  put_sort (Int z) S added es scope r s t g h = h
  put_sort (Str y) S added es scope r s t g h = h
  put_sort (Con c us) S added es scope r s t g h =
      let b = and_parts _ _ h in
      and_from _ _ b.0 (put_sorts us S added es scope r (fields_of (slice_get S.cons c)) t g b.1)
  put_sort (Sel c i u) S added es scope r s t g h =
      let d = sort_of_con (slice_get S.cons c) in
      let b = and_parts _ _ h in
      and_from _ _ b.0 (put_sort u S added es scope r d t g b.1)
  put_sort (Plus u z) S added es scope r s t g h =
      let b = and_parts _ _ h in
      and_from _ _ b.0 (put_sort u S added es scope r s t g b.1)

  pub put_sorts : (us : Tms) (S : Signature) (added : List NewConst) (es scope : List ℕ) (r : ℕ) (ss : List ℕ) (t : Tm)
      → has_sort S added [] r t ≡ true → have_sorts S added (es ++ r ∷ scope) ss us ≡ true
      → have_sorts S added (es ++ scope) ss (put_each (length es) t us) ≡ true
  put_sorts no_tm S added es scope r [] t g h = refl
  put_sorts no_tm S added es scope r (s ∷ ss) t g h = h
  put_sorts (also_tm u us) S added es scope r [] t g h = h
  put_sorts (also_tm u us) S added es scope r (s ∷ ss) t g h =
      let b = and_parts _ _ h in
      and_from _ _ (put_sort u S added es scope r s t g b.0) (put_sorts us S added es scope r ss t g b.1)

put_number : (u : Tm) (S : Signature) (added : List NewConst) (es scope : List ℕ) (r : ℕ) (t : Tm)
    → has_sort S added [] r t ≡ true → IsNumber S added (es ++ r ∷ scope) u
    → IsNumber S added (es ++ scope) (put (length es) t u)
put_number u S added es scope r t g h = (h.0, h.1, put_sort u S added es scope r h.0 t g h.2)

atom_sorted : (a : At) (S : Signature) (added : List NewConst) (es scope : List ℕ) (r : ℕ) (t : Tm)
    → has_sort S added [] r t ≡ true → IsSortedAtom S added (es ++ r ∷ scope) a
    → IsSortedAtom S added (es ++ scope) (put_atom (length es) t a)
atom_sorted (Equal a b) S added es scope r t g h =
    (h.0, put_sort a S added es scope r h.0 t g h.1, put_sort b S added es scope r h.0 t g h.2)
atom_sorted (Le a b k) S added es scope r t g h =
    (put_number a S added es scope r t g h.0, put_number b S added es scope r t g h.1)
atom_sorted (Rel q ts) S added es scope r t g h =
    (h.0, h.1, put_sorts ts S added es scope r h.0 t g h.2)

mutual
  pub instance_sorted : (f : Fm) (S : Signature) (added : List NewConst) (es scope : List ℕ) (r : ℕ) (t : Tm)
      → has_sort S added [] r t ≡ true → IsSorted S added (es ++ r ∷ scope) f
      → IsSorted S added (es ++ scope) (instance_at (length es) t f)
  instance_sorted (And fs) S added es scope r t g h = instances_sorted fs S added es scope r t g h
  instance_sorted (Or fs) S added es scope r t g h = instances_sorted fs S added es scope r t g h
  instance_sorted (All s f) S added es scope r t g h =
      (h.0, instance_sorted f S added (s ∷ es) scope r t g h.1)
  instance_sorted (Ex s f) S added es scope r t g h =
      (h.0, instance_sorted f S added (s ∷ es) scope r t g h.1)
  instance_sorted (Lit b a) S added es scope r t g h = atom_sorted a S added es scope r t g h

  pub instances_sorted : (fs : Fms) (S : Signature) (added : List NewConst) (es scope : List ℕ) (r : ℕ) (t : Tm)
      → has_sort S added [] r t ≡ true → AreSorted S added (es ++ r ∷ scope) fs
      → AreSorted S added (es ++ scope) (instances_at (length es) t fs)
  instances_sorted no_fm S added es scope r t g h = tt
  instances_sorted (also_fm f fs) S added es scope r t g h =
      (instance_sorted f S added es scope r t g h.0, instances_sorted fs S added es scope r t g h.1)
