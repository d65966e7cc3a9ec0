-- A closed term in place of a variable: what it means.
use Rattle.std.proofs.Common.{◌≡◌, ℕ, zero, suc, pred, ◌<◌, List, [], ◌∷◌, ◌++◌, length, get_or, Bool, true, false, cond, ◌+ℤ◌, ltb, eqb, ◌↔◌, sym, refl, ap, ap₂, ◌∙◌, true≢false, arith, slice_get, ltb-true, ltb-false, eqb-true}
use Rattle.std.proofs.lemmas.Bool.{and_parts}
use Rattle.rp_logic.specs.Terms.{Tm, Tms, Var, Const, Fn, Int, Str, Con, Sel, Plus, no_tm, also_tm, At, Equal, Le, Rel, is_closed, are_closed}
use Rattle.rp_logic.specs.Formulas.{Fm, Fms, And, Or, All, Ex, Lit, no_fm, also_fm}
use Rattle.rp_logic.specs.Elements.{Elem, Whole, Made, also_elem, junk}
use Rattle.rp_logic.specs.Structures.{select, number_of, apply}
use Rattle.rp_logic.specs.Truth.{Meaning, Holds, AllHold, NoneHolds, atom_truth, value, values}
use Rattle.rp_logic.specs.Instance.{put, put_each, put_atom, instance_at, instances_at}

get_low : (es xs ys : List Elem) (n : ℕ) → n < length es → get_or (es ++ xs) n junk ≡ get_or (es ++ ys) n junk
get_low [] xs ys n h = absurd (omega arith)
get_low (x ∷ es) xs ys zero h = refl
get_low (x ∷ es) xs ys (suc n) h = get_low es xs ys n (omega arith)

get_there : (es e : List Elem) (v : Elem) → get_or (es ++ v ∷ e) (length es) junk ≡ v
get_there [] e v = refl
get_there (x ∷ es) e v = get_there es e v

get_high : (es e : List Elem) (v : Elem) (n : ℕ) → length es < n → get_or (es ++ e) (pred n) junk ≡ get_or (es ++ v ∷ e) n junk
get_high es e v zero h = absurd (omega arith)
get_high [] e v (suc n) h = refl
get_high (x ∷ es) e v (suc zero) h = absurd (omega arith)
get_high (x ∷ es) e v (suc (suc n)) h = get_high es e v (suc n) (omega arith)

-- a closed term means the same everywhere
mutual
  pub closed_value : (t : Tm) (M : Meaning) (e d : List Elem) → is_closed t ≡ true → value M e t ≡ value M d t
  closed_value (Var n) M e d h = absurd (true≢false (sym h))
  closed_value (Const c) M e d h = refl
  closed_value (Fn f ts) M e d h = ap (apply (slice_get M.structure.fns f)) (closed_values ts M e d h)
  closed_value (Int z) M e d h = refl
  closed_value (Str b) M e d h = refl
  closed_value (Con c ts) M e d h = ap (Made c) (closed_values ts M e d h)
  closed_value (Sel c i t) M e d h = ap (select M.sig M.structure c i) (closed_value t M e d h)
  closed_value (Plus t k) M e d h = ap (λ x. Whole (number_of x +ℤ k)) (closed_value t M e d h)

  pub closed_values : (ts : Tms) (M : Meaning) (e d : List Elem) → are_closed ts ≡ true → values M e ts ≡ values M d ts
  closed_values no_tm M e d h = refl
  closed_values (also_tm t ts) M e d h =
      let b = and_parts (is_closed t) (are_closed ts) h in
      ap₂ also_elem (closed_value t M e d b.0) (closed_values ts M e d b.1)

put_var : (n : ℕ) (M : Meaning) (es e : List Elem) (t : Tm) → is_closed t ≡ true → (a b : Bool) → ltb n (length es) ≡ a → eqb n (length es) ≡ b
    → value M (es ++ e) (cond a (Var n) (cond b t (Var (pred n)))) ≡ get_or (es ++ value M [] t ∷ e) n junk
put_var n M es e t g true b p q = get_low es e (value M [] t ∷ e) n (ltb-true n (length es) p)
put_var n M es e t g false true p q =
    closed_value t M (es ++ e) [] g ∙ sym (get_there es e (value M [] t)) ∙ ap (λ m. get_or (es ++ value M [] t ∷ e) m junk) (sym (eqb-true n (length es) q))
put_var n M es e t g false false p q = get_high es e (value M [] t) n (grind (arith, ltb-false n (length es) p, q))

mutual
  pub put_value : (u : Tm) (M : Meaning) (es e : List Elem) (t : Tm) → is_closed t ≡ true
      → value M (es ++ e) (put (length es) t u) ≡ value M (es ++ value M [] t ∷ e) u
  put_value (Var n) M es e t g = put_var n M es e t g (ltb n (length es)) (eqb n (length es)) refl refl
  put_value (Const c) M es e t g = refl
  put_value (Fn f us) M es e t g = ap (apply (slice_get M.structure.fns f)) (put_values us M es e t g)
  put_value (Int z) M es e t g = refl
  put_value (Str b) M es e t g = refl
  put_value (Con c us) M es e t g = ap (Made c) (put_values us M es e t g)
  put_value (Sel c i u) M es e t g = ap (select M.sig M.structure c i) (put_value u M es e t g)
  put_value (Plus u k) M es e t g = ap (λ x. Whole (number_of x +ℤ k)) (put_value u M es e t g)

  pub put_values : (us : Tms) (M : Meaning) (es e : List Elem) (t : Tm) → is_closed t ≡ true
      → values M (es ++ e) (put_each (length es) t us) ≡ values M (es ++ value M [] t ∷ e) us
  put_values no_tm M es e t g = refl
  put_values (also_tm u us) M es e t g = ap₂ also_elem (put_value u M es e t g) (put_values us M es e t g)

pub put_truth : (a : At) (M : Meaning) (es e : List Elem) (t : Tm) → is_closed t ≡ true
    → atom_truth M (es ++ e) (put_atom (length es) t a) ≡ atom_truth M (es ++ value M [] t ∷ e) a
put_truth (Equal a b) M es e t g = rw (put_value a M es e t g) rw (put_value b M es e t g) refl
put_truth (Le a b k) M es e t g = rw (put_value a M es e t g) rw (put_value b M es e t g) refl
put_truth (Rel r ts) M es e t g = rw (put_values ts M es e t g) refl

mutual
  -- an instance is true exactly where the body is true with the term's value
  pub instance_law : (f : Fm) (M : Meaning) (es e : List Elem) (t : Tm) → is_closed t ≡ true
      → Holds M (es ++ e) (instance_at (length es) t f) ↔ Holds M (es ++ value M [] t ∷ e) f
  instance_law (And fs) M es e t g = (instances_law fs M es e t g).0
  instance_law (Or fs) M es e t g =
      let b = (instances_law fs M es e t g).1 in ((λ h k. h (b.1 k)), λ h k. h (b.0 k))
  instance_law (All s f) M es e t g = (
    (λ h v i. (instance_law f M (v ∷ es) e t g).0 (h v i)),
    λ h v i. (instance_law f M (v ∷ es) e t g).1 (h v i),
  )
  instance_law (Ex s f) M es e t g = (
    (λ h k. h (λ v i j. k v i ((instance_law f M (v ∷ es) e t g).0 j))),
    λ h k. h (λ v i j. k v i ((instance_law f M (v ∷ es) e t g).1 j)),
  )
  instance_law (Lit b a) M es e t g = ((λ h. sym (put_truth a M es e t g) ∙ h), λ h. put_truth a M es e t g ∙ h)

  pub instances_law : (fs : Fms) (M : Meaning) (es e : List Elem) (t : Tm) → is_closed t ≡ true
      → (AllHold M (es ++ e) (instances_at (length es) t fs) ↔ AllHold M (es ++ value M [] t ∷ e) fs)
      × (NoneHolds M (es ++ e) (instances_at (length es) t fs) ↔ NoneHolds M (es ++ value M [] t ∷ e) fs)
  instances_law no_fm M es e t g = (((λ h. tt), λ h. tt), ((λ h. tt), λ h. tt))
  instances_law (also_fm f fs) M es e t g =
      let b = instance_law f M es e t g in
      let c = instances_law fs M es e t g in (
        ((λ h. (b.0 h.0, c.0.0 h.1)), λ h. (b.1 h.0, c.0.1 h.1)),
        ((λ h. ((λ k. h.0 (b.1 k)), c.1.0 h.1)), λ h. ((λ k. h.0 (b.0 k)), c.1.1 h.1)),
      )
