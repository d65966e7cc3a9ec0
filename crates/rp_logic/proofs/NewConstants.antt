-- A constant that stands nowhere may mean anything.
use Rattle.std.proofs.Common.{◌≡◌, ℕ, List, [], ◌∷◌, Bool, true, false, not, cond, ◌+ℤ◌, eqb, ◌↔◌, sym, refl, ap, ap₂, ◌∙◌, true≢false, slice_get}
use Rattle.std.proofs.lemmas.Bool.{and_parts}
use Rattle.rp_logic.specs.Terms.{Tm, Tms, Var, Const, Fn, Int, Str, Con, Sel, Plus, no_tm, also_tm, At, Equal, Le, Rel}
use Rattle.rp_logic.specs.Formulas.{Fm, Fms, And, Or, All, Ex, Lit, no_fm, also_fm}
use Rattle.rp_logic.specs.Signatures.{Signature}
use Rattle.rp_logic.specs.Elements.{Elem, Whole, Made, also_elem}
use Rattle.rp_logic.specs.Structures.{Structure, apply, number_of, select}
use Rattle.rp_logic.specs.Truth.{Meaning, meaning_with, value, values, atom_truth, Holds, AllHold, NoneHolds, AllTrue}
use Rattle.rp_logic.specs.Constants.{lacks, all_lack, atom_lacks, formula_lacks, formulas_lack, each_lacks, with_value}

other : (b : Bool) (x y : Elem) → not b ≡ true → cond b x y ≡ y
other true x y h = absurd (true≢false (sym h))
other false x y h = refl

module _ (S : Signature) (M : Structure) (k : ℕ → Elem) (c : ℕ) (v : Elem) where
  abbrev new_meaning : Meaning
  new_meaning = meaning_with S M (with_value k c v)

  abbrev old_meaning : Meaning
  old_meaning = meaning_with S M k

  mutual
    pub value_lacks : (t : Tm) (e : List Elem) → lacks c t ≡ true
        → value new_meaning e t ≡ value old_meaning e t
    value_lacks (Var n) e h = refl
    value_lacks (Const d) e h = other (eqb c d) v (k d) h
    value_lacks (Fn f ts) e h = ap (apply (slice_get M.fns f)) (values_lack ts e h)
    value_lacks (Int z) e h = refl
    value_lacks (Str b) e h = refl
    value_lacks (Con d ts) e h = ap (Made d) (values_lack ts e h)
    value_lacks (Sel d i t) e h = ap (select S M d i) (value_lacks t e h)
    value_lacks (Plus t z) e h = ap (λ x. Whole (number_of x +ℤ z)) (value_lacks t e h)

    pub values_lack : (ts : Tms) (e : List Elem) → all_lack c ts ≡ true
        → values new_meaning e ts ≡ values old_meaning e ts
    values_lack no_tm e h = refl
    values_lack (also_tm t ts) e h =
        let b = and_parts _ _ h in
        ap₂ also_elem (value_lacks t e b.0) (values_lack ts e b.1)

  pub atom_truth_lacks : (a : At) (e : List Elem) → atom_lacks c a ≡ true
      → atom_truth new_meaning e a ≡ atom_truth old_meaning e a
  atom_truth_lacks (Equal a b) e h =
      let d = and_parts _ _ h in
      rw (value_lacks a e d.0) rw (value_lacks b e d.1) refl
  atom_truth_lacks (Le a b z) e h =
      let d = and_parts _ _ h in
      rw (value_lacks a e d.0) rw (value_lacks b e d.1) refl
  atom_truth_lacks (Rel r ts) e h = rw (values_lack ts e h) refl

  mutual
    pub truth_lacks : (f : Fm) (e : List Elem) → formula_lacks c f ≡ true
        → Holds new_meaning e f ↔ Holds old_meaning e f
    truth_lacks (And fs) e h = (truths_lack fs e h).0
    truth_lacks (Or fs) e h =
        let b = (truths_lack fs e h).1 in
        ((λ t n. t (b.1 n)), λ t n. t (b.0 n))
    truth_lacks (All s f) e h =
        ((λ t x i. (truth_lacks f (x ∷ e) h).0 (t x i)), λ t x i. (truth_lacks f (x ∷ e) h).1 (t x i))
    truth_lacks (Ex s f) e h = (
      (λ t n. t (λ x i j. n x i ((truth_lacks f (x ∷ e) h).0 j))),
      λ t n. t (λ x i j. n x i ((truth_lacks f (x ∷ e) h).1 j)),
    )
    truth_lacks (Lit b a) e h =
        ((λ t. sym (atom_truth_lacks a e h) ∙ t), λ t. atom_truth_lacks a e h ∙ t)

    pub truths_lack : (fs : Fms) (e : List Elem) → formulas_lack c fs ≡ true
        → (AllHold new_meaning e fs ↔ AllHold old_meaning e fs) × (NoneHolds new_meaning e fs ↔ NoneHolds old_meaning e fs)
    truths_lack no_fm e h = (((λ t. tt), λ t. tt), ((λ t. tt), λ t. tt))
    truths_lack (also_fm f fs) e h =
        let d = and_parts _ _ h in
        let a = truth_lacks f e d.0 in
        let b = truths_lack fs e d.1 in (
          ((λ t. (a.0 t.0, b.0.0 t.1)), λ t. (a.1 t.0, b.0.1 t.1)),
          ((λ t. ((λ x. t.0 (a.1 x)), b.1.0 t.1)), λ t. ((λ x. t.0 (a.0 x)), b.1.1 t.1)),
        )

  pub branch_holds : (fs : List Fm) → each_lacks c fs ≡ true → AllTrue old_meaning fs
      → AllTrue new_meaning fs
  branch_holds [] h t = tt
  branch_holds (f ∷ fs) h t =
      let d = and_parts _ _ h in
      ((truth_lacks f [] d.0).1 t.0, branch_holds fs d.1 t.1)
