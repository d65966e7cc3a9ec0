-- A pass over formulas keeps what they mean.
use Rattle.std.proofs.Common.{◌≡◌, ℕ, zero, suc, ◌+◌, List, ◌∷◌, true, false, Some, ◌↔◌, sym, refl, ap, ap₂, ◌∙◌, subst, inl, inr, ◌⊎◌, arith}
use Rattle.rp_logic.specs.declared.sort.NewConst.{NewConst}
use Rattle.rp_logic.specs.Terms.{Tm, Tms, Var, Const, Fn, Int, Str, Con, Sel, Plus, no_tm, also_tm, Equal, Le, Rel}
use Rattle.rp_logic.specs.Formulas.{Fm, Fms, And, Or, All, Ex, Lit, no_fm, also_fm}
use Rattle.rp_logic.specs.Elements.{Elem}
use Rattle.rp_logic.specs.Signatures.{Signature}
use Rattle.rp_logic.specs.Sorted.{has_sort, IsSorted, AreSorted}
use Rattle.rp_logic.specs.Structures.{Structure, Fits, is_elem}
use Rattle.rp_logic.specs.Truth.{meaning_with, AllHold, NoneHolds}
use Rattle.rp_logic.specs.Dual.{dual}
use Rattle.rp_logic.specs.Filling.{raised, raised_each, filled_in, swapped, AreIn, MeansSame}
use Rattle.rp_logic.proofs.Options.{and_then, mapped}
use Rattle.rp_logic.proofs.DualLaws.{dual_law}
use Rattle.rp_logic.proofs.KeptSorts.{raised-sort}
use Rattle.reshape.specs.Determining.{found}
use Rattle.reshape.specs.Eliminating.{lowered, lowered_each, told, told_by, told_among, eliminated}
use Rattle.reshape.proofs.ReshapeLaws.{either-found, Among, eliminates, alls-swap}

-- # Meaning the same is kept by all forms

pub same-itself : (S : Signature) (added : List NewConst) (scope : List ℕ) (f : Fm) → MeansSame S added scope f f
same-itself S added scope f M consts fits vars is = ((λ h. h), λ h. h)

pub same-both : (S : Signature) (added : List NewConst) (scope : List ℕ) (f g h : Fm) → MeansSame S added scope f g → MeansSame S added scope g h → MeansSame S added scope f h
same-both S added scope f g h a b M consts fits vars is =
    let x = a M consts fits vars is in let y = b M consts fits vars is in ((λ k. y.0 (x.0 k)), λ k. x.1 (y.1 k))

in-under : (S : Signature) (M : Structure) (scope : List ℕ) (vars : List Elem) (s : ℕ) (v : Elem) → AreIn S M scope vars → is_elem S M.sizes s v ≡ true → AreIn S M (s ∷ scope) (v ∷ vars)
in-under S M scope vars s v is i zero r e = let same : s ≡ r = cc in subst (λ r. is_elem S M.sizes r v ≡ true) same i
in-under S M scope vars s v is i (suc n) r e = is n r e

pub same-all : (S : Signature) (added : List NewConst) (scope : List ℕ) (s : ℕ) (g f : Fm) → MeansSame S added (s ∷ scope) g f → MeansSame S added scope (All s g) (All s f)
same-all S added scope s g f a M consts fits vars is = (
  (λ h v i. (a M consts fits (v ∷ vars) (in-under S M scope vars s v is i)).0 (h v i)),
  λ h v i. (a M consts fits (v ∷ vars) (in-under S M scope vars s v is i)).1 (h v i),
)

pub same-ex : (S : Signature) (added : List NewConst) (scope : List ℕ) (s : ℕ) (g f : Fm) → MeansSame S added (s ∷ scope) g f → MeansSame S added scope (Ex s g) (Ex s f)
same-ex S added scope s g f a M consts fits vars is = (
  (λ h k. h (λ v i j. k v i ((a M consts fits (v ∷ vars) (in-under S M scope vars s v is i)).0 j))),
  λ h k. h (λ v i j. k v i ((a M consts fits (v ∷ vars) (in-under S M scope vars s v is i)).1 j)),
)

abbrev pub MeanSame : Signature → List NewConst → List ℕ → Fms → Fms → Type 0
MeanSame S added scope no_fm no_fm = Unit {0}
MeanSame S added scope (also_fm g gs) (also_fm f fs) = MeansSame S added scope g f × MeanSame S added scope gs fs
MeanSame S added scope _ _ = ⊥

same-parts : (gs fs : Fms) (S : Signature) (added : List NewConst) (scope : List ℕ) → MeanSame S added scope gs fs → (M : Structure) (consts : ℕ → Elem) → Fits S M consts added → (vars : List Elem) → AreIn S M scope vars
    → (AllHold (meaning_with S M consts) vars gs ↔ AllHold (meaning_with S M consts) vars fs) × (NoneHolds (meaning_with S M consts) vars gs ↔ NoneHolds (meaning_with S M consts) vars fs)
same-parts no_fm no_fm S added scope a M consts fits vars is = (((λ h. tt), λ h. tt), ((λ h. tt), λ h. tt))
same-parts no_fm (also_fm f fs) S added scope a M consts fits vars is = elim a [ ]
same-parts (also_fm g gs) no_fm S added scope a M consts fits vars is = elim a [ ]
same-parts (also_fm g gs) (also_fm f fs) S added scope a M consts fits vars is =
    let x = a.0 M consts fits vars is in
    let y = same-parts gs fs S added scope a.1 M consts fits vars is in (
      ((λ h. (x.0 h.0, y.0.0 h.1)), λ h. (x.1 h.0, y.0.1 h.1)),
      ((λ h. ((λ k. h.0 (x.1 k)), y.1.0 h.1)), λ h. ((λ k. h.0 (x.0 k)), y.1.1 h.1)),
    )

pub same-and : (S : Signature) (added : List NewConst) (scope : List ℕ) (gs fs : Fms) → MeanSame S added scope gs fs → MeansSame S added scope (And gs) (And fs)
same-and S added scope gs fs a M consts fits vars is = (same-parts gs fs S added scope a M consts fits vars is).0

pub same-or : (S : Signature) (added : List NewConst) (scope : List ℕ) (gs fs : Fms) → MeanSame S added scope gs fs → MeansSame S added scope (Or gs) (Or fs)
same-or S added scope gs fs a M consts fits vars is = let p = (same-parts gs fs S added scope a M consts fits vars is).1 in ((λ h k. h (p.1 k)), λ h k. h (p.0 k))

-- so the steps for `Ex` are those for `All` of the duals
pub same-dual : (S : Signature) (added : List NewConst) (scope : List ℕ) (g f : Fm) → MeansSame S added scope g f → MeansSame S added scope (dual g) (dual f)
same-dual S added scope g f a M consts fits vars is =
    let x = a M consts fits vars is in
    let dg = dual_law g (meaning_with S M consts) vars in
    let df = dual_law f (meaning_with S M consts) vars in ((λ h. df.1 (λ k. dg.0 h (x.1 k))), λ h. dg.1 (λ k. df.0 h (x.0 k)))

pub swap-same : (S : Signature) (added : List NewConst) (scope : List ℕ) (r s : ℕ) (f : Fm) → MeansSame S added scope (All s (All r (filled_in swapped f))) (All r (All s f))
swap-same S added scope r s f M consts fits vars is = alls-swap (meaning_with S M consts) vars r s f

-- # Lowered terms

mutual
  lowered-is : (t u : Tm) → lowered t ≡ Some u → t ≡ raised 1 u
  lowered-is (Var zero) u e = absurd cc
  lowered-is (Var (suc n)) u e = let x : Var n ≡ u = cc in let m : suc n ≡ n + 1 = omega arith in ap (λ k. Var k) m ∙ ap (raised 1) x
  lowered-is (Const c) u e = let x : Const c ≡ u = cc in ap (raised 1) x
  lowered-is (Fn f ts) u e = let k = mapped _ _ u e in ap (λ us. Fn f us) (lowered-are ts k.0 k.1) ∙ ap (raised 1) k.2
  lowered-is (Int n) u e = let x : Int n ≡ u = cc in ap (raised 1) x
  lowered-is (Str n) u e = let x : Str n ≡ u = cc in ap (raised 1) x
  lowered-is (Con c ts) u e = let k = mapped _ _ u e in ap (λ us. Con c us) (lowered-are ts k.0 k.1) ∙ ap (raised 1) k.2
  lowered-is (Sel c i t) u e = let k = mapped _ _ u e in ap (λ x. Sel c i x) (lowered-is t k.0 k.1) ∙ ap (raised 1) k.2
  lowered-is (Plus t n) u e = let k = mapped _ _ u e in ap (λ x. Plus x n) (lowered-is t k.0 k.1) ∙ ap (raised 1) k.2

  lowered-are : (ts us : Tms) → lowered_each ts ≡ Some us → ts ≡ raised_each 1 us
  lowered-are no_tm us e = let x : no_tm ≡ us = cc in ap (raised_each 1) x
  lowered-are (also_tm t ts) us e =
      let k = and_then _ _ us e in
      let l = mapped _ _ us k.2 in
      ap₂ also_tm (lowered-is t k.0 k.1) (lowered-are ts l.0 l.1) ∙ ap (raised_each 1) l.2

-- # The step

-- one part tells the variable: its literal stands among the parts
pub record Tells (S : Signature) (added : List NewConst) (scope : List ℕ) (s : ℕ) (f : Fm) (w : Tm) : Type 0 where
  pub u : Tm
  pub b : Tm
  pub sort : ℕ
  -- either-found way round
  pub is : (f ≡ Lit false (Equal (raised 1 u) b)) ⊎ (f ≡ Lit false (Equal b (raised 1 u)))
  pub found_is : found b u ≡ Some w
  pub left : has_sort S added scope sort u ≡ true
  pub right : has_sort S added (s ∷ scope) sort b ≡ true

part-tells : (S : Signature) (added : List NewConst) (scope : List ℕ) (s : ℕ) (f : Fm) (w : Tm) → IsSorted S added (s ∷ scope) f → told_by f ≡ Some w → Tells S added scope s f w
part-tells S added scope s (Lit false (Equal a b)) w h e =
    elim (either-found (told a b) (told b a) w e) [
      | inl x ↦
          let u = and_then (λ u. found b u) (lowered a) w x in
          let t = lowered-is a u.0 u.1 in
          record { u = u.0; b = b; sort = h.0; is = inl (ap (λ a. Lit false (Equal a b)) t); found_is = u.2; left = sym (raised-sort u.0 S added scope s h.0) ∙ (ap (has_sort S added (s ∷ scope) h.0) (sym t) ∙ h.1); right = h.2 }
      | inr x ↦
          let u = and_then (λ u. found a u) (lowered b) w x in
          let t = lowered-is b u.0 u.1 in
          record { u = u.0; b = a; sort = h.0; is = inr (ap (λ b. Lit false (Equal a b)) t); found_is = u.2; left = sym (raised-sort u.0 S added scope s h.0) ∙ (ap (has_sort S added (s ∷ scope) h.0) (sym t) ∙ h.2); right = h.1 }
    ]
part-tells S added scope s (Lit true a) w h e = absurd cc
part-tells S added scope s (Lit false (Le a b k)) w h e = absurd cc
part-tells S added scope s (Lit false (Rel r ts)) w h e = absurd cc
part-tells S added scope s (And fs) w h e = absurd cc
part-tells S added scope s (Or fs) w h e = absurd cc
part-tells S added scope s (All r f) w h e = absurd cc
part-tells S added scope s (Ex r f) w h e = absurd cc

pub parts-tell : (S : Signature) (added : List NewConst) (scope : List ℕ) (s : ℕ) (fs : Fms) (w : Tm) → AreSorted S added (s ∷ scope) fs → told_among fs ≡ Some w → (f : Fm) × Among f fs × Tells S added scope s f w
parts-tell S added scope s no_fm w h e = absurd cc
parts-tell S added scope s (also_fm f fs) w h e =
    elim (either-found (told_by f) (told_among fs) w e) [
      | inl x ↦ (f, inl refl, part-tells S added scope s f w h.0 x)
      | inr x ↦ let r = parts-tell S added scope s fs w h.1 x in (r.0, inr r.1, r.2)
    ]

-- What the step makes means what the quantified formula means.
pub eliminated-is : (S : Signature) (added : List NewConst) (scope : List ℕ) (s : ℕ) (parts : Fms) (g : Fm) → AreSorted S added (s ∷ scope) parts → eliminated parts ≡ Some g
    → MeansSame S added scope g (All s (Or parts))
eliminated-is S added scope s parts g h e =
    let w = mapped _ _ g e in
    let t = parts-tell S added scope s parts w.0 h w.1 in
    let k = t.2 in
    let there : Among (Lit false (Equal (raised 1 k.u) k.b)) parts ⊎ Among (Lit false (Equal k.b (raised 1 k.u))) parts = elim k.is [
      | inl x ↦ inl (subst (λ f. Among f parts) x t.1)
      | inr x ↦ inr (subst (λ f. Among f parts) x t.1)
    ] in
    subst (λ g. MeansSame S added scope g (All s (Or parts))) w.2 (eliminates S added scope s k.sort k.u k.b w.0 parts there k.found_is k.left k.right)
