-- A body without a told variable means what `all` of it means, and is as well sorted.
use Rattle.std.proofs.Common.{◌≡◌, ℕ, zero, suc, List, ◌∷◌, get_or, slice_get, Option, Some, None, ◌↔◌, true, refl, ap, ◌∙◌, subst, eq-eqb}
use Rattle.std.specs.Option.{unwrap_or}
use Rattle.std.proofs.lemmas.Option.{same_Some}
use Rattle.rp_logic.specs.declared.sort.NewConst.{NewConst}
use Rattle.rp_logic.specs.Formulas.{Fm, Fms, And, Or, All, Ex, Lit, no_fm, also_fm}
use Rattle.rp_logic.specs.Elements.{Elem, junk}
use Rattle.rp_logic.specs.Structures.{Structure, Fits, is_elem}
use Rattle.rp_logic.specs.Signatures.{Signature}
use Rattle.rp_logic.specs.Sorted.{is_sort, IsSorted, AreSorted}
use Rattle.rp_logic.specs.Truth.{Meaning, meaning_with, Holds}
use Rattle.rp_logic.specs.Filling.{filled_in, filled_ins, Gives, Suits, AreIn, MeansSame}
use Rattle.rp_logic.proofs.DualLaws.{stable}
use Rattle.rp_logic.proofs.FillingLaws.{filled-holds}
use Rattle.rp_logic.proofs.KeptSorts.{filled-ins-sorted}
use Rattle.rp_logic.proofs.Options.{mapped}
use Rattle.reshape.specs.Eliminating.{eliminated}
use Rattle.reshape.proofs.PassLaws.{same-itself, eliminated-is}
use Rattle.reshape.proofs.FoundSorts.{eliminated-sorted}
use Rattle.reshaped.specs.Fillings.{further, moved, innermost}
use Rattle.reshaped.specs.Shapes.{without, universal}

-- # The n-th variable as the innermost

value-further : (vars : List Elem) (e x : Elem) (k : ℕ) → get_or (e ∷ x ∷ vars) (further k) junk ≡ get_or (e ∷ vars) k junk
value-further vars e x zero = refl
value-further vars e x (suc k) = refl

-- with the innermost as the n-th of these
pub gives-start : (M : Meaning) (vars : List Elem) (e : Elem) → Gives M (innermost 0) (e ∷ vars) (e ∷ vars)
gives-start M vars e n = refl

pub gives-next : (n : ℕ) (M : Meaning) (vars others : List Elem) (e x : Elem) → Gives M (innermost n) (e ∷ vars) others → Gives M (innermost (suc n)) (e ∷ x ∷ vars) (x ∷ others)
gives-next n M vars others e x g zero = refl
gives-next n M vars others e x g (suc k) = value-further vars e x (moved n k) ∙ g k

sort-further : (scope : List ℕ) (s r k : ℕ) → slice_get (s ∷ r ∷ scope) (further k) ≡ slice_get (s ∷ scope) k
sort-further scope s r zero = refl
sort-further scope s r (suc k) = refl

suits-start : (S : Signature) (added : List NewConst) (scope : List ℕ) → Suits S added scope scope (innermost 0)
suits-start S added scope n d e = ap (λ o. is_sort o d) e ∙ eq-eqb d d refl

suits-next : (n : ℕ) (S : Signature) (added : List NewConst) (scope old : List ℕ) (s r : ℕ) → Suits S added (s ∷ scope) old (innermost n) → Suits S added (s ∷ r ∷ scope) (r ∷ old) (innermost (suc n))
suits-next n S added scope old s r w zero d e = eq-eqb r d (same_Some r d e)
suits-next n S added scope old s r w (suc k) d e = ap (λ o. is_sort o d) (sort-further scope s r (moved n k)) ∙ w k d e

in-under : (S : Signature) (M : Structure) (scope : List ℕ) (vars : List Elem) (s : ℕ) (v : Elem) → AreIn S M scope vars → is_elem S M.sizes s v ≡ true → AreIn S M (s ∷ scope) (v ∷ vars)
in-under S M scope vars s v within i zero r e = subst (λ r. is_elem S M.sizes r v ≡ true) (same_Some s r e) i
in-under S M scope vars s v within i (suc n) r e = within n r e

-- # One told variable

-- `all` of the body at the places that the variable's element gives
abbrev pub AtEach : Signature → Structure → (ℕ → Elem) → ℕ → (Elem → List Elem) → Fm → Type 0
AtEach S M consts s others f = (e : Elem) → is_elem S M.sizes s e ≡ true → Holds (meaning_with S M consts) (others e) f

any-of : (f : Fm) (M : Meaning) (vars : List Elem) → Holds M vars (Or (also_fm f no_fm)) ↔ Holds M vars f
any-of f M vars = ((λ h. stable f M vars (λ n. h (n, tt))), λ h k. k.0 h)

parts-without-is : (parts : Fms) (n : ℕ) (S : Signature) (added : List NewConst) (scope old : List ℕ) (s : ℕ) (g : Fm) → eliminated (filled_ins (innermost n) parts) ≡ Some g
    → Suits S added (s ∷ scope) old (innermost n) → AreSorted S added old parts
    → (M : Structure) (consts : ℕ → Elem) → Fits S M consts added → (vars : List Elem) → AreIn S M scope vars
    → (others : Elem → List Elem) → ((e : Elem) → Gives (meaning_with S M consts) (innermost n) (e ∷ vars) (others e))
    → Holds (meaning_with S M consts) vars g ↔ AtEach S M consts s others (Or parts)
parts-without-is parts n S added scope old s g is suits sorted M consts fits vars within others gives =
    let same = eliminated-is S added scope s (filled_ins (innermost n) parts) g (filled-ins-sorted parts S added (s ∷ scope) old (innermost n) suits sorted) is M consts fits vars within in (
      (λ h e i. (filled-holds (Or parts) (meaning_with S M consts) (innermost n) (e ∷ vars) (others e) (gives e)).0 (same.0 h e i)),
      λ h. same.1 (λ e i. (filled-holds (Or parts) (meaning_with S M consts) (innermost n) (e ∷ vars) (others e) (gives e)).1 (h e i)),
    )

one-without-is : (f : Fm) (n : ℕ) (S : Signature) (added : List NewConst) (scope old : List ℕ) (s : ℕ) (g : Fm) → eliminated (also_fm (filled_in (innermost n) f) no_fm) ≡ Some g
    → Suits S added (s ∷ scope) old (innermost n) → IsSorted S added old f
    → (M : Structure) (consts : ℕ → Elem) → Fits S M consts added → (vars : List Elem) → AreIn S M scope vars
    → (others : Elem → List Elem) → ((e : Elem) → Gives (meaning_with S M consts) (innermost n) (e ∷ vars) (others e))
    → Holds (meaning_with S M consts) vars g ↔ AtEach S M consts s others f
one-without-is f n S added scope old s g is suits sorted M consts fits vars within others gives =
    let same = parts-without-is (also_fm f no_fm) n S added scope old s g is suits (sorted, tt) M consts fits vars within others gives in (
      (λ h e i. (any-of f (meaning_with S M consts) (others e)).0 (same.0 h e i)),
      λ h. same.1 (λ e i. (any-of f (meaning_with S M consts) (others e)).1 (h e i)),
    )

without-is : (f : Fm) (n : ℕ) (S : Signature) (added : List NewConst) (scope old : List ℕ) (s : ℕ) (g : Fm) → without n f ≡ Some g
    → Suits S added (s ∷ scope) old (innermost n) → IsSorted S added old f
    → (M : Structure) (consts : ℕ → Elem) → Fits S M consts added → (vars : List Elem) → AreIn S M scope vars
    → (others : Elem → List Elem) → ((e : Elem) → Gives (meaning_with S M consts) (innermost n) (e ∷ vars) (others e))
    → Holds (meaning_with S M consts) vars g ↔ AtEach S M consts s others f
without-is (All r f) n S added scope old s g is suits sorted M consts fits vars within others gives =
    let k = mapped _ _ g is in
    let inner = λ (x : Elem) (j : is_elem S M.sizes r x ≡ true). without-is f (suc n) S added (r ∷ scope) (r ∷ old) s k.0 k.1
    (suits-next n S added scope old s r suits) sorted.1 M consts fits (x ∷ vars) (in-under S M scope vars r x within j)
    (λ e. x ∷ others e) (λ e. gives-next n (meaning_with S M consts) vars (others e) e x (gives e)) in
    subst (λ g. Holds (meaning_with S M consts) vars g ↔ AtEach S M consts s others (All r f)) k.2
    ((λ h e i x j. (inner x j).0 (h x j) e i), λ h x j. (inner x j).1 (λ e i. h e i x j))
without-is (Or parts) n S added scope old s g is suits sorted M consts fits vars within others gives =
    parts-without-is parts n S added scope old s g is suits sorted M consts fits vars within others gives
without-is (And parts) n S added scope old s g is suits sorted M consts fits vars within others gives =
    one-without-is (And parts) n S added scope old s g is suits sorted M consts fits vars within others gives
without-is (Ex r f) n S added scope old s g is suits sorted M consts fits vars within others gives =
    one-without-is (Ex r f) n S added scope old s g is suits sorted M consts fits vars within others gives
without-is (Lit sign atom) n S added scope old s g is suits sorted M consts fits vars within others gives =
    one-without-is (Lit sign atom) n S added scope old s g is suits sorted M consts fits vars within others gives

without-sorted : (f : Fm) (n : ℕ) (S : Signature) (added : List NewConst) (scope old : List ℕ) (s : ℕ) (g : Fm) → without n f ≡ Some g
    → Suits S added (s ∷ scope) old (innermost n) → IsSorted S added old f → IsSorted S added scope g
without-sorted (All r f) n S added scope old s g is suits sorted =
    let k = mapped _ _ g is in
    subst (IsSorted S added scope) k.2 (sorted.0, without-sorted f (suc n) S added (r ∷ scope) (r ∷ old) s k.0 k.1 (suits-next n S added scope old s r suits) sorted.1)
without-sorted (Or parts) n S added scope old s g is suits sorted =
    eliminated-sorted S added scope s (filled_ins (innermost n) parts) g (filled-ins-sorted parts S added (s ∷ scope) old (innermost n) suits sorted) is
without-sorted (And parts) n S added scope old s g is suits sorted =
    eliminated-sorted S added scope s (filled_ins (innermost n) (also_fm (And parts) no_fm)) g (filled-ins-sorted (also_fm (And parts) no_fm) S added (s ∷ scope) old (innermost n) suits (sorted, tt)) is
without-sorted (Ex r f) n S added scope old s g is suits sorted =
    eliminated-sorted S added scope s (filled_ins (innermost n) (also_fm (Ex r f) no_fm)) g (filled-ins-sorted (also_fm (Ex r f) no_fm) S added (s ∷ scope) old (innermost n) suits (sorted, tt)) is
without-sorted (Lit sign atom) n S added scope old s g is suits sorted =
    eliminated-sorted S added scope s (filled_ins (innermost n) (also_fm (Lit sign atom) no_fm)) g (filled-ins-sorted (also_fm (Lit sign atom) no_fm) S added (s ∷ scope) old (innermost n) suits (sorted, tt)) is

-- # With and without

-- what a step of the pass keeps
abbrev pub Keeps : Signature → List NewConst → List ℕ → Fm → Fm → Type 0
Keeps S added scope g f = MeansSame S added scope g f × IsSorted S added scope g

with-or-without : (o : Option Fm) (S : Signature) (added : List NewConst) (scope : List ℕ) (s : ℕ) (f : Fm) → without 0 f ≡ o → IsSorted S added scope (All s f)
    → Keeps S added scope (unwrap_or o (All s f)) (All s f)
with-or-without None S added scope s f is sorted = (same-itself S added scope (All s f), sorted)
with-or-without (Some g) S added scope s f is sorted = (
  (λ M consts fits vars within. without-is f 0 S added scope (s ∷ scope) s g is (suits-start S added (s ∷ scope)) sorted.1 M consts fits vars within (λ e. e ∷ vars) (λ e. gives-start (meaning_with S M consts) vars e)),
  without-sorted f 0 S added scope (s ∷ scope) s g is (suits-start S added (s ∷ scope)) sorted.1,
)

pub universal-keeps : (S : Signature) (added : List NewConst) (scope : List ℕ) (s : ℕ) (f : Fm) → IsSorted S added scope (All s f) → Keeps S added scope (universal s f) (All s f)
universal-keeps S added scope s f sorted = with-or-without (without 0 f) S added scope s f refl sorted
