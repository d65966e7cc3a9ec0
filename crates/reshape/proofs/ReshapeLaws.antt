-- Reshaping: formulas that mean the same in each structure of a signature.
use Rattle.std.proofs.Common.{◌≡◌, ℕ, zero, suc, ◌+◌, List, [], ◌∷◌, slice_get, true, false, cond, Option, Some, None, ◌↔◌, sym, refl, ap, ◌∙◌, subst, eqb-true, eq-eqb, inl, inr, ◌⊎◌, arith}
use Rattle.std.specs.Option.{option_or}
use Rattle.std.proofs.lemmas.Bool.{true_from_ne_false, and_parts}
use Rattle.std.proofs.lemmas.Option.{same_Some}
use Rattle.rp_logic.specs.declared.sort.NewConst.{NewConst}
use Rattle.rp_logic.specs.Terms.{Tm, Tms, Var, Const, Fn, Int, Str, Con, Sel, Plus, no_tm, also_tm, Equal}
use Rattle.rp_logic.specs.Formulas.{Fm, Fms, Or, All, Lit, no_fm, also_fm}
use Rattle.rp_logic.specs.Elements.{Elem, Elems, Made}
use Rattle.rp_logic.specs.Signatures.{Signature, is_con_of, fields_of}
use Rattle.rp_logic.specs.Sorted.{has_sort, have_sorts}
use Rattle.rp_logic.specs.Structures.{is_elem, are_elems, select, elsewhere, nth_elem}
use Rattle.rp_logic.specs.Truth.{Meaning, meaning_with, Holds, NoneHolds, value, values}
use Rattle.rp_logic.specs.Filling.{raised, filled_in, filled_ins, instead, swapped, behind, Gives, MeansSame}
use Rattle.rp_logic.proofs.DualLaws.{stable}
use Rattle.rp_logic.proofs.SortLaws.{no}
use Rattle.rp_logic.proofs.FillingLaws.{filled-holds, filled-all, raised-value}
use Rattle.rp_logic.proofs.ElementLaws.{same-is}
use Rattle.rp_logic.proofs.OpenSorts.{value_sort}
use Rattle.reshape.specs.Determining.{found, found_among}

-- # Quantifiers change places

gives-swapped : (M : Meaning) (v w : Elem) (vars : List Elem) → Gives M swapped (v ∷ w ∷ vars) (w ∷ v ∷ vars)
gives-swapped M v w vars zero = refl
gives-swapped M v w vars (suc zero) = refl
gives-swapped M v w vars (suc (suc n)) = refl

pub alls-swap : (M : Meaning) (vars : List Elem) (r s : ℕ) (f : Fm) → Holds M vars (All s (All r (filled_in swapped f))) ↔ Holds M vars (All r (All s f))
alls-swap M vars r s f = (
  (λ h w j v i. (filled-holds f M swapped (w ∷ v ∷ vars) (v ∷ w ∷ vars) (gives-swapped M w v vars)).0 (h v i w j)),
  λ h v i w j. (filled-holds f M swapped (w ∷ v ∷ vars) (v ∷ w ∷ vars) (gives-swapped M w v vars)).1 (h w j v i),
)

-- # An `All` comes out of an `Or`

gives-behind : (M : Meaning) (v : Elem) (vars : List Elem) → Gives M behind (v ∷ vars) vars
gives-behind M v vars n = refl

pub all-out : (M : Meaning) (vars : List Elem) (s : ℕ) (f : Fm) (fs : Fms)
    → Holds M vars (All s (Or (also_fm f (filled_ins behind fs)))) ↔ Holds M vars (Or (also_fm (All s f) fs))
all-out M vars s f fs = (
  (λ h k. k.0 (λ v i. stable f M (v ∷ vars) (λ n. h v i (n, (filled-all fs M behind (v ∷ vars) vars (gives-behind M v vars)).1.1 k.1)))),
  λ h v i k. h ((λ a. k.0 (a v i)), (filled-all fs M behind (v ∷ vars) vars (gives-behind M v vars)).1.0 k.1),
)

-- # A determined variable

pub either-found : (o rest : Option Tm) (w : Tm) → option_or o rest ≡ Some w → (o ≡ Some w) ⊎ (rest ≡ Some w)
either-found None rest w h = inr h
either-found (Some x) rest w h = inl h

pub selected-is : (M : Meaning) (vars : List Elem) (con i : ℕ) (u : Tm) (xs : Elems) (y : Elem) → value M vars u ≡ Made con xs → nth_elem xs i ≡ y
    → value M vars (Sel con i u) ≡ y
selected-is M vars con i u xs y h e =
    ap (select M.sig M.structure con i) h
    ∙ (ap (λ b. cond b (nth_elem xs i) (elsewhere M.sig M.structure con i (Made con xs))) (eq-eqb con con refl) ∙ e)

-- where the term has the value of the other, the selector term has the variable's
mutual
  found-value : (b u w : Tm) (M : Meaning) (vars : List Elem) (v : Elem) → found b u ≡ Some w → value M vars u ≡ value M (v ∷ vars) b → value M vars w ≡ v
  found-value (Var zero) u w M vars v e h = ap (value M vars) (sym (same_Some u w e)) ∙ h
  found-value (Con con args) u w M vars v e h = found-values args con 0 u w M vars v (values M (v ∷ vars) args) e h (λ j. ap (nth_elem (values M (v ∷ vars) args)) (omega arith))
  found-value (Var (suc n)) u w M vars v e h = absurd cc
  found-value (Const c) u w M vars v e h = absurd cc
  found-value (Fn f args) u w M vars v e h = absurd cc
  found-value (Int n) u w M vars v e h = absurd cc
  found-value (Str b) u w M vars v e h = absurd cc
  found-value (Sel c i t) u w M vars v e h = absurd cc
  found-value (Plus t n) u w M vars v e h = absurd cc

  found-values : (ts : Tms) (con i : ℕ) (u w : Tm) (M : Meaning) (vars : List Elem) (v : Elem) (xs : Elems) → found_among ts con i u ≡ Some w
      → value M vars u ≡ Made con xs → ((j : ℕ) → nth_elem xs (i + j) ≡ nth_elem (values M (v ∷ vars) ts) j) → value M vars w ≡ v
  found-values no_tm con i u w M vars v xs e h n = absurd cc
  found-values (also_tm t ts) con i u w M vars v xs e h n =
      elim (either-found (found t (Sel con i u)) (found_among ts con (suc i) u) w e) [
        | inl is ↦ found-value t (Sel con i u) w M vars v is (selected-is M vars con i u xs (value M (v ∷ vars) t) h (ap (nth_elem xs) (omega arith) ∙ n 0))
        | inr is ↦ found-values ts con (suc i) u w M vars v xs is h (λ j. ap (nth_elem xs) (omega arith) ∙ n (suc j))
      ]

-- the variable's value is an element of its sort
mutual
  found-sort : (b u w : Tm) (S : Signature) (added : List NewConst) (scope : List ℕ) (s d : ℕ) (M : Meaning) (z : List ℕ) (vars : List Elem) (v : Elem)
      → found b u ≡ Some w → has_sort S added (s ∷ scope) d b ≡ true → is_elem S z d (value M (v ∷ vars) b) ≡ true → is_elem S z s v ≡ true
  found-sort (Var zero) u w S added scope s d M z vars v e h i = subst (λ r. is_elem S z r v ≡ true) (sym (eqb-true s d h)) i
  found-sort (Con con args) u w S added scope s d M z vars v e h i =
      found-sorts args con 0 u w S added scope s (fields_of (slice_get S.cons con)) M z vars v e
      (and_parts (is_con_of (slice_get S.cons con) d) (have_sorts S added (s ∷ scope) (fields_of (slice_get S.cons con)) args) h).1
      (and_parts (is_con_of (slice_get S.cons con) d) (are_elems S z (fields_of (slice_get S.cons con)) (values M (v ∷ vars) args)) i).1
  found-sort (Var (suc n)) u w S added scope s d M z vars v e h i = absurd cc
  found-sort (Const c) u w S added scope s d M z vars v e h i = absurd cc
  found-sort (Fn f args) u w S added scope s d M z vars v e h i = absurd cc
  found-sort (Int n) u w S added scope s d M z vars v e h i = absurd cc
  found-sort (Str b) u w S added scope s d M z vars v e h i = absurd cc
  found-sort (Sel c j t) u w S added scope s d M z vars v e h i = absurd cc
  found-sort (Plus t n) u w S added scope s d M z vars v e h i = absurd cc

  found-sorts : (ts : Tms) (con k : ℕ) (u w : Tm) (S : Signature) (added : List NewConst) (scope : List ℕ) (s : ℕ) (ss : List ℕ) (M : Meaning) (z : List ℕ) (vars : List Elem) (v : Elem)
      → found_among ts con k u ≡ Some w → have_sorts S added (s ∷ scope) ss ts ≡ true → are_elems S z ss (values M (v ∷ vars) ts) ≡ true → is_elem S z s v ≡ true
  found-sorts no_tm con k u w S added scope s ss M z vars v e h i = absurd cc
  found-sorts (also_tm t ts) con k u w S added scope s [] M z vars v e h i = no h
  found-sorts (also_tm t ts) con k u w S added scope s (d ∷ ss) M z vars v e h i =
      let a = and_parts (has_sort S added (s ∷ scope) d t) (have_sorts S added (s ∷ scope) ss ts) h in
      let b = and_parts (is_elem S z d (value M (v ∷ vars) t)) (are_elems S z ss (values M (v ∷ vars) ts)) i in
      elim (either-found (found t (Sel con k u)) (found_among ts con (suc k) u) w e) [
        | inl is ↦ found-sort t (Sel con k u) w S added scope s d M z vars v is a.0 b.0
        | inr is ↦ found-sorts ts con (suc k) u w S added scope s ss M z vars v is a.1 b.1
      ]

-- # Elimination

-- the formula is one of these
abbrev pub Among : Fm → Fms → Type 0
Among f no_fm = ⊥
Among f (also_fm g fs) = (f ≡ g) ⊎ Among f fs

pub among-none : (f : Fm) (fs : Fms) (M : Meaning) (vars : List Elem) → Among f fs → NoneHolds M vars fs → ¬ Holds M vars f
among-none f no_fm M vars a n = elim a [ ]
among-none f (also_fm g fs) M vars (inl e) n = subst (λ x. ¬ Holds M vars x) (sym e) n.0
among-none f (also_fm g fs) M vars (inr a) n = among-none f fs M vars a n.1

pub among-some : (f : Fm) (fs : Fms) (M : Meaning) (vars : List Elem) → Among f fs → Holds M vars f → ¬ NoneHolds M vars fs
among-some f fs M vars a h n = among-none f fs M vars a n h

gives-instead : (M : Meaning) (w : Tm) (vars : List Elem) → Gives M (instead w) vars (value M vars w ∷ vars)
gives-instead M w vars zero = refl
gives-instead M w vars (suc n) = refl

-- Where a part says, either way round, that the term u, without the variable, differs from a term that determines the variable, the
-- quantifier goes: for the variable stands what selects it from u. Its sort may be empty.
pub eliminates : (S : Signature) (added : List NewConst) (scope : List ℕ) (s d : ℕ) (u b w : Tm) (parts : Fms)
    → Among (Lit false (Equal (raised 1 u) b)) parts ⊎ Among (Lit false (Equal b (raised 1 u))) parts → found b u ≡ Some w
    → has_sort S added scope d u ≡ true → has_sort S added (s ∷ scope) d b ≡ true
    → MeansSame S added scope (Or (filled_ins (instead w) parts)) (All s (Or parts))
eliminates S added scope s d u b w parts a e hu hb M consts fits vars is = (forward, back)
  where
    N : Meaning
    N = meaning_with S M consts

    key : (v : Elem) → NoneHolds (meaning_with S M consts) (v ∷ vars) parts → value (meaning_with S M consts) vars u ≡ value (meaning_with S M consts) (v ∷ vars) b
    key v k =
        sym (raised-value u N (v ∷ []) vars 1 refl)
        ∙ elim a [
          | inl x ↦ same-is _ _ (true_from_ne_false _ (among-none (Lit false (Equal (raised 1 u) b)) parts N (v ∷ vars) x k))
          | inr x ↦ sym (same-is _ _ (true_from_ne_false _ (among-none (Lit false (Equal b (raised 1 u))) parts N (v ∷ vars) x k)))
        ]

    forward : Holds (meaning_with S M consts) vars (Or (filled_ins (instead w) parts)) → Holds (meaning_with S M consts) vars (All s (Or parts))
    forward h v i k =
        h ((filled-all parts N (instead w) vars (value N vars w ∷ vars) (gives-instead N w vars)).1.1
        (subst (λ x. NoneHolds N (x ∷ vars) parts) (sym (found-value b u w N vars v e (key v k))) k))

    back : Holds (meaning_with S M consts) vars (All s (Or parts)) → Holds (meaning_with S M consts) vars (Or (filled_ins (instead w) parts))
    back h k =
        let v = value N vars w in
        let n : NoneHolds N (v ∷ vars) parts = (filled-all parts N (instead w) vars (value N vars w ∷ vars) (gives-instead N w vars)).1.0 k in
        h v (found-sort b u w S added scope s d N M.sizes vars v e hb (subst (λ x. is_elem S M.sizes d x ≡ true) (key v n) (value_sort u S M consts added scope vars d fits is hu))) n
