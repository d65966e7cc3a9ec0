-- What terms in place of variables make is well sorted.
use Rattle.std.proofs.Common.{◌≡◌, ℕ, zero, suc, ◌+◌, List, [], ◌∷◌, slice_get, true, ◌&&◌, refl, ap, ap₂, ◌∙◌, subst, eq-eqb, arith}
use Rattle.std.proofs.lemmas.Bool.{and_parts, and_from}
use Rattle.std.proofs.lemmas.Option.{same_Some}
use Rattle.rp_logic.specs.declared.sort.NewConst.{NewConst}
use Rattle.rp_logic.specs.Terms.{Tm, Tms, Var, Const, Fn, Int, Str, Con, Sel, Plus, no_tm, also_tm, At, Equal, Le, Rel}
use Rattle.rp_logic.specs.Formulas.{Fm, Fms, And, Or, All, Ex, Lit, no_fm, also_fm}
use Rattle.rp_logic.specs.Signatures.{Signature, is_int, is_con_of, fields_of}
use Rattle.rp_logic.specs.Sorted.{has_sort, have_sorts, is_sort, gives, takes, sort_of_con, IsSorted, AreSorted, IsSortedAtom}
use Rattle.rp_logic.specs.Filling.{filled, filled_each, filled_atom, filled_in, filled_ins, inside, instead, raised, raised_each, Suits}
use Rattle.rp_logic.proofs.SortLaws.{sort_known}

-- # Raised terms

one-further : (s : ℕ) (scope : List ℕ) (n : ℕ) → slice_get (s ∷ scope) (n + 1) ≡ slice_get scope n
one-further s scope n = ap (slice_get (s ∷ scope)) (let m : n + 1 ≡ suc n = omega arith in m)

mutual
  pub raised-sort : (u : Tm) (S : Signature) (added : List NewConst) (scope : List ℕ) (s d : ℕ) → has_sort S added (s ∷ scope) d (raised 1 u) ≡ has_sort S added scope d u
  raised-sort (Var n) S added scope s d = ap (λ o. is_sort o d) (one-further s scope n)
  raised-sort (Const c) S added scope s d = refl
  raised-sort (Fn f ts) S added scope s d = ap (λ b. gives (slice_get S.fns f) d && b) (raised-sorts ts S added scope s (takes (slice_get S.fns f)))
  raised-sort (Int n) S added scope s d = refl
  raised-sort (Str n) S added scope s d = refl
  raised-sort (Con c ts) S added scope s d = ap (λ b. is_con_of (slice_get S.cons c) d && b) (raised-sorts ts S added scope s (fields_of (slice_get S.cons c)))
  raised-sort (Sel c i t) S added scope s d = ap (λ b. is_sort (slice_get (fields_of (slice_get S.cons c)) i) d && b) (raised-sort t S added scope s (sort_of_con (slice_get S.cons c)))
  raised-sort (Plus t n) S added scope s d = ap (λ b. is_int (slice_get S.sorts d) && b) (raised-sort t S added scope s d)

  raised-sorts : (us : Tms) (S : Signature) (added : List NewConst) (scope : List ℕ) (s : ℕ) (ss : List ℕ) → have_sorts S added (s ∷ scope) ss (raised_each 1 us) ≡ have_sorts S added scope ss us
  raised-sorts no_tm S added scope s [] = refl
  raised-sorts no_tm S added scope s (d ∷ ss) = refl
  raised-sorts (also_tm u us) S added scope s [] = refl
  raised-sorts (also_tm u us) S added scope s (d ∷ ss) = ap₂ (λ a b. a && b) (raised-sort u S added scope s d) (raised-sorts us S added scope s ss)

-- # Filled terms and formulas

mutual
  pub filled-sort : (t : Tm) (S : Signature) (added : List NewConst) (scope old : List ℕ) (s : ℕ → Tm) (d : ℕ) → Suits S added scope old s → has_sort S added old d t ≡ true → has_sort S added scope d (filled s t) ≡ true
  filled-sort (Var n) S added scope old s d w h = w n d (sort_known (slice_get old n) d h)
  filled-sort (Const c) S added scope old s d w h = h
  filled-sort (Fn f ts) S added scope old s d w h = let b = and_parts (gives (slice_get S.fns f) d) (have_sorts S added old (takes (slice_get S.fns f)) ts) h in and_from (gives (slice_get S.fns f) d) _ b.0 (filled-sorts ts S added scope old s _ w b.1)
  filled-sort (Int n) S added scope old s d w h = h
  filled-sort (Str n) S added scope old s d w h = h
  filled-sort (Con c ts) S added scope old s d w h = let b = and_parts (is_con_of (slice_get S.cons c) d) (have_sorts S added old (fields_of (slice_get S.cons c)) ts) h in and_from (is_con_of (slice_get S.cons c) d) _ b.0 (filled-sorts ts S added scope old s _ w b.1)
  filled-sort (Sel c i t) S added scope old s d w h = let b = and_parts (is_sort (slice_get (fields_of (slice_get S.cons c)) i) d) (has_sort S added old (sort_of_con (slice_get S.cons c)) t) h in and_from (is_sort (slice_get (fields_of (slice_get S.cons c)) i) d) _ b.0 (filled-sort t S added scope old s _ w b.1)
  filled-sort (Plus t n) S added scope old s d w h = let b = and_parts (is_int (slice_get S.sorts d)) (has_sort S added old d t) h in and_from (is_int (slice_get S.sorts d)) _ b.0 (filled-sort t S added scope old s d w b.1)

  pub filled-sorts : (ts : Tms) (S : Signature) (added : List NewConst) (scope old : List ℕ) (s : ℕ → Tm) (ss : List ℕ) → Suits S added scope old s → have_sorts S added old ss ts ≡ true → have_sorts S added scope ss (filled_each s ts) ≡ true
  filled-sorts no_tm S added scope old s [] w h = refl
  filled-sorts no_tm S added scope old s (d ∷ ss) w h = h
  filled-sorts (also_tm t ts) S added scope old s [] w h = h
  filled-sorts (also_tm t ts) S added scope old s (d ∷ ss) w h = let b = and_parts (has_sort S added old d t) (have_sorts S added old ss ts) h in and_from _ _ (filled-sort t S added scope old s d w b.0) (filled-sorts ts S added scope old s ss w b.1)

suits-inside : (S : Signature) (added : List NewConst) (scope old : List ℕ) (s : ℕ → Tm) (r : ℕ) → Suits S added scope old s → Suits S added (r ∷ scope) (r ∷ old) (inside s)
suits-inside S added scope old s r w zero d e = eq-eqb r d (same_Some r d e)
suits-inside S added scope old s r w (suc n) d e = raised-sort (s n) S added scope r d ∙ w n d e

filled-atom-sort : (a : At) (S : Signature) (added : List NewConst) (scope old : List ℕ) (s : ℕ → Tm) → Suits S added scope old s → IsSortedAtom S added old a → IsSortedAtom S added scope (filled_atom s a)
filled-atom-sort (Equal a b) S added scope old s w h = (h.0, filled-sort a S added scope old s h.0 w h.1, filled-sort b S added scope old s h.0 w h.2)
filled-atom-sort (Le a b k) S added scope old s w h = ((h.0.0, h.0.1, filled-sort a S added scope old s h.0.0 w h.0.2), (h.1.0, h.1.1, filled-sort b S added scope old s h.1.0 w h.1.2))
filled-atom-sort (Rel r ts) S added scope old s w h = (h.0, h.1, filled-sorts ts S added scope old s h.0 w h.2)

mutual
  pub filled-in-sorted : (f : Fm) (S : Signature) (added : List NewConst) (scope old : List ℕ) (s : ℕ → Tm) → Suits S added scope old s → IsSorted S added old f → IsSorted S added scope (filled_in s f)
  filled-in-sorted (And fs) S added scope old s w h = filled-ins-sorted fs S added scope old s w h
  filled-in-sorted (Or fs) S added scope old s w h = filled-ins-sorted fs S added scope old s w h
  filled-in-sorted (All r f) S added scope old s w h = (h.0, filled-in-sorted f S added (r ∷ scope) (r ∷ old) (inside s) (suits-inside S added scope old s r w) h.1)
  filled-in-sorted (Ex r f) S added scope old s w h = (h.0, filled-in-sorted f S added (r ∷ scope) (r ∷ old) (inside s) (suits-inside S added scope old s r w) h.1)
  filled-in-sorted (Lit b a) S added scope old s w h = filled-atom-sort a S added scope old s w h

  pub filled-ins-sorted : (fs : Fms) (S : Signature) (added : List NewConst) (scope old : List ℕ) (s : ℕ → Tm) → Suits S added scope old s → AreSorted S added old fs → AreSorted S added scope (filled_ins s fs)
  filled-ins-sorted no_fm S added scope old s w h = tt
  filled-ins-sorted (also_fm f fs) S added scope old s w h = (filled-in-sorted f S added scope old s w h.0, filled-ins-sorted fs S added scope old s w h.1)

suits-instead : (S : Signature) (added : List NewConst) (scope : List ℕ) (s : ℕ) (w : Tm) → has_sort S added scope s w ≡ true → Suits S added scope (s ∷ scope) (instead w)
suits-instead S added scope s w h zero d e = subst (λ d. has_sort S added scope d w ≡ true) (same_Some s d e) h
suits-instead S added scope s w h (suc n) d e = ap (λ o. is_sort o d) e ∙ eq-eqb d d refl

-- what an elimination makes
pub instead-sorted : (S : Signature) (added : List NewConst) (scope : List ℕ) (s : ℕ) (w : Tm) (parts : Fms) → has_sort S added scope s w ≡ true → AreSorted S added (s ∷ scope) parts
    → IsSorted S added scope (Or (filled_ins (instead w) parts))
instead-sorted S added scope s w parts h k = filled-ins-sorted parts S added scope (s ∷ scope) (instead w) (suits-instead S added scope s w h) k
