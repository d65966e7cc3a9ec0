-- A well sorted term has an element of its sort for its value.
use Rattle.std.proofs.Common.{◌≡◌, ℕ, zero, suc, List, [], ◌∷◌, Bool, true, false, cond, eqb, refl, subst, slice_get, Option, Some, None, eqb-true}
use Rattle.std.proofs.lemmas.Bool.{and_parts, and_from}
use Rattle.std.proofs.lemmas.Option.{same_Some}
use Rattle.rp_logic.specs.declared.sort.FnDecl.{FnDecl}
use Rattle.rp_logic.specs.declared.sort.NewConst.{NewConst}
use Rattle.rp_logic.specs.Terms.{Tm, Tms, Var, Const, Fn, Int, Str, Con, Sel, Plus, no_tm, also_tm}
use Rattle.rp_logic.specs.Signatures.{Signature, is_int, is_con_of, fields_of}
use Rattle.rp_logic.specs.Sorted.{const_sort, is_sort, gives, takes, sort_of_con, has_sort, have_sorts}
use Rattle.rp_logic.specs.Elements.{Elem, Elems, Point, Whole, Text, Made, no_elem, also_elem}
use Rattle.rp_logic.specs.Structures.{Structure, Fits, is_elem, are_elems, apply, nth_elem, elsewhere, select}
use Rattle.rp_logic.specs.Truth.{meaning_with, value, values}
use Rattle.rp_logic.specs.Filling.{AreIn}
use Rattle.rp_logic.proofs.SortLaws.{no, sort_known}

fn_known : (S : Signature) (M : Structure) (k : ℕ → Elem) (added : List NewConst) → Fits S M k added → (f s : ℕ) (xs : Elems) (o : Option FnDecl)
    → slice_get S.fns f ≡ o → gives o s ≡ true → are_elems S M.sizes (takes o) xs ≡ true → is_elem S M.sizes s (apply (slice_get M.fns f) xs) ≡ true
fn_known S M k added w f s xs None e h a = no h
fn_known S M k added w f s xs (Some d) e h a = subst (λ r. is_elem S M.sizes r (apply (slice_get M.fns f) xs) ≡ true) (eqb-true d.result s h) (w.functions f d e xs a)

pub nth_sorted : (S : Signature) (z : List ℕ) (ss : List ℕ) (xs : Elems) (i s : ℕ) → are_elems S z ss xs ≡ true → slice_get ss i ≡ Some s → is_elem S z s (nth_elem xs i) ≡ true
nth_sorted S z [] xs i s h e = absurd cc
nth_sorted S z (r ∷ ss) no_elem i s h e = no h
nth_sorted S z (r ∷ ss) (also_elem x xs) zero s h e = subst (λ q. is_elem S z q x ≡ true) (same_Some r s e) (and_parts (is_elem S z r x) (are_elems S z ss xs) h).0
nth_sorted S z (r ∷ ss) (also_elem x xs) (suc i) s h e = nth_sorted S z ss xs i s (and_parts (is_elem S z r x) (are_elems S z ss xs) h).1 e

made_sort : (S : Signature) (M : Structure) (c d i s : ℕ) (xs : Elems) (b : Bool) → eqb d c ≡ b → slice_get (fields_of (slice_get S.cons c)) i ≡ Some s
    → are_elems S M.sizes (fields_of (slice_get S.cons d)) xs ≡ true → is_elem S M.sizes s (elsewhere S M c i (Made d xs)) ≡ true
    → is_elem S M.sizes s (cond b (nth_elem xs i) (elsewhere S M c i (Made d xs))) ≡ true
made_sort S M c d i s xs true q e a h = nth_sorted S M.sizes (fields_of (slice_get S.cons c)) xs i s (subst (λ x. are_elems S M.sizes (fields_of (slice_get S.cons x)) xs ≡ true) (eqb-true d c q) a) e
made_sort S M c d i s xs false q e a h = h

pub select_sort : (v : Elem) (S : Signature) (M : Structure) (k : ℕ → Elem) (added : List NewConst) (c i s : ℕ) → Fits S M k added → slice_get (fields_of (slice_get S.cons c)) i ≡ Some s
    → is_elem S M.sizes (sort_of_con (slice_get S.cons c)) v ≡ true → is_elem S M.sizes s (select S M c i v) ≡ true
select_sort (Point n) S M k added c i s w e h = w.selectors c i s e (Point n) h
select_sort (Whole z) S M k added c i s w e h = w.selectors c i s e (Whole z) h
select_sort (Text b) S M k added c i s w e h = w.selectors c i s e (Text b) h
select_sort (Made d xs) S M k added c i s w e h =
    made_sort S M c d i s xs (eqb d c) refl e
    (and_parts (is_con_of (slice_get S.cons d) (sort_of_con (slice_get S.cons c))) (are_elems S M.sizes (fields_of (slice_get S.cons d)) xs) h).1
    (w.selectors c i s e (Made d xs) h)

mutual
  pub value_sort : (t : Tm) (S : Signature) (M : Structure) (k : ℕ → Elem) (added : List NewConst) (scope : List ℕ) (vars : List Elem) (s : ℕ) → Fits S M k added → AreIn S M scope vars → has_sort S added scope s t ≡ true
      → is_elem S M.sizes s (value (meaning_with S M k) vars t) ≡ true
  value_sort (Var n) S M k added scope vars s w i h = i n s (sort_known (slice_get scope n) s h)
  value_sort (Const c) S M k added scope vars s w i h = w.constants c s (sort_known (const_sort S added c) s h)
  value_sort (Fn f ts) S M k added scope vars s w i h =
      let b = and_parts (gives (slice_get S.fns f) s) (have_sorts S added scope (takes (slice_get S.fns f)) ts) h in
      fn_known S M k added w f s (values (meaning_with S M k) vars ts) (slice_get S.fns f) refl b.0 (value_sorts ts S M k added scope vars (takes (slice_get S.fns f)) w i b.1)
  value_sort (Int z) S M k added scope vars s w i h = h
  value_sort (Str y) S M k added scope vars s w i h = h
  value_sort (Con c ts) S M k added scope vars s w i h =
      let b = and_parts (is_con_of (slice_get S.cons c) s) (have_sorts S added scope (fields_of (slice_get S.cons c)) ts) h in
      and_from (is_con_of (slice_get S.cons c) s) (are_elems S M.sizes (fields_of (slice_get S.cons c)) (values (meaning_with S M k) vars ts)) b.0
      (value_sorts ts S M k added scope vars (fields_of (slice_get S.cons c)) w i b.1)
  value_sort (Sel c j t) S M k added scope vars s w i h =
      let b = and_parts (is_sort (slice_get (fields_of (slice_get S.cons c)) j) s) (has_sort S added scope (sort_of_con (slice_get S.cons c)) t) h in
      select_sort (value (meaning_with S M k) vars t) S M k added c j s w (sort_known (slice_get (fields_of (slice_get S.cons c)) j) s b.0)
      (value_sort t S M k added scope vars (sort_of_con (slice_get S.cons c)) w i b.1)
  value_sort (Plus t z) S M k added scope vars s w i h = (and_parts (is_int (slice_get S.sorts s)) (has_sort S added scope s t) h).0

  pub value_sorts : (ts : Tms) (S : Signature) (M : Structure) (k : ℕ → Elem) (added : List NewConst) (scope : List ℕ) (vars : List Elem) (ss : List ℕ) → Fits S M k added → AreIn S M scope vars → have_sorts S added scope ss ts ≡ true
      → are_elems S M.sizes ss (values (meaning_with S M k) vars ts) ≡ true
  value_sorts no_tm S M k added scope vars [] w i h = refl
  value_sorts no_tm S M k added scope vars (s ∷ ss) w i h = h
  value_sorts (also_tm t ts) S M k added scope vars [] w i h = h
  value_sorts (also_tm t ts) S M k added scope vars (s ∷ ss) w i h =
      let b = and_parts (has_sort S added scope s t) (have_sorts S added scope ss ts) h in
      and_from (is_elem S M.sizes s (value (meaning_with S M k) vars t)) (are_elems S M.sizes ss (values (meaning_with S M k) vars ts)) (value_sort t S M k added scope vars s w i b.0) (value_sorts ts S M k added scope vars ss w i b.1)
