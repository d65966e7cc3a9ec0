-- A term that has a sort with no variable open is closed, and its value is an element of the sort.
use Rattle.std.proofs.Common.{◌≡◌, ℕ, List, [], ◌∷◌, true, refl, slice_get}
use Rattle.std.proofs.lemmas.Bool.{and_parts, and_from}
use Rattle.std.proofs.lemmas.Option.{none-some}
use Rattle.rp_logic.specs.declared.sort.NewConst.{NewConst}
use Rattle.rp_logic.specs.Terms.{Tm, Tms, Var, Const, Fn, Int, Str, Con, Sel, Plus, no_tm, also_tm, is_closed, are_closed}
use Rattle.rp_logic.specs.Signatures.{Signature, is_int, is_con_of, fields_of}
use Rattle.rp_logic.specs.Sorted.{is_sort, gives, takes, sort_of_con, has_sort, have_sorts}
use Rattle.rp_logic.specs.Elements.{Elem}
use Rattle.rp_logic.specs.Structures.{Structure, Fits, is_elem}
use Rattle.rp_logic.specs.Truth.{meaning_with, value}
use Rattle.rp_logic.proofs.OpenSorts.{value_sort}
use Rattle.rp_logic.proofs.SortLaws.{no}

mutual
  pub closed_of_sort : (t : Tm) (S : Signature) (added : List NewConst) (s : ℕ) → has_sort S added [] s t ≡ true → is_closed t ≡ true
  closed_of_sort (Var n) S added s h = h
  closed_of_sort (Const c) S added s h = refl
  closed_of_sort (Fn f ts) S added s h = closed_of_sorts ts S added (takes (slice_get S.fns f)) (and_parts (gives (slice_get S.fns f) s) (have_sorts S added [] (takes (slice_get S.fns f)) ts) h).1
  closed_of_sort (Int z) S added s h = refl
  closed_of_sort (Str b) S added s h = refl
  closed_of_sort (Con c ts) S added s h = closed_of_sorts ts S added (fields_of (slice_get S.cons c)) (and_parts (is_con_of (slice_get S.cons c) s) (have_sorts S added [] (fields_of (slice_get S.cons c)) ts) h).1
  closed_of_sort (Sel c i t) S added s h = closed_of_sort t S added (sort_of_con (slice_get S.cons c)) (and_parts (is_sort (slice_get (fields_of (slice_get S.cons c)) i) s) (has_sort S added [] (sort_of_con (slice_get S.cons c)) t) h).1
  closed_of_sort (Plus t k) S added s h = closed_of_sort t S added s (and_parts (is_int (slice_get S.sorts s)) (has_sort S added [] s t) h).1

  pub closed_of_sorts : (ts : Tms) (S : Signature) (added : List NewConst) (ss : List ℕ) → have_sorts S added [] ss ts ≡ true → are_closed ts ≡ true
  closed_of_sorts no_tm S added ss h = refl
  closed_of_sorts (also_tm t ts) S added [] h = no h
  closed_of_sorts (also_tm t ts) S added (s ∷ ss) h =
      let b = and_parts (has_sort S added [] s t) (have_sorts S added [] ss ts) h in
      and_from (is_closed t) (are_closed ts) (closed_of_sort t S added s b.0) (closed_of_sorts ts S added ss b.1)

pub closed_value : (t : Tm) (S : Signature) (M : Structure) (k : ℕ → Elem) (added : List NewConst) (s : ℕ) → Fits S M k added → has_sort S added [] s t ≡ true
    → is_elem S M.sizes s (value (meaning_with S M k) [] t) ≡ true
closed_value t S M k added s w h = value_sort t S M k added [] [] s w (λ n r e. absurd (none-some r e)) h
