-- What an elimination makes is well sorted.
use Rattle.std.proofs.Common.{◌≡◌, ℕ, zero, suc, ◌+◌, List, [], ◌∷◌, slice_get, true, Option, Some, None, sym, refl, ap, ◌∙◌, subst, eqb-true, eq-eqb, inl, inr, arith}
use Rattle.std.proofs.lemmas.Bool.{and_parts, and_from}
use Rattle.std.proofs.lemmas.Option.{same_Some}
use Rattle.rp_logic.specs.declared.sort.NewConst.{NewConst}
use Rattle.rp_logic.specs.declared.sort.LogicCon.{LogicCon}
use Rattle.rp_logic.specs.Terms.{Tm, Tms, Var, Const, Fn, Int, Str, Con, Sel, Plus, no_tm, also_tm}
use Rattle.rp_logic.specs.Formulas.{Fm, Fms}
use Rattle.rp_logic.specs.Signatures.{Signature, is_con_of, fields_of}
use Rattle.rp_logic.specs.Sorted.{has_sort, have_sorts, is_sort, sort_of_con, IsSorted, AreSorted}
use Rattle.rp_logic.specs.Dual.{duals}
use Rattle.rp_logic.proofs.SortLaws.{no}
use Rattle.rp_logic.proofs.DualSorts.{dual-sorted, duals-sorted}
use Rattle.rp_logic.proofs.KeptSorts.{instead-sorted}
use Rattle.rp_logic.proofs.Options.{mapped}
use Rattle.reshape.specs.Determining.{found, found_among}
use Rattle.reshape.specs.Eliminating.{eliminated, eliminated_some}
use Rattle.reshape.proofs.ReshapeLaws.{either-found}
use Rattle.reshape.proofs.PassLaws.{parts-tell}

con-sort : (o : Option LogicCon) (d : ℕ) → is_con_of o d ≡ true → sort_of_con o ≡ d
con-sort None d h = no h
con-sort (Some con) d h = eqb-true con.sort d h

mutual
  pub found-sorted : (b u w : Tm) (S : Signature) (added : List NewConst) (scope : List ℕ) (s d : ℕ) → found b u ≡ Some w → has_sort S added (s ∷ scope) d b ≡ true → has_sort S added scope d u ≡ true → has_sort S added scope s w ≡ true
  found-sorted (Var zero) u w S added scope s d e h k = subst (λ w. has_sort S added scope s w ≡ true) (same_Some u w e) (subst (λ d. has_sort S added scope d u ≡ true) (sym (eqb-true s d h)) k)
  found-sorted (Con con args) u w S added scope s d e h k =
      let b = and_parts (is_con_of (slice_get S.cons con) d) (have_sorts S added (s ∷ scope) (fields_of (slice_get S.cons con)) args) h in
      found-among-sorted args con 0 u w S added scope s (fields_of (slice_get S.cons con)) e b.1
      (subst (λ d. has_sort S added scope d u ≡ true) (sym (con-sort (slice_get S.cons con) d b.0)) k) (λ j. ap (slice_get (fields_of (slice_get S.cons con))) (omega arith))
  found-sorted (Var (suc n)) u w S added scope s d e h k = absurd cc
  found-sorted (Const c) u w S added scope s d e h k = absurd cc
  found-sorted (Fn f args) u w S added scope s d e h k = absurd cc
  found-sorted (Int n) u w S added scope s d e h k = absurd cc
  found-sorted (Str b) u w S added scope s d e h k = absurd cc
  found-sorted (Sel c j t) u w S added scope s d e h k = absurd cc
  found-sorted (Plus t n) u w S added scope s d e h k = absurd cc

  found-among-sorted : (ts : Tms) (con i : ℕ) (u w : Tm) (S : Signature) (added : List NewConst) (scope : List ℕ) (s : ℕ) (ss : List ℕ) → found_among ts con i u ≡ Some w → have_sorts S added (s ∷ scope) ss ts ≡ true
      → has_sort S added scope (sort_of_con (slice_get S.cons con)) u ≡ true → ((j : ℕ) → slice_get (fields_of (slice_get S.cons con)) (i + j) ≡ slice_get ss j) → has_sort S added scope s w ≡ true
  found-among-sorted no_tm con i u w S added scope s ss e h k n = absurd cc
  found-among-sorted (also_tm t ts) con i u w S added scope s [] e h k n = no h
  found-among-sorted (also_tm t ts) con i u w S added scope s (d ∷ ss) e h k n =
      let b = and_parts (has_sort S added (s ∷ scope) d t) (have_sorts S added (s ∷ scope) ss ts) h in
      let field : slice_get (fields_of (slice_get S.cons con)) i ≡ Some d = ap (slice_get (fields_of (slice_get S.cons con))) (omega arith) ∙ n 0 in
      elim (either-found (found t (Sel con i u)) (found_among ts con (suc i) u) w e) [
        | inl is ↦ found-sorted t (Sel con i u) w S added scope s d is b.0 (and_from (is_sort (slice_get (fields_of (slice_get S.cons con)) i) d) _ (ap (λ o. is_sort o d) field ∙ eq-eqb d d refl) k)
        | inr is ↦ found-among-sorted ts con (suc i) u w S added scope s ss is b.1 k (λ j. ap (slice_get (fields_of (slice_get S.cons con))) (omega arith) ∙ n (suc j))
      ]

pub eliminated-sorted : (S : Signature) (added : List NewConst) (scope : List ℕ) (s : ℕ) (parts : Fms) (g : Fm) → AreSorted S added (s ∷ scope) parts → eliminated parts ≡ Some g → IsSorted S added scope g
eliminated-sorted S added scope s parts g h e =
    let w = mapped _ _ g e in
    let t = parts-tell S added scope s parts w.0 h w.1 in
    let k = t.2 in
    subst (λ g. IsSorted S added scope g) w.2 (instead-sorted S added scope s w.0 parts (found-sorted k.b k.u w.0 S added scope s k.sort k.found_is k.right k.left) h)

pub some-eliminated-sorted : (S : Signature) (added : List NewConst) (scope : List ℕ) (s : ℕ) (parts : Fms) (g : Fm) → AreSorted S added (s ∷ scope) parts → eliminated_some parts ≡ Some g → IsSorted S added scope g
some-eliminated-sorted S added scope s parts g h e =
    let k = mapped _ _ g e in
    subst (λ g. IsSorted S added scope g) k.2 (dual-sorted k.0 S added scope (eliminated-sorted S added scope s (duals parts) k.0 (duals-sorted parts S added (s ∷ scope) h) k.1))
