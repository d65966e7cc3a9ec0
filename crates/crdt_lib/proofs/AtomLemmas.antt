-- Numbers sorted, each kept once.
use Rattle.std.proofs.Common.{ℕ, ◌↔◌, List, [], eqb, Contains, IsPermutation, IsSorted, sym, subst}
use Rattle.std.specs.List.Retain.{IsFiltered, DiffersFromLast}
use Rattle.std.specs.List.Sorted.{IsStrictlyIncreasing}
use Rattle.std.specs.Ordering.{nat_cmp}
use Rattle.std.proofs.lemmas.List.Filters.{dedup_is}
use Rattle.std.proofs.lemmas.List.Kept.{Contains-dedup_nat, Contains-from_dedup}
use Rattle.std.proofs.lemmas.List.Sorted.{Contains-permutation, IsPermutation-sym}
use Rattle.std.proofs.lemmas.Map.Keys.{IsStrictlyIncreasing-dedup}

pub once_ascending : (ys zs : List ℕ) → IsSorted nat_cmp ys → IsFiltered (DiffersFromLast eqb) [] ys zs → IsStrictlyIncreasing zs
once_ascending ys zs sorted once = subst IsStrictlyIncreasing (sym (dedup_is eqb ys zs once)) (IsStrictlyIncreasing-dedup ys sorted)

pub once_same : (xs ys zs : List ℕ) → IsPermutation xs ys → IsFiltered (DiffersFromLast eqb) [] ys zs → (n : ℕ) → Contains zs n ↔ Contains xs n
once_same xs ys zs moved once n =
    let is = dedup_is eqb ys zs once in (
      λ here. Contains-permutation ys xs n (IsPermutation-sym xs ys moved) (Contains-from_dedup eqb ys n (subst (λ l. Contains l n) is here)),
      λ here. subst (λ l. Contains l n) (sym is) (Contains-dedup_nat ys n (Contains-permutation xs ys n moved here)),
    )
