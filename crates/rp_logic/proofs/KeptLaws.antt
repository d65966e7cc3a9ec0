-- The sorts from one place on list constructors of their own.
use Rattle.std.proofs.Common.{◌≡◌, ◌<◌, ◌+◌, ℕ, zero, suc, List, [], ◌∷◌, length, drop, slice_get, true, false, ◌&&◌, refl, ap, sym, ◌∙◌, arith}
use Rattle.rp_logic.specs.declared.sort.Sort.{Sort}
use Rattle.rp_logic.specs.declared.sort.LogicCon.{LogicCon}
use Rattle.rp_logic.specs.Signatures.{listed, are_own, list_their_own}

own_from : (cons : List LogicCon) (sorts : List Sort) (k s : ℕ) → s < length sorts
    → list_their_own cons k (drop s sorts) ≡ are_own cons k (listed (slice_get sorts s)) && list_their_own cons (suc k) (drop (s + 1) sorts)
own_from cons [] k s h = absurd (omega arith)
own_from cons (x ∷ xs) k zero h = refl
own_from cons (x ∷ xs) k (suc s) h = let e : suc s + 1 ≡ suc (s + 1) = omega arith in rw e (own_from cons xs k s (omega arith))

pub own_refused : (cons : List LogicCon) (sorts : List Sort) (s : ℕ) (numbers : List ℕ) → list_their_own cons 0 sorts ≡ list_their_own cons s (drop s sorts)
    → numbers ≡ listed (slice_get sorts s) → false ≡ are_own cons s numbers → s < length sorts → false ≡ list_their_own cons 0 sorts
own_refused cons sorts s numbers i n h lt =
    ap (λ b. b && list_their_own cons (suc s) (drop (s + 1) sorts)) (h ∙ ap (are_own cons s) n) ∙ sym (own_from cons sorts s s lt) ∙ sym i

pub own_so_far : (cons : List LogicCon) (sorts : List Sort) (s : ℕ) (numbers : List ℕ) → list_their_own cons 0 sorts ≡ list_their_own cons s (drop s sorts)
    → numbers ≡ listed (slice_get sorts s) → true ≡ are_own cons s numbers → s < length sorts
    → list_their_own cons 0 sorts ≡ list_their_own cons (s + 1) (drop (s + 1) sorts)
own_so_far cons sorts s numbers i n h lt =
    let next : suc s ≡ s + 1 = omega arith in
    i ∙ own_from cons sorts s s lt ∙ ap (λ b. b && list_their_own cons (suc s) (drop (s + 1) sorts)) (sym (h ∙ ap (are_own cons s) n))
    ∙ ap (λ k. list_their_own cons k (drop (s + 1) sorts)) next
