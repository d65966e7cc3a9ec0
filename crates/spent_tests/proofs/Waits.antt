-- Levels that a rank waits for.
use Rattle.std.proofs.Common.{◌≡◌, ◌≢◌, ◌≤◌, ◌<◌, ℕ, zero, suc, ◌+◌, ◌-◌, Bool, true, false, ◌&&◌, ◌||◌, leb, refl, ap, ap₂, sym, ◌∙◌, arith}
use Rattle.std.specs.List.{list_all, range_with_len}
use Rattle.std.proofs.lemmas.Bool.{le-leb, leb-true}
use Rattle.rp_logic.specs.Signatures.{Signature}
use Rattle.spent_defs.specs.Ranks.{Ranked}
use Rattle.spent_defs.specs.Complete.{is_complete}
use Rattle.spent_defs.specs.Conditions.{waits_for}

or_right : (a b : Bool) → b ≡ true → a || b ≡ true
or_right true b e = refl
or_right false b e = e

gt-leb : (m n : ℕ) → n < m → leb m n ≡ false
gt-leb m n l = go (leb m n) refl
  where
    go : (x : Bool) → leb m n ≡ x → x ≡ false
    go true e = let a = leb-true m n e in absurd (omega (arith, a, l))
    go false e = refl

pub none_left : (S : Signature) (b : Ranked) (rank r n : ℕ) → n ≡ 0
    → true ≡ list_all (waits_for S b rank) (range_with_len r n)
none_left S b rank r zero e = refl
none_left S b rank r (suc n) e = absurd cc

pub late : (S : Signature) (b : Ranked) (rank r n : ℕ) → rank ≤ r + 1
    → true ≡ list_all (waits_for S b rank) (range_with_len r n)
late S b rank r zero h = refl
late S b rank r (suc n) h =
    late S b rank (r + 1) n (omega arith)
    ∙ sym (ap (λ x. (x || is_complete S b r) && list_all (waits_for S b rank) (range_with_len (r + 1) n))
    (le-leb rank (suc r) (omega arith)))

-- the next level, and those behind it
pub next_level : (S : Signature) (b : Ranked) (rank r n : ℕ) (is rest : Bool) → n ≢ 0
    → is ≡ is_complete S b r → is ≡ true
    → rest ≡ list_all (waits_for S b rank) (range_with_len (r + 1) (n - 1))
    → rest ≡ list_all (waits_for S b rank) (range_with_len r n)
next_level S b rank r zero is rest h e g k = absurd (h refl)
next_level S b rank r (suc n) is rest h e g k =
    let c : suc n - 1 ≡ n = omega arith in
    k ∙ ap (λ m. list_all (waits_for S b rank) (range_with_len (r + 1) m)) c
    ∙ ap (λ x. x && list_all (waits_for S b rank) (range_with_len (r + 1) n))
    (sym (or_right (leb rank (suc r)) (is_complete S b r) (sym e ∙ g)))

pub open_level : (S : Signature) (b : Ranked) (rank r n : ℕ) (is : Bool) → n ≢ 0
    → is ≡ is_complete S b r → is ≡ false → r + 1 < rank
    → false ≡ list_all (waits_for S b rank) (range_with_len r n)
open_level S b rank r zero is h e g l = absurd (h refl)
open_level S b rank r (suc n) is h e g l =
    sym (ap₂ (λ x y. (x || y) && list_all (waits_for S b rank) (range_with_len (r + 1) n))
    (gt-leb rank (suc r) (omega arith)) (sym e ∙ g))

pub ruleset waiting = (none_left, late, next_level, open_level)
