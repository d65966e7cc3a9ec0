-- The bits of a word as truths.
use Rattle.std.proofs.Common.{◌≡◌, ℕ, zero, suc, ◌-◌, ◌*◌, ◌%◌, ◌^◌, ◌<◌, min, max, Bool, true, false, not, ◌&&◌, ◌||◌, nat_eq, nat_lt, bit_and, bit_or, ◌⊎◌, inl, inr, w64, refl, sym, ap, ◌∙◌, arith, eqb-true}
use Rattle.std.proofs.lemmas.Bool.{eqb-false}
use Rattle.std.specs.Prelude.{if◌then◌else◌}
use Rattle.std.specs.Int.{bit_at, bit_not}
use Rattle.std.proofs.lemmas.Bool.Decides.{leb_tells}
use Rattle.std.proofs.lemmas.Nat.{one_shl}
use Rattle.std.proofs.lemmas.Nat.Bits.{bit_at_and, bit_at_or, bit_at_not, bit_at-lt, bit_at-pow_same, bit_at-pow_other, bit_at_ones, bit_at_ones_above, bit_at-zero}
use Rattle.type_tables.specs.Flags.{one_at, mixed}

-- a number below 2 is 0 or 1
two : (P : ℕ → Type 0) → P 0 → P 1 → (n : ℕ) → n < 2 → P n
two P a b zero h = a
two P a b (suc zero) h = b
two P a b (suc (suc n)) h = absurd (omega arith)

least : (x y : ℕ) → x < 2 → y < 2 → nat_eq (min x y) 1 ≡ (nat_eq x 1 && nat_eq y 1)
least x y h g =
    two (λ x. nat_eq (min x y) 1 ≡ (nat_eq x 1 && nat_eq y 1))
    (two (λ y. nat_eq (min 0 y) 1 ≡ (nat_eq 0 1 && nat_eq y 1)) refl refl y g)
    (two (λ y. nat_eq (min 1 y) 1 ≡ (nat_eq 1 1 && nat_eq y 1)) refl refl y g)
    x
    h

greatest : (x y : ℕ) → x < 2 → y < 2 → nat_eq (max x y) 1 ≡ (nat_eq x 1 || nat_eq y 1)
greatest x y h g =
    two (λ x. nat_eq (max x y) 1 ≡ (nat_eq x 1 || nat_eq y 1))
    (two (λ y. nat_eq (max 0 y) 1 ≡ (nat_eq 0 1 || nat_eq y 1)) refl refl y g)
    (two (λ y. nat_eq (max 1 y) 1 ≡ (nat_eq 1 1 || nat_eq y 1)) refl refl y g)
    x
    h

other : (x : ℕ) → x < 2 → nat_eq (1 - x) 1 ≡ not (nat_eq x 1)
other x h = two (λ x. nat_eq (1 - x) 1 ≡ not (nat_eq x 1)) refl refl x h

one_and : (a b i : ℕ) → one_at (bit_and a b) i ≡ (one_at a i && one_at b i)
one_and a b i = ap (λ n. nat_eq n 1) (bit_at_and a b i) ∙ least (bit_at a i) (bit_at b i) (bit_at-lt a i) (bit_at-lt b i)

one_or : (a b i : ℕ) → one_at (bit_or a b) i ≡ (one_at a i || one_at b i)
one_or a b i = ap (λ n. nat_eq n 1) (bit_at_or a b i) ∙ greatest (bit_at a i) (bit_at b i) (bit_at-lt a i) (bit_at-lt b i)

one_not : (n i : ℕ) → n < 2 ^ 64 → i < 64 → one_at (bit_not w64 n) i ≡ not (one_at n i)
one_not n i h g = ap (λ n. nat_eq n 1) (bit_at_not w64 n i h g) ∙ other (bit_at n i) (bit_at-lt n i)

one_power : (p i : ℕ) → one_at (2 ^ p) i ≡ nat_eq i p
one_power p i = by (nat_eq i p) refl
  where
    by : (b : Bool) → nat_eq i p ≡ b → one_at (2 ^ p) i ≡ b
    by true e = ap (one_at (2 ^ p)) (eqb-true i p e) ∙ ap (λ n. nat_eq n 1) (bit_at-pow_same p)
    by false e = ap (λ n. nat_eq n 1) (bit_at-pow_other p i (λ q. eqb-false i p e q))

one_bit : (p i : ℕ) → p < 64 → one_at (1 * 2 ^ p % 2 ^ 64) i ≡ nat_eq i p
one_bit p i h = ap (λ n. one_at n i) (one_shl p 64 h) ∙ one_power p i

pub one_ones : (k i : ℕ) → one_at (2 ^ k - 1) i ≡ nat_lt i k
one_ones k i = by (leb_tells (suc i) k)
  where
    by : ((nat_lt i k ≡ true) × (i < k)) ⊎ ((nat_lt i k ≡ false) × (k < suc i)) → one_at (2 ^ k - 1) i ≡ nat_lt i k
    by (inl h) = ap (λ n. nat_eq n 1) (bit_at_ones k i h.1) ∙ sym h.0
    by (inr h) = ap (λ n. nat_eq n 1) (bit_at_ones_above k i (omega arith)) ∙ sym h.0

pub one_none : (i : ℕ) → one_at 0 i ≡ false
one_none i = ap (λ n. nat_eq n 1) (bit_at-zero i)

-- # What the code computes

raised : (a q : Bool) → (a || q) ≡ (if q then true else a)
raised true true = refl
raised true false = refl
raised false true = refl
raised false false = refl

lowered : (a q : Bool) → (a && not q) ≡ (if q then false else a)
lowered true true = refl
lowered true false = refl
lowered false true = refl
lowered false false = refl

pub set_is : (w p i : ℕ) (b : Bool) → b ≡ true → p < 64
    → one_at (bit_or w (1 * 2 ^ p % 2 ^ 64)) i ≡ (if nat_eq i p then b else one_at w i)
set_is w p i b e h =
    one_or w (1 * 2 ^ p % 2 ^ 64) i ∙ ap (λ b. one_at w i || b) (one_bit p i h) ∙ raised (one_at w i) (nat_eq i p)
    ∙ ap (λ b. if nat_eq i p then b else one_at w i) (sym e)

pub cleared_is : (w p i : ℕ) (b : Bool) → b ≡ false → p < 64 → i < 64
    → one_at (bit_and w (bit_not w64 (1 * 2 ^ p % 2 ^ 64))) i ≡ (if nat_eq i p then b else one_at w i)
cleared_is w p i b e h g =
    let below : 1 * 2 ^ p % 2 ^ 64 < 2 ^ 64 = omega arith in
    one_and w (bit_not w64 (1 * 2 ^ p % 2 ^ 64)) i
    ∙ ap (λ b. one_at w i && b) (one_not (1 * 2 ^ p % 2 ^ 64) i below g ∙ ap not (one_bit p i h))
    ∙ lowered (one_at w i) (nat_eq i p) ∙ ap (λ b. if nat_eq i p then b else one_at w i) (sym e)

pub ones_below : (k i : ℕ) → k < 64 → one_at (1 * 2 ^ k % 2 ^ 64 - 1) i ≡ nat_lt i k
ones_below k i h = ap (λ n. one_at (n - 1) i) (one_shl k 64 h) ∙ one_ones k i

joins : (m a b : Bool) → (a && (b || not m)) ≡ mixed true m a b
joins true true true = refl
joins true true false = refl
joins true false b = refl
joins false true true = refl
joins false true false = refl
joins false false b = refl

puts : (m a b : Bool) → ((a && not m) || (b && m)) ≡ mixed false m a b
puts true true true = refl
puts true true false = refl
puts true false true = refl
puts true false false = refl
puts false true true = refl
puts false true false = refl
puts false false true = refl
puts false false false = refl

pub joined_is : (both : Bool) → both ≡ true → (a b m i : ℕ) → m < 2 ^ 64 → i < 64
    → one_at (bit_and a (bit_or b (bit_not w64 m))) i ≡ mixed both (one_at m i) (one_at a i) (one_at b i)
joined_is both e a b m i h g =
    one_and a (bit_or b (bit_not w64 m)) i
    ∙ ap (λ q. one_at a i && q) (one_or b (bit_not w64 m) i ∙ ap (λ q. one_at b i || q) (one_not m i h g))
    ∙ joins (one_at m i) (one_at a i) (one_at b i)
    ∙ ap (λ both. mixed both (one_at m i) (one_at a i) (one_at b i)) (sym e)

pub put_is : (both : Bool) → both ≡ false → (a b m i : ℕ) → m < 2 ^ 64 → i < 64
    → one_at (bit_or (bit_and a (bit_not w64 m)) (bit_and b m)) i ≡ mixed both (one_at m i) (one_at a i) (one_at b i)
put_is both e a b m i h g =
    one_or (bit_and a (bit_not w64 m)) (bit_and b m) i
    ∙ ap (λ q. q || one_at (bit_and b m) i) (one_and a (bit_not w64 m) i ∙ ap (λ q. one_at a i && q) (one_not m i h g))
    ∙ ap (λ q. (one_at a i && not (one_at m i)) || q) (one_and b m i)
    ∙ puts (one_at m i) (one_at a i) (one_at b i)
    ∙ ap (λ both. mixed both (one_at m i) (one_at a i) (one_at b i)) (sym e)
