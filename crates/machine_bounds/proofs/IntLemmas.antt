-- Bounds of sums and differences of integers.
use Rattle.std.proofs.Common.{◌≡◌, ℕ, zero, suc, ◌+◌, ◌*◌, ◌≤◌, Bool, true, false, ℤ, pos, negsuc, neg_ℤ, ◌+ℤ◌, ◌-ℤ◌, ◌≤ℤ◌, if◌then◌else◌, List, length, slice_get, arith}
use Rattle.std.proofs.lemmas.Int.{ints}
use Rattle.rp_lang.specs.declared.op.OpDecl.{OpDecl}
use Rattle.rp_lang.specs.Typing.{is_word}
use Rattle.crdt_defs.specs.Atoms.{in_range}
use Rattle.crdt_defs.specs.Calls.{Call}
use Rattle.crdt_defs.specs.Counting.{sum_below}
use Rattle.crdt_defs.specs.Doing.{amount}
use Rattle.crdt_defs.specs.Histories.{IsHistory}
use Rattle.crdt_defs.specs.Meaning.{counter_sum}
use Rattle.crdt_lib.proofs.AmountLemmas.{amount_least, amount_most}
use Rattle.crdt_truth.specs.Within.{fits}
use Rattle.machine_bounds.specs.Bounded.{IntWithin}

pub word-within : (n : ℤ) → is_word n ≡ true → IntWithin 1 n
word-within n h = (grind (arith, ints), grind (arith, ints))

pub range-within : (n : ℤ) → in_range n ≡ true → IntWithin 1 n
range-within n h = (grind (arith, ints), grind (arith, ints))

pub zero-within : (w : ℕ) → IntWithin w (pos 0)
zero-within w = (omega (arith, ints), omega (arith, ints))

pub grown : (x y : ℕ) (n : ℤ) → x ≤ y → IntWithin x n → IntWithin y n
grown x y n l (low, high) = (omega (arith, ints), omega (arith, ints))

pub sum-within : (x y : ℕ) (a b : ℤ) → IntWithin x a → IntWithin y b → IntWithin (x + y) (a +ℤ b)
sum-within x y a b (low, high) (low', high') = (omega (arith, ints), omega (arith, ints))

pub difference-within : (x y : ℕ) (a b : ℤ) → IntWithin x a → IntWithin y b → IntWithin (x + y) (a -ℤ b)
difference-within x y a b (low, high) (low', high') = (omega (arith, ints), omega (arith, ints))

-- 100,000 nodes stay within 128 bits
pub fits-within : (w : ℕ) (n : ℤ) → w ≤ 100000 → IntWithin w n → fits n ≡ true
fits-within w (pos n) l (low, high) = grind (arith, ints)
fits-within w (negsuc n) l (low, high) = grind (arith, ints)

-- # Counters

least-sum : (f : ℕ → ℤ) → ((c : ℕ) → negsuc 9223372036854775807 ≤ℤ f c) → (n : ℕ) → neg_ℤ (pos (n * 9223372036854775808)) ≤ℤ sum_below f n
least-sum f each zero = omega (arith, ints)
least-sum f each (suc n) = let rest = least-sum f each n in let here = each n in omega (arith, ints)

most-sum : (f : ℕ → ℤ) → ((c : ℕ) → f c ≤ℤ pos 9223372036854775807) → (n : ℕ) → sum_below f n ≤ℤ pos (n * 9223372036854775808)
most-sum f each zero = omega (arith, ints)
most-sum f each (suc n) = let rest = most-sum f each n in let here = each n in omega (arith, ints)

least-counted : (b : Bool) (n : ℤ) → negsuc 9223372036854775807 ≤ℤ n → negsuc 9223372036854775807 ≤ℤ (if b then n else pos 0)
least-counted true n h = h
least-counted false n h = omega (arith, ints)

most-counted : (b : Bool) (n : ℤ) → n ≤ℤ pos 9223372036854775807 → (if b then n else pos 0) ≤ℤ pos 9223372036854775807
most-counted true n h = h
most-counted false n h = omega (arith, ints)

pub counter-within : (ops : List OpDecl) (h : List Call) (counted : ℕ → Bool) → IsHistory h → IntWithin 1 (counter_sum ops h counted)
counter-within ops h counted history =
    let few = history.few in
    let low = least-sum (λ c. if counted c then amount ops (slice_get h c) else pos 0) (λ c. least-counted (counted c) _ (amount_least ops h c history)) (length h) in
    let high = most-sum (λ c. if counted c then amount ops (slice_get h c) else pos 0) (λ c. most-counted (counted c) _ (amount_most ops h c history)) (length h) in
    (omega (arith, ints), omega (arith, ints))
