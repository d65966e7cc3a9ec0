-- Rows of truths that are kept in words.
use Rattle.std.proofs.Common.{◌≡◌, ℕ, zero, suc, ◌+◌, ◌-◌, ◌*◌, ◌/◌, ◌%◌, ◌^◌, ◌<◌, ◌≤◌, min, Bool, true, false, ◌||◌, nat_eq, nat_lt, bit_and, List, [], ◌∷◌, ◌++◌, length, map, take, set, replicate, get_or, refl, sym, ap, ap₂, ◌∙◌, arith, eq-eqb, lt-ltb}
use Rattle.std.specs.Prelude.{if◌then◌else◌}
use Rattle.std.proofs.lemmas.Bool.Decides.{nat_tests}
use Rattle.std.proofs.lemmas.Nat.Bits.{shr_and_one}
use Rattle.std.proofs.lemmas.List.{get_or_default, get_or-replicate, get_or-set_same, get_or-set_other}
use Rattle.type_tables.specs.Flags.{flag_at, flags_from, merged, mixed, one_at, truth_at, with_flag}
use Rattle.type_tables.proofs.Bits.{one_ones}

differ : (a b : ℕ) → (a ≡ b → ⊥) → nat_eq a b ≡ false
differ a b h = grind (arith, nat_tests)

not_below : (a b : ℕ) → b ≤ a → nat_lt a b ≡ false
not_below a b h = grind (arith, nat_tests)

pub length_flags : (ws : List ℕ) (k n : ℕ) → length (flags_from ws k n) ≡ n
length_flags ws k zero = refl
length_flags ws k (suc n) = ap suc (length_flags ws (suc k) n)

-- what stands at a place
pub read_flag : (ws : List ℕ) (k n j i : ℕ) → k + j ≡ i
    → flag_at (flags_from ws k n) j ≡ (if nat_lt j n then truth_at ws i else false)
read_flag ws k zero j i e = ap (λ q. if q then truth_at ws i else false) (sym (not_below j 0 (omega arith)))
read_flag ws k (suc n) zero i e =
    let same : k ≡ i = omega arith in
    ap (truth_at ws) same ∙ ap (λ q. if q then truth_at ws i else false) (sym (lt-ltb 0 (suc n) (omega arith)))
read_flag ws k (suc n) (suc j) i e =
    let next : nat_lt j n ≡ nat_lt (suc j) (suc n) = grind (arith, nat_tests) in
    read_flag ws (suc k) n j i (omega arith) ∙ ap (λ q. if q then truth_at ws i else false) next

-- the same truths make the same row
pub same_row : (ws vs : List ℕ) (k n : ℕ) → ((j : ℕ) → k ≤ j → j < k + n → truth_at vs j ≡ truth_at ws j)
    → flags_from vs k n ≡ flags_from ws k n
same_row ws vs k zero h = refl
same_row ws vs k (suc n) h =
    ap₂ (λ b bs. b ∷ bs) (h k (omega arith) (omega arith))
    (same_row ws vs (suc k) n (λ j l m. h j (omega arith) (omega arith)))

-- one truth is another
pub set_row : (ws vs : List ℕ) (k n p i : ℕ) (b : Bool) → k + p ≡ i
    → ((j : ℕ) → k ≤ j → j < k + n → truth_at vs j ≡ (if nat_eq j i then b else truth_at ws j))
    → flags_from vs k n ≡ set (flags_from ws k n) p b
set_row ws vs k zero p i b e h = refl
set_row ws vs k (suc n) zero i b e h =
    ap₂ (λ b bs. b ∷ bs)
    (h k (omega arith) (omega arith) ∙ ap (λ q. if q then b else truth_at ws k) (eq-eqb k i (omega arith)))
    (same_row ws vs (suc k) n (λ j l m. h j (omega arith) (omega arith)
    ∙ ap (λ q. if q then b else truth_at ws j) (differ j i (λ d. omega arith))))
set_row ws vs k (suc n) (suc p) i b e h =
    ap₂ (λ b bs. b ∷ bs)
    (h k (omega arith) (omega arith) ∙ ap (λ q. if q then b else truth_at ws k) (differ k i (λ d. omega arith)))
    (set_row ws vs (suc k) n p i b (omega arith) (λ j l m. h j (omega arith) (omega arith)))

-- a row that is one longer, with its last truth set
pub set_last : (ws vs : List ℕ) (k n m : ℕ) (b : Bool) → m ≡ n + 1
    → ((j : ℕ) → truth_at vs j ≡ truth_at ws j) → set (flags_from vs k m) n b ≡ flags_from ws k n ++ b ∷ []
set_last ws vs k zero zero b e h = absurd (omega arith)
set_last ws vs k zero (suc zero) b e h = refl
set_last ws vs k zero (suc (suc m)) b e h = absurd (omega arith)
set_last ws vs k (suc n) zero b e h = absurd (omega arith)
set_last ws vs k (suc n) (suc m) b e h = ap₂ (λ b bs. b ∷ bs) (h k) (set_last ws vs (suc k) n m b (omega arith) h)

-- an empty word at the end tells no more
pub zero_more : (ws : List ℕ) (i : ℕ) → get_or (ws ++ 0 ∷ []) i 0 ≡ get_or ws i 0
zero_more [] zero = refl
zero_more [] (suc i) = refl
zero_more (w ∷ ws) zero = refl
zero_more (w ∷ ws) (suc i) = zero_more ws i

pub take_row : (ws : List ℕ) (k n m q : ℕ) → q ≡ min n m → flags_from ws k q ≡ take m (flags_from ws k n)
take_row ws k zero zero zero e = refl
take_row ws k zero (suc m) zero e = refl
take_row ws k (suc n) zero zero e = refl
take_row ws k (suc n) (suc m) zero e = absurd (omega arith)
take_row ws k zero m (suc q) e = absurd (omega arith)
take_row ws k (suc n) zero (suc q) e = absurd (omega arith)
take_row ws k (suc n) (suc m) (suc q) e = ap (λ bs. truth_at ws k ∷ bs) (take_row ws (suc k) n m q (omega arith))

truth_full : (m j : ℕ) → j < 64 * m → truth_at (replicate m (2 ^ 64 - 1)) j ≡ true
truth_full m j h =
    ap (λ w. one_at w (j % 64)) (get_or-replicate m (j / 64) (2 ^ 64 - 1) 0 (omega arith))
    ∙ one_ones 64 (j % 64) ∙ lt-ltb (j % 64) 64 (omega arith)

pub fill_row : (ws : List ℕ) (m k n : ℕ) → k + n ≤ 64 * m
    → flags_from (replicate m (2 ^ 64 - 1)) k n ≡ map (λ flag. true) (flags_from ws k n)
fill_row ws m k zero h = refl
fill_row ws m k (suc n) h =
    ap₂ (λ b bs. b ∷ bs) (truth_full m k (omega arith)) (fill_row ws m (suc k) n (omega arith))

-- two rows are mixed as far as the second goes
pub merge_row : (both : Bool) (ws us vs : List ℕ) (k n m e : ℕ) → k + m ≡ e
    → ((j : ℕ) → k ≤ j → j < k + n → truth_at vs j ≡ mixed both (nat_lt j e) (truth_at ws j) (truth_at us j))
    → flags_from vs k n ≡ merged both (flags_from ws k n) (flags_from us k m)
merge_row both ws us vs k zero m e q h = refl
merge_row both ws us vs k (suc n) zero e q h =
    ap₂ (λ b bs. b ∷ bs)
    (h k (omega arith) (omega arith)
    ∙ ap (λ there. mixed both there (truth_at ws k) (truth_at us k)) (not_below k e (omega arith)))
    (same_row ws vs (suc k) n (λ j l g. h j (omega arith) (omega arith)
    ∙ ap (λ there. mixed both there (truth_at ws j) (truth_at us j)) (not_below j e (omega arith))))
merge_row both ws us vs k (suc n) (suc m) e q h =
    ap₂ (λ b bs. b ∷ bs)
    (h k (omega arith) (omega arith) ∙ ap (λ there. mixed both there (truth_at ws k) (truth_at us k)) (lt-ltb k e (omega arith)))
    (merge_row both ws us vs (suc k) n m e (omega arith) (λ j l g. h j (omega arith) (omega arith)))

-- # One word is another

at_other : (ws : List ℕ) (at v j : ℕ) → (j / 64 ≡ at → ⊥) → truth_at (set ws at v) j ≡ truth_at ws j
at_other ws at v j h = ap (λ w. one_at w (j % 64)) (get_or-set_other ws at (j / 64) v 0 h)

at_same : (ws : List ℕ) (at v j : ℕ) → at < length ws → j / 64 ≡ at → truth_at (set ws at v) j ≡ one_at v (j % 64)
at_same ws at v j h e = ap (λ w. one_at w (j % 64)) (ap (λ i. get_or (set ws at v) i 0) e ∙ get_or-set_same ws at v 0 h)

same_place : (j p : ℕ) → j / 64 ≡ p / 64 → nat_eq (j % 64) (p % 64) ≡ nat_eq j p
same_place j p e = grind (arith, nat_tests)

-- the word of a place with its bit made b
pub put_word : (ws : List ℕ) (p v j : ℕ) (b : Bool) → p / 64 < length ws
    → ((i : ℕ) → i < 64 → one_at v i ≡ (if nat_eq i (p % 64) then b else one_at (get_or ws (p / 64) 0) i))
    → truth_at (set ws (p / 64) v) j ≡ (if nat_eq j p then b else truth_at ws j)
put_word ws p v j b h g = by (nat_eq (j / 64) (p / 64)) refl
  where
    by : (q : Bool) → nat_eq (j / 64) (p / 64) ≡ q → truth_at (set ws (p / 64) v) j ≡ (if nat_eq j p then b else truth_at ws j)
    by true e =
        let word : j / 64 ≡ p / 64 = grind (arith, nat_tests) in
        at_same ws (p / 64) v j h word ∙ g (j % 64) (omega arith)
        ∙ ap (λ q. if q then b else one_at (get_or ws (p / 64) 0) (j % 64)) (same_place j p word)
        ∙ ap (λ i. if nat_eq j p then b else one_at (get_or ws i 0) (j % 64)) (sym word)
    by false e =
        let apart : j / 64 ≡ p / 64 → ⊥ = λ d. grind (arith, nat_tests) in
        at_other ws (p / 64) v j apart
        ∙ ap (λ q. if q then b else truth_at ws j) (sym (differ j p (λ d. apart (ap (λ n. n / 64) d))))

-- one word more is mixed
pub mix_word : (both : Bool) (ws us vs : List ℕ) (at len v j : ℕ) → at < length vs
    → ((j : ℕ) → truth_at vs j ≡ mixed both (nat_lt j (min (64 * at) len)) (truth_at ws j) (truth_at us j))
    → ((i : ℕ) → i < 64
    → one_at v i ≡ mixed both (nat_lt (64 * at + i) len) (one_at (get_or vs at 0) i) (one_at (get_or us at 0) i))
    → truth_at (set vs at v) j ≡ mixed both (nat_lt j (min (64 * (at + 1)) len)) (truth_at ws j) (truth_at us j)
mix_word both ws us vs at len v j h before new = by (nat_eq (j / 64) at) refl
  where
    by : (q : Bool) → nat_eq (j / 64) at ≡ q
        → truth_at (set vs at v) j ≡ mixed both (nat_lt j (min (64 * (at + 1)) len)) (truth_at ws j) (truth_at us j)
    by true e =
        let word : j / 64 ≡ at = grind (arith, nat_tests) in
        let own : one_at (get_or vs at 0) (j % 64) ≡ truth_at ws j =
        ap (λ i. one_at (get_or vs i 0) (j % 64)) (sym word) ∙ before j
        ∙ ap (λ q. mixed both q (truth_at ws j) (truth_at us j)) (not_below j (min (64 * at) len) (omega arith)) in
        let place : 64 * at + j % 64 ≡ j = omega arith in
        let below : nat_lt (64 * at + j % 64) len ≡ nat_lt j (min (64 * (at + 1)) len) = grind (arith, nat_tests) in
        at_same vs at v j h word ∙ new (j % 64) (omega arith)
        ∙ ap₂ (λ q a. mixed both q a (one_at (get_or us at 0) (j % 64))) below own
        ∙ ap (λ i. mixed both (nat_lt j (min (64 * (at + 1)) len)) (truth_at ws j) (one_at (get_or us i 0) (j % 64))) (sym word)
    by false e =
        let apart : j / 64 ≡ at → ⊥ = λ d. grind (arith, nat_tests) in
        let below : nat_lt j (min (64 * at) len) ≡ nat_lt j (min (64 * (at + 1)) len) = grind (arith, nat_tests) in
        at_other vs at v j apart ∙ before j ∙ ap (λ q. mixed both q (truth_at ws j) (truth_at us j)) below

-- no further word has a bit to mix in
pub all_mixed : (j at len n m : ℕ) → min n m ≤ at → j < 64 * n → len ≤ 64 * m → nat_lt j (min (64 * at) len) ≡ nat_lt j len
all_mixed j at len n m h g l = grind (arith, nat_tests)

-- # A truth of its own

pub flag_more : (bs : List Bool) (k : ℕ) → flag_at (bs ++ false ∷ []) k ≡ flag_at bs k
flag_more [] zero = refl
flag_more [] (suc k) = refl
flag_more (b ∷ bs) zero = refl
flag_more (b ∷ bs) (suc k) = flag_more bs k

or_false : (q : Bool) → q ≡ (q || false)
or_false true = refl
or_false false = refl

pub flag_set : (bs : List Bool) (p k : ℕ) → p < length bs → flag_at (set bs p true) k ≡ with_flag (flag_at bs) p k
flag_set [] p k h = absurd (omega arith)
flag_set (true ∷ bs) zero zero h = refl
flag_set (false ∷ bs) zero zero h = refl
flag_set (b ∷ bs) zero (suc k) h =
    or_false (flag_at bs k) ∙ ap (λ q. flag_at bs k || q) (sym (differ (suc k) 0 (λ d. omega arith)))
flag_set (b ∷ bs) (suc p) zero h = or_false b ∙ ap (λ q. b || q) (sym (differ 0 (suc p) (λ d. omega arith)))
flag_set (b ∷ bs) (suc p) (suc k) h =
    let next : nat_eq k p ≡ nat_eq (suc k) (suc p) = grind (arith, nat_tests) in
    flag_set bs p k (omega arith) ∙ ap (λ q. flag_at bs k || q) next

-- # What the code computes

pub has_flag : (ws : List ℕ) (n p x : ℕ) → p < n → n ≤ 64 * length ws → x ≡ get_or ws (p / 64) x
    → nat_eq (bit_and (x / 2 ^ (p % 64)) 1) 1 ≡ flag_at (flags_from ws 0 n) p
has_flag ws n p x h g e =
    ap (λ b. nat_eq b 1) (shr_and_one x (p % 64))
    ∙ ap (λ w. one_at w (p % 64)) (e ∙ get_or_default ws (p / 64) x 0 (omega arith))
    ∙ ap (λ q. if q then truth_at ws p else false) (sym (lt-ltb p n h)) ∙ sym (read_flag ws 0 n p p (omega arith))

pub no_flag : (ws : List ℕ) (n p : ℕ) → n ≤ p → false ≡ flag_at (flags_from ws 0 n) p
no_flag ws n p h =
    ap (λ q. if q then truth_at ws p else false) (sym (not_below p n h)) ∙ sym (read_flag ws 0 n p p (omega arith))

pub put_row : (ws : List ℕ) (n p v x : ℕ) (b : Bool) → p < n → n ≤ 64 * length ws → x ≡ get_or ws (p / 64) x
    → ((i : ℕ) → i < 64 → one_at v i ≡ (if nat_eq i (p % 64) then b else one_at x i))
    → flags_from (set ws (p / 64) v) 0 n ≡ set (flags_from ws 0 n) p b
put_row ws n p v x b h g e new =
    let word : x ≡ get_or ws (p / 64) 0 = e ∙ get_or_default ws (p / 64) x 0 (omega arith) in
    set_row ws (set ws (p / 64) v) 0 n p p b (omega arith)
    (λ j l m. put_word ws p v j b (omega arith)
    (λ i k. new i k ∙ ap (λ w. if nat_eq i (p % 64) then b else one_at w i) word))

pub put_past : (ws : List ℕ) (n p : ℕ) (b : Bool) → n ≤ p → flags_from ws 0 n ≡ set (flags_from ws 0 n) p b
put_past ws n p b h =
    set_row ws ws 0 n p p b (omega arith)
    (λ j l m. ap (λ q. if q then b else truth_at ws j) (sym (differ j p (λ d. omega arith))))

pub merge_rows : (both : Bool) (ws us vs xs ys : List ℕ) (n m : ℕ) → xs ≡ ws → ys ≡ us → n ≤ 64 * length ws
    → ((j : ℕ) → j < 64 * length xs → truth_at vs j ≡ mixed both (nat_lt j m) (truth_at xs j) (truth_at ys j))
    → flags_from vs 0 n ≡ merged both (flags_from ws 0 n) (flags_from us 0 m)
merge_rows both ws us vs xs ys n m e f h each =
    merge_row both ws us vs 0 n m m (omega arith)
    (λ j l g. each j (omega (arith, ap length e)) ∙ ap₂ (λ a b. mixed both (nat_lt j m) (truth_at a j) (truth_at b j)) e f)
