-- Transactions that are visible in part, found block by block.
use Rattle.std.proofs.Common.{◌≡◌, ℕ, zero, suc, ◌+◌, ◌-◌, ◌*◌, ◌/◌, ◌%◌, ◌<◌, ◌≤◌, Bool, true, false, ◌&&◌, not, refl, sym, ◌∙◌, ap, arith, List, length, inl, inr, nat_eq, nat_lt, nat_le, Option, Some, None, slice_get, replicate, zero-lt-suc, mod-lt, div-add-mod'}
use Rattle.std.proofs.lemmas.Bool.{and_from, and_left, and_right, leb-true, cases_lt, cases_Bool, true≢false, eqb-true, eq-eqb, lt-ltb, le-ltb, le-leb}
use Rattle.std.proofs.lemmas.List.{get_or_past}
use Rattle.std.proofs.Math.Path.{fun_ext}
use Rattle.crdt_defs.specs.Calls.{Call}
use Rattle.crdt_defs.specs.Counting.{any_below}
use Rattle.crdt_defs.specs.Histories.{meets, call_is, same_tx}
use Rattle.crdt_defs.specs.Snapshots.{bit, IsSnapshot}
use Rattle.crdt_lib.specs.means.Blocks.{blocks, is_seen, in_block, is_marked, splits, splits_one}
use Rattle.crdt_defs.proofs.BelowLemmas.{any_found, none_below}
use Rattle.crdt_lib.proofs.HistoryLemmas.{no_call_past}

within : (h : List Call) (test : Call → Bool) (k : ℕ) → call_is h test k ≡ true → k < length h
within h test k here =
    elim (cases_lt k (length h)) [
      | inl lt ↦ lt
      | inr le ↦ absurd (true≢false (sym here ∙ no_call_past h test k le))
    ]

is_within : (row : List Bool) (n : ℕ) → bit row n ≡ true → n < length row
is_within row n here =
    elim (cases_lt n (length row)) [
      | inl lt ↦ lt
      | inr le ↦ absurd (true≢false (sym here ∙ get_or_past row n false le))
    ]

block_is_below : (tx bound : ℕ) → tx < bound → tx / 16384 < blocks bound
block_is_below tx bound lt =
    let at : tx / 16384 * 16384 + tx % 16384 ≡ tx = div-add-mod' tx 16384 in
    let end : bound / 16384 * 16384 + bound % 16384 ≡ bound = div-add-mod' bound 16384 in
    let rest : bound % 16384 < 16384 = mod-lt bound (zero-lt-suc 16383) in
    omega arith

is_in_its_block : (tx : ℕ) → in_block (tx / 16384 * 16384) tx ≡ true
is_in_its_block tx =
    let at : tx / 16384 * 16384 + tx % 16384 ≡ tx = div-add-mod' tx 16384 in
    let rest : tx % 16384 < 16384 = mod-lt tx (zero-lt-suc 16383) in
    let low : tx / 16384 * 16384 ≤ tx = omega arith in
    let near : tx - tx / 16384 * 16384 < 16384 = omega arith in
    and_from _ _ (le-leb _ _ low) (lt-ltb _ _ near)

module _ (h : List Call) (visible : ℕ → Bool) where
  seen_by : (c tx : ℕ) → call_is h (λ call. nat_eq call.tx tx) c ≡ true → visible c ≡ true → is_seen h visible tx ≡ true
  seen_by c tx here sees =
      any_found (λ k. call_is h (λ call. nat_eq call.tx tx) k && visible k) (length h) c (within h _ c here) (and_from _ _ here sees)

  split_by : (d tx : ℕ) → call_is h (λ call. in_block (tx / 16384 * 16384) call.tx && is_seen h visible call.tx) d ≡ true → visible d ≡ false → splits h visible (tx / 16384) ≡ true
  split_by d tx here misses =
      any_found (λ k. call_is h (λ call. in_block (tx / 16384 * 16384) call.tx && is_seen h visible call.tx) k && not (visible k)) (length h) d
      (within h _ d here) (and_from _ _ here (ap not misses))

  split_found : (bound c d : ℕ) (o p : Option Call) → slice_get h c ≡ o → slice_get h d ≡ p → visible c ≡ true → visible d ≡ false
      → ((tx : ℕ) → meets (λ call. nat_eq call.tx tx) o ≡ true → tx < bound) → meets (λ a. meets (λ b. nat_eq a.tx b.tx) p) o ≡ true
      → splits_one h visible bound ≡ true
  split_found bound c d (Some a) (Some b) at_c at_d sees misses few same =
      let tx : a.tx ≡ b.tx = eqb-true a.tx b.tx same in
      let below : a.tx < bound = few a.tx (eq-eqb a.tx a.tx refl) in
      let seen : is_seen h visible b.tx ≡ true = seen_by c b.tx (ap (meets (λ call. nat_eq call.tx b.tx)) at_c ∙ same) sees in
      let here : in_block (a.tx / 16384 * 16384) b.tx ≡ true = ap (in_block (a.tx / 16384 * 16384)) (sym tx) ∙ is_in_its_block a.tx in
      any_found (splits h visible) (blocks bound) (a.tx / 16384) (block_is_below a.tx bound below)
      (split_by d a.tx (ap (meets (λ call. in_block (a.tx / 16384 * 16384) call.tx && is_seen h visible call.tx)) at_d ∙ and_from _ _ here seen) misses)
  split_found bound c d (Some a) None at_c at_d sees misses few same = absurd (true≢false (sym same))
  split_found bound c d None p at_c at_d sees misses few same = absurd (true≢false (sym same))

committed_below : (committed : List Bool) (o : Option Call) → meets (λ call. bit committed call.tx) o ≡ true → (tx : ℕ) → meets (λ call. nat_eq call.tx tx) o ≡ true → tx < length committed
committed_below committed (Some call) here tx same = is_within committed tx (ap (bit committed) (sym (eqb-true call.tx tx same)) ∙ here)
committed_below committed None here tx same = absurd (true≢false (sym same))

-- where no transaction is visible in part, one with a visible call of a committed transaction is visible whole
pub none_split : (h : List Call) (committed : List Bool) (visible : ℕ → Bool) → splits_one h visible (length committed) ≡ false
    → (c d : ℕ) → visible c ≡ true → call_is h (λ call. bit committed call.tx) c ≡ true → same_tx h c d ≡ true → visible d ≡ true
none_split h committed visible none c d sees commits same =
    elim (cases_Bool (visible d)) [
      | inl y ↦ y
      | inr e ↦ absurd (true≢false (sym (split_found h visible (length committed) c d _ _ refl refl sees e (committed_below committed (slice_get h c) commits) same) ∙ none))
    ]

module _ (h : List Call) (committed : List Bool) (visible : ℕ → Bool) (snap : IsSnapshot h committed visible) where
  apart : (c d : ℕ) (o : Option Call) (b : Call) → slice_get h c ≡ o → slice_get h d ≡ Some b → visible c ≡ true → visible d ≡ false → meets (λ call. nat_eq call.tx b.tx) o ≡ false
  apart c d None b at_c at_d sees misses = refl
  apart c d (Some a) b at_c at_d sees misses =
      elim (cases_Bool (nat_eq a.tx b.tx)) [
        | inl same ↦
            let one : same_tx h c d ≡ true = ap (meets (λ x. call_is h (λ y. nat_eq x.tx y.tx) d)) at_c ∙ ap (meets (λ y. nat_eq a.tx y.tx)) at_d ∙ same in
            absurd (true≢false (sym (snap.whole c d sees one) ∙ misses))
        | inr e ↦ e
      ]

  not_seen : (d : ℕ) (b : Call) → slice_get h d ≡ Some b → visible d ≡ false → is_seen h visible b.tx ≡ false
  not_seen d b at_d misses = none_below (λ c. call_is h (λ call. nat_eq call.tx b.tx) c && visible c) (length h)
      (λ c lt. elim (cases_Bool (visible c)) [
        | inl sees ↦ and_left _ _ (apart c d (slice_get h c) b refl at_d sees misses)
        | inr e ↦ and_right _ _ e
      ])

  not_missed : (base d : ℕ) (o : Option Call) → slice_get h d ≡ o → visible d ≡ false → meets (λ call. in_block base call.tx && is_seen h visible call.tx) o ≡ false
  not_missed base d None at_d misses = refl
  not_missed base d (Some b) at_d misses = and_right _ _ (not_seen d b at_d misses)

  -- a snapshot has each transaction whole or not at all
  pub no_splits : (bound : ℕ) → splits_one h visible bound ≡ false
  no_splits bound = none_below (splits h visible) (blocks bound)
      (λ block lt. none_below (λ d. call_is h (λ call. in_block (block * 16384) call.tx && is_seen h visible call.tx) d && not (visible d)) (length h)
      (λ d below. elim (cases_Bool (visible d)) [
        | inl sees ↦ and_right _ _ (ap not sees)
        | inr e ↦ and_left _ _ (not_missed (block * 16384) d (slice_get h d) refl e)
      ]))

-- # The code's row of marks

-- a row of false marks nothing
pub none_marked : (n t : ℕ) → bit (replicate n false) t ≡ false
none_marked zero t = refl
none_marked (suc n) zero = refl
none_marked (suc n) (suc t) = none_marked n t

marked_here : (seen : List Bool) (base : ℕ) (is : ℕ → Bool) → length seen ≡ 16384 → ((t : ℕ) → t < 16384 → bit seen t ≡ is (base + t)) → (tx : ℕ) → base ≤ tx
    → bit seen (tx - base) ≡ (nat_lt (tx - base) 16384 && is tx)
marked_here seen base is e at tx le =
    let back : base + (tx - base) ≡ tx = omega arith in
    elim (cases_lt (tx - base) 16384) [
      | inl lt ↦ at (tx - base) lt ∙ ap is back ∙ ap (λ t. t && is tx) (sym (lt-ltb _ _ lt))
      | inr far ↦ let past : length seen ≤ tx - base = omega arith in get_or_past seen (tx - base) false past ∙ ap (λ t. t && is tx) (sym (le-ltb _ _ far))
    ]

-- a number is marked exactly where it is of the block and in the set
pub marked_call : (seen : List Bool) (base : ℕ) (is : ℕ → Bool) → length seen ≡ 16384 → ((t : ℕ) → t < 16384 → bit seen t ≡ is (base + t)) → (tx : ℕ)
    → is_marked base seen tx ≡ (in_block base tx && is tx)
marked_call seen base is e at tx =
    elim (cases_Bool (nat_le base tx)) [
      | inl le ↦ ap (λ t. t && bit seen (tx - base)) le ∙ marked_here seen base is e at tx (leb-true base tx le) ∙ ap (λ t. (t && nat_lt (tx - base) 16384) && is tx) (sym le)
      | inr e ↦ ap (λ t. t && bit seen (tx - base)) e ∙ ap (λ t. (t && nat_lt (tx - base) 16384) && is tx) (sym e)
    ]

-- the calls that are missed, by the row's marks
pub missed_calls : (h : List Call) (visible : ℕ → Bool) (seen : List Bool) (base : ℕ) → length seen ≡ 16384 → ((t : ℕ) → t < 16384 → bit seen t ≡ is_seen h visible (base + t))
    → any_below (λ d. call_is h (λ call. is_marked base seen call.tx) d && not (visible d)) (length h)
    ≡ any_below (λ d. call_is h (λ call. in_block base call.tx && is_seen h visible call.tx) d && not (visible d)) (length h)
missed_calls h visible seen base e at =
    ap (λ (test : ℕ → Bool). any_below (λ d. call_is h (λ call. test call.tx) d && not (visible d)) (length h)) (fun_ext (marked_call seen base (is_seen h visible) e at))
