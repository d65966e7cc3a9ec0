-- Causes that are marked, and the first transaction that is missing.
use Rattle.std.proofs.Common.{◌≡◌, ℕ, zero, suc, ◌+◌, ◌<◌, ◌≤◌, Bool, true, false, ◌&&◌, ◌||◌, not, nat_eq, refl, sym, ap, ◌∙◌, subst, add-one, arith, List, [], ◌∷◌, length, get_or, slice_set, get_or-set_same, get_or-set_other, Option, Some, None, slice_get, inl, inr}
use Rattle.std.specs.Prelude.{All}
use Rattle.std.proofs.lemmas.List.Elements.{All-head, All-tail}
use Rattle.std.proofs.lemmas.Option.{slice_get_within}
use Rattle.std.proofs.lemmas.Bool.{and_from, and_parts, or_left, or_right, or_cases, cases_Bool, cases_eq, true≢false, false_from_ne_true, eq-eqb, ne_eqb, eqb-true}
use Rattle.crdt_defs.specs.Calls.{Call}
use Rattle.crdt_defs.specs.Counting.{any_below, first_below, or_this}
use Rattle.crdt_defs.specs.Histories.{IsHistory, before, meets, some_call, past_of}
use Rattle.crdt_defs.specs.Meaning.{is_before_one}
use Rattle.crdt_defs.specs.Snapshots.{bit}
use Rattle.crdt_defs.proofs.BelowLemmas.{any_found, none_below}
use Rattle.event_machine.specs.Machine.{is_in, calls_of, own_calls, is_missing}
use Rattle.event_machine.specs.States.{State}
use Rattle.machine_tests.specs.Transitive.{IsTransitive}
use Rattle.machine_tests.specs.means.Causes.{AreCausesFrom, is_needed}

-- # The first that meets a test

pub first_more : (p : ℕ → Bool) (n : ℕ) → first_below p n ≡ None → p n ≡ false → first_below p (n + 1) ≡ None
first_more p n none no_n = rw add-one (ap (λ o. or_this o (p n) n) none ∙ ap (λ b. or_this None b n) no_n)

-- a first that is found stays the first
found_stays : (p : ℕ → Bool) (n k : ℕ) → first_below p n ≡ Some k → first_below p (suc n) ≡ Some k
found_stays p n k found = ap (λ o. or_this o (p n) n) found

pub first_found : (p : ℕ → Bool) (n k : ℕ) → k < n → first_below p k ≡ None → p k ≡ true → first_below p n ≡ Some k
first_found p zero k lt none holds = absurd (omega arith)
first_found p (suc n) k lt none holds =
    elim (cases_eq k n) [
      | inl same ↦
          let none_n : first_below p n ≡ None = subst (λ m. first_below p m ≡ None) same none in
          let yes_n : p n ≡ true = subst (λ m. p m ≡ true) same holds in
          ap (λ o. or_this o (p n) n) none_n ∙ ap (λ b. or_this None b n) yes_n ∙ ap (λ m. Some m) (sym same)
      | inr other ↦ found_stays p n k (first_found p n k (omega arith) none holds)
    ]

-- tests that agree below n find the same
pub first_same : (p q : ℕ → Bool) (n : ℕ) → ((k : ℕ) → k < n → p k ≡ q k) → first_below p n ≡ first_below q n
first_same p q zero h = refl
first_same p q (suc n) h =
    ap (λ o. or_this o (p n) n) (first_same p q n (λ k lt. h k (omega arith))) ∙ ap (λ b. or_this (first_below q n) b n) (h n (omega arith))

-- # Rows

-- the bit that is written, and the others
pub bit_set : (row : List Bool) (x n : ℕ) → x < length row → bit (slice_set row x true) n ≡ (nat_eq x n || bit row n)
bit_set row x n lt =
    elim (cases_eq n x) [
      | inl same ↦
          let here : bit (slice_set row x true) x ≡ true = get_or-set_same row x true false lt in
          ap (bit (slice_set row x true)) same ∙ here ∙ sym (or_left (nat_eq x n) (bit row n) (eq-eqb x n (sym same)))
      | inr other ↦
          let here : bit (slice_set row x true) n ≡ bit row n = get_or-set_other row x n true false other in
          here ∙ sym (ap (λ b. b || bit row n) (ne_eqb x n (λ e. other (sym e))))
    ]

-- # Causes

-- a number that meets the test
any_witness : (p : ℕ → Bool) (n : ℕ) → any_below p n ≡ true → (c : ℕ) × (c < n) × (p c ≡ true)
any_witness p zero h = absurd (true≢false (sym h))
any_witness p (suc n) h =
    elim (or_cases (p n) (any_below p n) h) [
      | inl here ↦ (n, omega arith, here)
      | inr rest ↦ let found = any_witness p n rest in let low : found.0 < n = found.1 in (found.0, omega arith, found.2)
    ]

module _ (h : List Call) (seen : ℕ → Bool) where
  pub no_causes : (marked : ℕ → Bool) → ((b : ℕ) → marked b ≡ false) → ((d : ℕ) → length h ≤ d → seen d ≡ false) → AreCausesFrom h seen (length h) marked
  no_causes marked none past = record {
    only = λ b holds. absurd (true≢false (sym holds ∙ none b));
    all = λ b d le sees is. absurd (true≢false (sym sees ∙ past d le));
  }

  -- the call isn't seen
  pub unseen_causes : (d : ℕ) (marked : ℕ → Bool) → seen d ≡ false → AreCausesFrom h seen (d + 1) marked → AreCausesFrom h seen d marked
  unseen_causes d marked no_d later = record {
    only = later.only;
    all = λ b e le sees is. elim (cases_eq e d) [
      | inl same ↦ absurd (true≢false (sym sees ∙ ap seen same ∙ no_d))
      | inr other ↦ later.all b e (omega arith) sees is
    ];
  }

  -- what is before it is marked now
  pub seen_causes : (d : ℕ) (old new : ℕ → Bool) → d < length h → seen d ≡ true → ((b : ℕ) → new b ≡ (before h b d || old b)) → AreCausesFrom h seen (d + 1) old → AreCausesFrom h seen d new
  seen_causes d old new lt holds more later = record {
    only = λ b marked. elim (or_cases (before h b d) (old b) (sym (more b) ∙ marked)) [
      | inl is ↦ any_found (λ e. seen e && before h b e) (length h) d lt (and_from (seen d) (before h b d) holds is)
      | inr before_it ↦ later.only b before_it
    ];
    all = λ b e le sees is. elim (cases_eq e d) [
      | inl same ↦ more b ∙ or_left (before h b d) (old b) (ap (before h b) (sym same) ∙ is)
      | inr other ↦ more b ∙ or_right (before h b d) (old b) (later.all b e (omega arith) sees is)
    ];
  }

  -- it is marked, so what is before it is
  pub marked_causes : (d : ℕ) (marked : ℕ → Bool) → IsTransitive h → ((b e : ℕ) → before h b e ≡ true → b < e) → marked d ≡ true → AreCausesFrom h seen (d + 1) marked → AreCausesFrom h seen d marked
  marked_causes d marked transitive earlier holds later = record {
    only = later.only;
    all = λ b e le sees is. elim (cases_eq e d) [
      | inl same ↦
          let found = any_witness (λ e. seen e && before h d e) (length h) (later.only d holds) in
          let parts = and_parts (seen found.0) (before h d found.0) found.2 in
          let less : d < found.0 = earlier d found.0 parts.1 in
          let through : before h b d ≡ true = ap (before h b) (sym same) ∙ is in
          later.all b found.0 (omega arith) parts.0 (transitive b d found.0 through parts.1)
      | inr other ↦ later.all b e (omega arith) sees is
    ];
  }

  -- all are marked
  pub causes_are : (marked : ℕ → Bool) → AreCausesFrom h seen 0 marked → (b : ℕ) → marked b ≡ is_before_one h seen b
  causes_are marked from b =
      elim (cases_Bool (marked b)) [
        | inl holds ↦ holds ∙ sym (from.only b holds)
        | inr no_b ↦ no_b ∙ sym (none_below (λ d. seen d && before h b d) (length h) (λ d lt. false_from_ne_true (seen d && before h b d) (λ both.
            let parts = and_parts (seen d) (before h b d) both in
            true≢false (sym (from.all b d (omega arith) parts.0 parts.1) ∙ no_b))))
      ]

-- what stands in a list of numbers below d is below d
in_below : (xs : List ℕ) (b d : ℕ) → All (λ b. b < d) xs → is_in xs b ≡ true → b < d
in_below [] b d all is = absurd (true≢false (sym is))
in_below (x ∷ xs) b d all is = elim (or_cases (nat_eq x b) (is_in xs b) is) [
  | inl same ↦ let e : x ≡ b = eqb-true x b same in let low : x < d = All-head (λ b. b < d) x xs all in omega arith
  | inr rest ↦ in_below xs b d (All-tail (λ b. b < d) x xs all) rest
]

past_below : (o : Option Call) (b d : ℕ) → All (λ b. b < d) (past_of o) → meets (λ call. is_in call.past b) o ≡ true → b < d
past_below None b d all is = absurd (true≢false (sym is))
past_below (Some call) b d all is = in_below call.past b d all is

pub before_is_earlier : (h : List Call) → IsHistory h → (b d : ℕ) → before h b d ≡ true → b < d
before_is_earlier h history b d is = past_below (slice_get h d) b d (history.earlier d) is

-- what is before a call of a history has a place in a row
pub past_low : (h : List Call) (d : ℕ) (call : Call) → IsHistory h → slice_get h d ≡ Some call → All (λ n. n < 16384) call.past
past_low h d call history at_d = λ k e low.
    let below : get_or call.past k e < d = subst (λ o. All (λ b. b < d) (past_of o)) at_d (history.earlier d) k e low in
    let within : d < length h = slice_get_within h d call at_d in
    let few : length h ≤ 16384 = history.few in
    omega arith

-- # Transactions with a wanted call

needed_here : (b t : Bool) → (b || t) ≡ ((b && true) || t)
needed_here true t = refl
needed_here false t = refl

-- the next call is wanted
pub needed_more : (h : List Call) (wanted : ℕ → Bool) (t c : ℕ) (call : Call) (old new : Bool) → slice_get h c ≡ Some call → wanted c ≡ true
    → new ≡ (nat_eq call.tx t || old) → old ≡ is_needed h wanted t c → new ≡ is_needed h wanted t (c + 1)
needed_more h wanted t c call old new at_c holds is_new is_old =
    let own : own_calls h (Some t) c ≡ nat_eq call.tx t = ap (meets (λ call. nat_eq call.tx t)) at_c in
    rw add-one
    (is_new
    ∙ ap (λ b. nat_eq call.tx t || b) is_old
    ∙ needed_here (nat_eq call.tx t) (is_needed h wanted t c)
    ∙ ap (λ b. (b && true) || is_needed h wanted t c) (sym own)
    ∙ ap (λ b. (own_calls h (Some t) c && b) || is_needed h wanted t c) (sym holds))

not_needed : (b t : Bool) → t ≡ ((b && false) || t)
not_needed true t = refl
not_needed false t = refl

-- the next call isn't wanted
pub needed_same : (h : List Call) (wanted : ℕ → Bool) (t c : ℕ) (old : Bool) → wanted c ≡ false → old ≡ is_needed h wanted t c → old ≡ is_needed h wanted t (c + 1)
needed_same h wanted t c old unwanted is_old =
    rw add-one
    (is_old
    ∙ not_needed (own_calls h (Some t) c) (is_needed h wanted t c)
    ∙ ap (λ b. (own_calls h (Some t) c && b) || is_needed h wanted t c) (sym unwanted))

-- # The whole

any_same : (p q : ℕ → Bool) (n : ℕ) → ((k : ℕ) → p k ≡ q k) → any_below p n ≡ any_below q n
any_same p q zero h = refl
any_same p q (suc n) h = ap (λ b. b || any_below p n) (h n) ∙ ap (λ b. q n || b) (any_same p q n h)

-- what is missing, by the calls alone
abbrev missing_in : List ℕ → List ℕ → List Call → ℕ → Bool
missing_in sees earlier calls tx =
    not (is_in sees tx)
    && some_call calls (λ c. own_calls calls (Some tx) c && (calls_of calls earlier c || is_before_one calls (calls_of calls sees) c))

pub missing_is : (h : List Call) (sees earlier : List ℕ) (causes needed : List Bool) (txs : ℕ) → txs ≤ 16384
    → ((b : ℕ) → bit causes b ≡ is_before_one h (calls_of h sees) b)
    → ((t : ℕ) → t < 16384 → bit needed t ≡ is_needed h (λ c. calls_of h earlier c || bit causes c) t (length h))
    → (s : State) → s.calls ≡ h
    → first_below (λ tx. not (is_in sees tx) && bit needed tx) txs ≡ first_below (is_missing s sees (calls_of s.calls earlier)) txs
missing_is h sees earlier causes needed txs few is_cause is_in_row s e =
    first_same (λ tx. not (is_in sees tx) && bit needed tx) (missing_in sees earlier h) txs (λ t lt.
    ap (λ b. not (is_in sees t) && b)
    (is_in_row t (omega arith)
    ∙ any_same (λ c. own_calls h (Some t) c && (calls_of h earlier c || bit causes c)) (λ c. own_calls h (Some t) c && (calls_of h earlier c || is_before_one h (calls_of h sees) c)) (length h)
    (λ c. ap (λ b. own_calls h (Some t) c && (calls_of h earlier c || b)) (is_cause c))))
    ∙ ap (λ calls. first_below (missing_in sees earlier calls) txs) (sym e)
