-- The members of a set below a bound, one number at a time, and what makes the set a consistent snapshot.
use Rattle.std.proofs.Common.{◌≡◌, ℕ, zero, suc, ◌+◌, ◌-◌, ◌<◌, ◌≤◌, Bool, true, false, cond, ◌||◌, ◌&&◌, not, refl, sym, ◌∙◌, ap, add-one, arith, List, [], ◌∷◌, length, inl, inr, nat_eq, Option, Some, None, slice_get}
use Rattle.std.specs.List.{list_all, list_any}
use Rattle.std.proofs.lemmas.Bool.{and_left, and_right, and_from, and_parts, or_left, or_right, cases_lt, cases_eq, cases_Bool, true≢false, eqb-true, eq-eqb, ne_eqb}
use Rattle.std.specs.Ordering.{nat_cmp, eq_by_cmp}
use Rattle.std.specs.Cmp.{nat_cmp_total, unsigned_tied}
use Rattle.std.specs.FinSet as set
use Rattle.crdt_defs.specs.Calls.{Call}
use Rattle.crdt_defs.specs.Histories.{meets, past_of}
use Rattle.crdt_defs.specs.Snapshots.{bit, IsSnapshot}
use Rattle.crdt_lib.specs.means.Blocks.{splits_one}
use Rattle.crdt_lib.specs.means.Members.{caused_at, without, AreCausedBelow}
use Rattle.crdt_lib.proofs.BlockLemmas.{none_split}
use Rattle.crdt_lib.proofs.HistoryLemmas.{no_call_past}

-- what is left has no member below n, and the others as before
left_below : (s : set.FinSet nat_cmp) (n q : ℕ) → q < n → set.contains (without s n) q ≡ false
left_below s zero q lt = absurd (omega arith)
left_below s (suc n) q lt =
    set.contains-remove nat_cmp_total (without s n) n q
    ∙ elim (cases_eq q n) [
      | inl same ↦ and_left _ _ (ap not (unsigned_tied q n ∙ eq-eqb q n same))
      | inr other ↦ ap (λ b. not (eq_by_cmp nat_cmp q n) && b) (left_below s n q (omega arith)) ∙ and_right (not (eq_by_cmp nat_cmp q n)) false refl
    ]

left_from : (s : set.FinSet nat_cmp) (n q : ℕ) → n ≤ q → set.contains (without s n) q ≡ set.contains s q
left_from s zero q le = refl
left_from s (suc n) q le =
    set.contains-remove nat_cmp_total (without s n) n q
    ∙ ap (λ b. not b && set.contains (without s n) q) (unsigned_tied q n ∙ ne_eqb q n (λ e. absurd (omega arith)))
    ∙ left_from s n q (omega arith)

-- an empty set has no member
none_in : (s : set.FinSet nat_cmp) (q : ℕ) → set.len s ≡ 0 → set.contains s q ≡ false
none_in s q e = ap (λ t. set.contains t q) (set.empty_of_len s e) ∙ set.contains-empty nat_cmp q

falls : (m : ℕ) → (m ≡ 0 → ⊥) → m - 1 + 1 ≡ m
falls m some = omega arith

more_yes : (s : set.FinSet nat_cmp) (n members : ℕ) → set.contains s n ≡ true → members + set.len (without s n) ≡ set.len s → (members + 1) + set.len (without s (n + 1)) ≡ set.len s
more_yes s n members y e =
    let here : set.contains (without s n) n ≡ true = left_from s n n (omega arith) ∙ y in
    let some : set.len (without s n) ≡ 0 → ⊥ = λ z. true≢false (sym here ∙ none_in (without s n) n z) in
    let len : set.len (without s (suc n)) ≡ set.len (without s n) - 1 = set.len-remove nat_cmp_total (without s n) n ∙ ap (λ b. cond b (set.len (without s n) - 1) (set.len (without s n))) here in
    let back : set.len (without s n) - 1 + 1 ≡ set.len (without s n) = falls _ some in
    let next : set.len (without s (n + 1)) ≡ set.len (without s n) - 1 = rw add-one len in
    omega arith

more_no : (s : set.FinSet nat_cmp) (n members : ℕ) → set.contains s n ≡ false → members + set.len (without s n) ≡ set.len s → members + set.len (without s (n + 1)) ≡ set.len s
more_no s n members y e =
    let here : set.contains (without s n) n ≡ false = left_from s n n (omega arith) ∙ y in
    let len : set.len (without s (suc n)) ≡ set.len (without s n) = set.len-remove nat_cmp_total (without s n) n ∙ ap (λ b. cond b (set.len (without s n) - 1) (set.len (without s n))) here in
    rw add-one (omega arith)

-- # The fact of a snapshot at one call

all_listed : (p : ℕ → Bool) (xs : List ℕ) (b : ℕ) → list_all p xs ≡ true → list_any (λ x. nat_eq x b) xs ≡ true → p b ≡ true
all_listed p [] b all here = absurd (true≢false (sym here))
all_listed p (x ∷ xs) b all here =
    let parts = and_parts (p x) (list_all p xs) all in
    elim (cases_Bool (nat_eq x b)) [
      | inl same ↦ ap p (sym (eqb-true x b same)) ∙ parts.0
      | inr other ↦ all_listed p xs b parts.1 (sym (ap (λ t. t || list_any (λ y. nat_eq y b) xs) other) ∙ here)
    ]

all_from : (p : ℕ → Bool) (xs : List ℕ) → ((b : ℕ) → list_any (λ x. nat_eq x b) xs ≡ true → p b ≡ true) → list_all p xs ≡ true
all_from p [] h = refl
all_from p (x ∷ xs) h = and_from (p x) _
    (h x (or_left (nat_eq x x) _ (eq-eqb x x refl)))
    (all_from p xs (λ b here. h b (or_right (nat_eq x b) _ here)))

by_past : (o : Option Call) (visible : ℕ → Bool) (c : ℕ) → list_all visible (past_of o) ≡ true → meets (λ call. list_any (λ b. nat_eq b c) call.past) o ≡ true → visible c ≡ true
by_past None visible c all here = absurd (true≢false (sym here))
by_past (Some call) visible c all here = all_listed visible call.past c all here

past_from : (o : Option Call) (visible : ℕ → Bool) → ((c : ℕ) → meets (λ call. list_any (λ b. nat_eq b c) call.past) o ≡ true → visible c ≡ true) → list_all visible (past_of o) ≡ true
past_from None visible h = refl
past_from (Some call) visible h = all_from visible call.past h

module _ (h : List Call) (committed : List Bool) (visible : ℕ → Bool) where
  -- each visible call is committed, and its past is visible
  abbrev pub EachCaused : Type 0
  EachCaused = (c : ℕ) → visible c ≡ true → caused_at h committed visible c ≡ true

  pub snapshot_from : EachCaused → splits_one h visible (length committed) ≡ false → IsSnapshot h committed visible
  snapshot_from each none = record {
    commits = λ c here. (and_parts _ _ (each c here)).0;
    causes = λ c d here cause. by_past (slice_get h d) visible c (and_parts _ _ (each d here)).1 cause;
    whole = λ c d here same. none_split h committed visible none c d here (and_parts _ _ (each c here)).0 same;
  }

  pub caused_from : IsSnapshot h committed visible → EachCaused
  caused_from snap c here = and_from _ _ (snap.commits c here) (past_from (slice_get h c) visible (λ b cause. snap.causes b c here cause))

-- # All members

module _ (h : List Call) (committed : List Bool) (s : set.FinSet nat_cmp) where
  pub step_yes : (n members : ℕ) → set.contains s n ≡ true → caused_at h committed (set.contains s) n ≡ true → AreCausedBelow h committed s n members → AreCausedBelow h committed s (n + 1) (members + 1)
  step_yes n members y e c = record {
    counted = more_yes s n members y c.counted;
    caused = λ k lt v. elim (cases_eq k n) [ inl same ↦ ap (caused_at h committed (set.contains s)) same ∙ e | inr other ↦ c.caused k (omega arith) v ];
  }

  pub step_no : (n members : ℕ) → set.contains s n ≡ false → AreCausedBelow h committed s n members → AreCausedBelow h committed s (n + 1) members
  step_no n members y c = record {
    counted = more_no s n members y c.counted;
    caused = λ k lt v. elim (cases_eq k n) [ inl same ↦ absurd (true≢false (sym v ∙ ap (set.contains s) same ∙ y)) | inr other ↦ c.caused k (omega arith) v ];
  }

  all_caused : (members : ℕ) → AreCausedBelow h committed s (length h) members → members ≡ set.len s → EachCaused h committed (set.contains s)
  all_caused members c e = λ k y.
      elim (cases_lt k (length h)) [
        | inl lt ↦ c.caused k lt y
        | inr le ↦
            let counted : members + set.len (without s (length h)) ≡ set.len s = c.counted in
            let none : set.len (without s (length h)) ≡ 0 = omega arith in
            absurd (true≢false (sym (left_from s (length h) k le ∙ y) ∙ none_in (without s (length h)) k none))
      ]

  no_member : IsSnapshot h committed (set.contains s) → (q : ℕ) → set.contains (without s (length h)) q ≡ false
  no_member snap q =
      elim (cases_lt q (length h)) [
        | inl lt ↦ left_below s (length h) q lt
        | inr le ↦ elim (cases_Bool (set.contains s q)) [
          | inl y ↦ absurd (true≢false (sym (snap.commits q y) ∙ no_call_past h (λ call. bit committed call.tx) q le))
          | inr e ↦ left_from s (length h) q le ∙ e
        ]
      ]

  pub snapshot_counted : (members : ℕ) → AreCausedBelow h committed s (length h) members → members ≡ set.len s → splits_one h (set.contains s) (length committed) ≡ false → IsSnapshot h committed (set.contains s)
  snapshot_counted members c e none = snapshot_from h committed (set.contains s) (all_caused members c e) none

  pub counted_snapshot : (members : ℕ) → AreCausedBelow h committed s (length h) members → IsSnapshot h committed (set.contains s) → members ≡ set.len s
  counted_snapshot members c snap =
      let same : without s (length h) ≡ set.empty = set.same_set nat_cmp_total set.nat_cmp-IsAntisymmetric _ _ (λ q. no_member snap q ∙ sym (set.contains-empty nat_cmp q)) in
      let none : set.len (without s (length h)) ≡ 0 = ap (λ t. set.len t) same ∙ set.len-empty nat_cmp in
      let counted : members + set.len (without s (length h)) ≡ set.len s = c.counted in
      omega arith

  -- a member that isn't committed, or whose past isn't visible, is in no snapshot
  pub no_snapshot : (k : ℕ) → set.contains s k ≡ true → caused_at h committed (set.contains s) k ≡ false → IsSnapshot h committed (set.contains s) → ⊥
  no_snapshot k y e snap = true≢false (sym (caused_from h committed (set.contains s) snap k y) ∙ e)
