-- Of the assigns that count the last is that to which all others have lesser stamps.
use Rattle.std.proofs.Common.{◌≡◌, ℕ, ◌<◌, ◌≤◌, Bool, true, false, nat_lt, List, length, Option, Some, None, slice_get, refl, sym, ap, ◌∙◌, subst, inl, inr, ltb-true, true≢false, arith}
use Rattle.rp_lang.specs.declared.op.OpDecl.{OpDecl}
use Rattle.rp_lang.specs.declared.op.OpKind.TheVariants.{Assign}
use Rattle.crdt_defs.specs.Calls.{Call}
use Rattle.crdt_defs.specs.Doing.{is_of}
use Rattle.crdt_defs.specs.Histories.{call_is}
use Rattle.crdt_defs.specs.Meaning.{among, stamp_of, latest}
use Rattle.crdt_defs.proofs.GotLemmas.{met-call}
use Rattle.crdt_defs.proofs.NewestLemmas.{IsBest, newest_best, newest_is_latest}
use Rattle.event_machine.specs.Machine.{Tx}
use Rattle.event_machine.specs.WellFormed.{IsCausal}
use Rattle.event_machine.proofs.PlaceLemmas.{same-or}
use Rattle.hist_struct.specs.Steps.{is_lesser}
use Rattle.hist_struct.proofs.CallFacts.{never-lesser, lesser-lesser, lesser-total}

-- the lesser stamp is the lesser number
less-stamp : (h : List Call) (c d : ℕ) → is_lesser h c d ≡ true → stamp_of (slice_get h c) < stamp_of (slice_get h d)
less-stamp h c d e =
    let a = met-call h (λ a. call_is h (λ b. nat_lt a.stamp b.stamp) d) c e in
    let b = met-call h (λ b. nat_lt a.0.stamp b.stamp) d a.2 in
    let l = ltb-true a.0.stamp b.0.stamp b.2 in
    let x = ap stamp_of a.1 in
    let y = ap stamp_of b.1 in
    omega (arith, l, x, y)

module _ (ops : List OpDecl) (h : List Call) (txs : List Tx) (history : IsCausal h txs) (counted : ℕ → Bool) where
  -- it is an assign that counts, and each other has a lesser stamp
  pub record IsLast (c : ℕ) : Type 0 where
    pub below : c < length h
    pub itself : among h counted (is_of ops Assign) c ≡ true
    pub others : (d : ℕ) → d < length h → among h counted (is_of ops Assign) d ≡ true → (d ≡ c → ⊥) → is_lesser h d c ≡ true

  best : (o : Option ℕ) → latest ops h counted ≡ o → IsBest (among h counted (is_of ops Assign)) (λ d. stamp_of (slice_get h d)) (length h) o
  best o e = subst (λ o. IsBest (among h counted (is_of ops Assign)) (λ d. stamp_of (slice_get h d)) (length h) o) (newest_is_latest ops h counted ∙ e)
      (newest_best (among h counted (is_of ops Assign)) (λ d. stamp_of (slice_get h d)) (length h))

  pub none-of : latest ops h counted ≡ None → (d : ℕ) → d < length h → among h counted (is_of ops Assign) d ≡ false
  none-of e d l = best None e d l

  pub last-of : (c : ℕ) → latest ops h counted ≡ Some c → IsLast c
  last-of c e =
      let f = best (Some c) e in
      record {
        below = f.below;
        itself = f.itself;
        others = λ d l a n. go d l a n (is_lesser h d c) refl f.below (f.greatest d l a);
      }
    where
      go : (d : ℕ) → d < length h → among h counted (is_of ops Assign) d ≡ true → (d ≡ c → ⊥) → (b : Bool) → is_lesser h d c ≡ b → c < length h
          → stamp_of (slice_get h d) ≤ stamp_of (slice_get h c) → is_lesser h d c ≡ true
      go d l a n true e lc m = e
      go d l a n false e lc m = let k = less-stamp h c d (lesser-total h txs history d c l lc n e) in absurd (omega (arith, k, m))

  pub is-last : (c : ℕ) → IsLast c → latest ops h counted ≡ Some c
  is-last c last = go (latest ops h counted) refl
    where
      go : (o : Option ℕ) → latest ops h counted ≡ o → latest ops h counted ≡ Some c
      go None e = absurd (true≢false (sym last.itself ∙ none-of e c last.below))
      go (Some b) e =
          let other = last-of b e in
          elim (same-or b c) [
            | inl same ↦ e ∙ ap (λ c. Some c) same
            | inr n ↦
                let x = other.others c last.below last.itself (λ q. n (sym q)) in
                let y = last.others b other.below other.itself n in
                absurd (true≢false (sym (lesser-lesser h txs history c b c x y) ∙ never-lesser h txs history c))
          ]
