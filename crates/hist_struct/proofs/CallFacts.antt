-- What causal histories keep, said of numbers of calls: the axioms of one state.
use Rattle.std.proofs.Common.{◌≡◌, ◌≢◌, ℕ, ◌<◌, Bool, true, false, List, length, nat_eq, nat_lt, refl, ap, sym, ◌∙◌, subst, inl, inr, true≢false, eqb-true, eq-eqb, ltb-true, arith}
use Rattle.crdt_defs.specs.Calls.{Call}
use Rattle.crdt_defs.specs.Histories.{call_is, before, same_tx}
use Rattle.event_machine.specs.Machine.{Tx, is_in}
use Rattle.event_machine.specs.WellFormed.{At, Past, IsMarker, IsCausal}
use Rattle.event_machine.proofs.PlaceLemmas.{at-one, at-lt, at-exists, same-or, in-call_is, to-call_is}
use Rattle.hist_struct.specs.Steps.{is_lesser}

-- # Before, one transaction and lesser stamps, by the calls' records

pub in-before : (h : List Call) (c d : ℕ) → before h c d ≡ true → (call : Call) × At h d call × Past c call
in-before h c d e = in-call_is h (λ call. is_in call.past c) d e

pub to-before : (h : List Call) (c d : ℕ) (call : Call) → At h d call → Past c call → before h c d ≡ true
to-before h c d call a p = to-call_is h (λ call. is_in call.past c) d call a p

-- and_from calls, of one transaction
pub record Same (h : List Call) (c d : ℕ) : Type 0 where
  pub one : Call
  pub other : Call
  pub first : At h c one
  pub second : At h d other
  pub same : one.tx ≡ other.tx

pub in-same : (h : List Call) (c d : ℕ) → same_tx h c d ≡ true → Same h c d
in-same h c d e =
    let k = in-call_is h (λ a. call_is h (λ b. nat_eq a.tx b.tx) d) c e in
    let l = in-call_is h (λ b. nat_eq k.0.tx b.tx) d k.2 in
    record { one = k.0; other = l.0; first = k.1; second = l.1; same = eqb-true k.0.tx l.0.tx l.2 }

pub to-same : (h : List Call) (c d : ℕ) (a b : Call) → At h c a → At h d b → a.tx ≡ b.tx → same_tx h c d ≡ true
to-same h c d a b ac ad e = to-call_is h (λ a. call_is h (λ b. nat_eq a.tx b.tx) d) c a ac (to-call_is h (λ b. nat_eq a.tx b.tx) d b ad (eq-eqb a.tx b.tx e))

pub other-tx : (h : List Call) (c d : ℕ) (a b : Call) → At h c a → At h d b → same_tx h c d ≡ false → b.tx ≢ a.tx
other-tx h c d a b ac ad e q = true≢false (sym (to-same h c d a b ac ad (sym q)) ∙ e)

pub lt-true : (m n : ℕ) → m < n → nat_lt m n ≡ true
lt-true m n l = grind arith

pub in-lesser : (h : List Call) (c d : ℕ) → is_lesser h c d ≡ true → (a : Call) × (b : Call) × At h c a × At h d b × (a.stamp < b.stamp)
in-lesser h c d e =
    let k = in-call_is h (λ a. call_is h (λ b. nat_lt a.stamp b.stamp) d) c e in
    let l = in-call_is h (λ b. nat_lt k.0.stamp b.stamp) d k.2 in
    (k.0, l.0, k.1, l.1, ltb-true k.0.stamp l.0.stamp l.2)

pub to-lesser : (h : List Call) (c d : ℕ) (a b : Call) → At h c a → At h d b → a.stamp < b.stamp → is_lesser h c d ≡ true
to-lesser h c d a b ac ad e =
    to-call_is h (λ a. call_is h (λ b. nat_lt a.stamp b.stamp) d) c a ac (to-call_is h (λ b. nat_lt a.stamp b.stamp) d b ad (lt-true a.stamp b.stamp e))

pub is-false : (b : Bool) → (b ≡ true → ⊥) → b ≡ false
is-false true h = absurd (h refl)
is-false false h = refl

-- # Axioms 1 to 4 and 8, of a causal history

module _ (h : List Call) (txs : List Tx) (w : IsCausal h txs) where
  pub never-before : (c : ℕ) → before h c c ≡ false
  never-before c = is-false (before h c c) (λ e. let k = in-before h c c e in let l = w.earlier c c k.0 k.1 k.2 in omega (arith, l))

  pub before-before : (c d e : ℕ) → before h c d ≡ true → before h d e ≡ true → before h c e ≡ true
  before-before c d e p q =
      let k = in-before h c d p in
      let l = in-before h d e q in
      to-before h c e l.0 l.1 (w.closed e d c l.0 k.0 l.1 l.2 k.1 k.2)

  pub never-lesser : (c : ℕ) → is_lesser h c c ≡ false
  never-lesser c = is-false (is_lesser h c c) (λ e.
      let k = in-lesser h c c e in
      let s : k.0.stamp ≡ k.1.stamp = ap (λ (x : Call). x.stamp) (at-one h c k.0 k.1 k.2 k.3) in
      let l = k.4 in omega (arith, s, l))

  pub lesser-lesser : (c d e : ℕ) → is_lesser h c d ≡ true → is_lesser h d e ≡ true → is_lesser h c e ≡ true
  lesser-lesser c d e p q =
      let k = in-lesser h c d p in
      let l = in-lesser h d e q in
      let s : k.1.stamp ≡ l.0.stamp = ap (λ (x : Call). x.stamp) (at-one h d k.1 l.0 k.3 l.2) in
      let m = k.4 in
      let n = l.4 in
      to-lesser h c e k.0 l.1 k.2 l.3 (omega (arith, s, m, n))

  pub lesser-total : (c d : ℕ) → c < length h → d < length h → c ≢ d → is_lesser h c d ≡ false → is_lesser h d c ≡ true
  lesser-total c d lc ld n e =
      let a = at-exists h c lc in
      let b = at-exists h d ld in
      elim (same-or a.0.stamp b.0.stamp) [
        | inl q ↦ absurd (n (w.distinct c d a.0 b.0 a.1 b.1 q))
        | inr q ↦ to-lesser h d c b.0 a.0 b.1 a.1 (low a.0.stamp b.0.stamp q (λ l. true≢false (sym (to-lesser h c d a.0 b.0 a.1 b.1 l) ∙ e)))
      ]
    where
      low : (m n : ℕ) → m ≢ n → (m < n → ⊥) → n < m
      low m n q l = omega (arith, q, l)

  pub before-lesser : (c d : ℕ) → before h c d ≡ true → is_lesser h c d ≡ true
  before-lesser c d e =
      let k = in-before h c d e in
      let low = w.earlier d c k.0 k.1 k.2 in
      let high = at-lt h d k.0 k.1 in
      let a = at-exists h c (omega (arith, low, high)) in
      to-lesser h c d a.0 k.0 a.1 k.1 (w.rises d c k.0 a.0 k.1 k.2 a.1)

  pub same-itself : (c : ℕ) → c < length h → same_tx h c c ≡ true
  same-itself c lc = let a = at-exists h c lc in to-same h c c a.0 a.0 a.1 a.1 refl

  pub same-back : (c d : ℕ) → same_tx h c d ≡ true → same_tx h d c ≡ true
  same-back c d e = let k = in-same h c d e in to-same h d c k.other k.one k.second k.first (sym k.same)

  pub same-same : (c d e : ℕ) → same_tx h c d ≡ true → same_tx h d e ≡ true → same_tx h c e ≡ true
  same-same c d e p q =
      let k = in-same h c d p in
      let l = in-same h d e q in
      to-same h c e k.one l.other k.first l.second (k.same ∙ (ap (λ (x : Call). x.tx) (at-one h d k.other l.one k.second l.first) ∙ l.same))

  pub same-inv : (c d : ℕ) (a b : Call) → At h c a → At h d b → same_tx h c d ≡ true → a.inv ≡ b.inv
  same-inv c d a b ac ad e =
      let k = in-same h c d e in
      let t = w.has_tx c a ac in
      let u = w.has_tx d b ad in
      let q : a.tx ≡ b.tx = ap (λ (x : Call). x.tx) (at-one h c a k.one ac k.first) ∙ (k.same ∙ ap (λ (x : Call). x.tx) (at-one h d k.other b k.second ad)) in
      t.2 ∙ (ap (λ (x : Tx). x.inv) (at-one txs b.tx t.0 u.0 (subst (λ n. At txs n t.0) q t.1) u.1) ∙ sym u.2)

  pub one-past : (c d e : ℕ) → same_tx h c e ≡ true → same_tx h c d ≡ false → before h d c ≡ true → before h d e ≡ true
  one-past c d e s n p =
      let k = in-same h c e s in
      let l = in-before h d c p in
      let low = w.earlier c d l.0 l.1 l.2 in
      let high = at-lt h c l.0 l.1 in
      let b = at-exists h d (omega (arith, low, high)) in
      let past : Past d k.one = subst (λ x. Past d x) (at-one h c l.0 k.one l.1 k.first) l.2 in
      to-before h d e k.other k.second (w.outside c e d k.one k.other b.0 k.first k.second k.same b.1 (other-tx h c d k.one b.0 k.first b.1 n) past)

  pub one-future : (c d e : ℕ) → same_tx h c e ≡ true → same_tx h c d ≡ false → before h c d ≡ true → before h e d ≡ true
  one-future c d e s n p =
      let k = in-same h c e s in
      let l = in-before h c d p in
      to-before h e d l.0 l.1 (w.whole d c e l.0 k.one k.other l.1 l.2 k.first (λ q. other-tx h c d k.one l.0 k.first l.1 n (sym q)) k.second (sym k.same))

  pub in-line : (c d : ℕ) (a b : Call) → At h c a → At h d b → a.inv ≡ b.inv → c ≢ d → before h c d ≡ false → before h d c ≡ true
  in-line c d a b ac ad i n e = to-before h d c a ac (w.line d c b a ad ac (sym i) (low n (λ l. true≢false (sym (to-before h c d b ad (w.line c d a b ac ad i l)) ∙ e))))
    where
      low : c ≢ d → (c < d → ⊥) → d < c
      low q l = omega (arith, q, l)

  -- the marker of a call's transaction
  pub record Marker (c : ℕ) : Type 0 where
    pub place : ℕ
    pub mark : Call
    pub is : At h place mark
    pub same : same_tx h c place ≡ true
    pub marks : IsMarker mark
    pub first : c ≢ place → before h place c ≡ true

  pub marker : (c : ℕ) → c < length h → Marker c
  marker c lc =
      let a = at-exists h c lc in
      let k = w.marked c a.0 a.1 in
      let le = w.first k.0 c k.1 a.0 k.2 k.4 a.1 (sym k.3) in
      record {
        place = k.0;
        mark = k.1;
        is = k.2;
        same = to-same h c k.0 a.0 k.1 a.1 k.2 (sym k.3);
        marks = k.4;
        first = λ n. to-before h k.0 c a.0 a.1 (w.inside k.0 c k.1 a.0 k.2 a.1 k.3 (omega (arith, n, le)));
      }

  pub one-marker : (c d : ℕ) (a b : Call) → At h c a → At h d b → IsMarker a → IsMarker b → same_tx h c d ≡ true → c ≡ d
  one-marker c d a b ac ad ma mb e =
      let k = in-same h c d e in
      let q : a.tx ≡ b.tx = ap (λ (x : Call). x.tx) (at-one h c a k.one ac k.first) ∙ (k.same ∙ ap (λ (x : Call). x.tx) (at-one h d k.other b k.second ad)) in
      let l = w.first c d a b ac ma ad (sym q) in
      let m = w.first d c b a ad mb ac q in
      omega (arith, l, m)
