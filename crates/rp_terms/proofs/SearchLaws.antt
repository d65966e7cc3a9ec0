-- The search for a term along the numbers of its hash, from the last one back.
use Rattle.std.proofs.Common.{◌≡◌, ◌≢◌, ◌<◌, ◌≤◌, ◌⊎◌, inl, inr, ℕ, suc, length, List, Option, None, Some, slice_get, ap, sym, subst, ◌∙◌, arith, map}
use Rattle.rp_logic.specs.Terms.{Tm}
use Rattle.rp_terms.specs.Numbered.{HasNoNumber}
use Rattle.rp_terms.specs.means.Hash.{term_hash}
use Rattle.rp_terms.specs.means.Latest.{IsLatest}
use Rattle.rp_terms.proofs.Places.{within, mapped_at, mapped_length, lt_or_ge}

-- the term isn't among the numbers from a bound on, and the next to look at is the last of its hash below
abbrev pub IsSought : List Tm → Tm → Option ℕ → Type 0
IsSought terms t o =
    (bound : ℕ) × IsLatest (term_hash t) (map term_hash terms) bound o × ((i : ℕ) → bound ≤ i → slice_get terms i ≢ Some t)

pub sought_first : (terms : List Tm) (t : Tm) (h : ℕ) (hs : List ℕ) (o : Option ℕ) → h ≡ term_hash t → hs ≡ map term_hash terms
    → IsLatest h hs (length hs) o → IsSought terms t o
sought_first terms t h hs o e f l = (
  length (map term_hash terms),
  subst (λ (k : ℕ). IsLatest k (map term_hash terms) (length (map term_hash terms)) o) e
      (subst (λ (ks : List ℕ). IsLatest h ks (length ks) o) f l),
  λ i le at. let lt = within terms i t at in let same = mapped_length term_hash terms in absurd (omega (arith, le, lt, same)),
)

pub sought_next : (terms : List Tm) (t : Tm) (hs : List ℕ) (id : ℕ) (o : Option ℕ) → hs ≡ map term_hash terms
    → IsSought terms t (Some id) → slice_get terms id ≢ Some t
    → ((h : ℕ) → slice_get hs id ≡ Some h → IsLatest h hs id o) → IsSought terms t o
sought_next terms t hs id o f s other before = (
  id,
  subst (λ (ks : List ℕ). IsLatest (term_hash t) ks id o) f (before (term_hash t) (ap (λ ks. slice_get ks id) f ∙ s.1.0)),
  λ i le at. go i le at (elim (lt_or_ge id i) [ inl lt ↦ inr lt | inr ge ↦ inl (omega (arith, le, ge)) ]),
)
  where
    go : (i : ℕ) → id ≤ i → slice_get terms i ≡ Some t → (i ≡ id) ⊎ (id < i) → ⊥
    go i le at (inl e) = other (ap (slice_get terms) (sym e) ∙ at)
    go i le at (inr lt) = past i lt at (lt_or_ge i s.0)
      where
        past : (i : ℕ) → id < i → slice_get terms i ≡ Some t → (i < s.0) ⊎ (s.0 ≤ i) → ⊥
        past i lt at (inl below) = s.1.2 i lt below (mapped_at term_hash terms i t at)
        past i lt at (inr above) = s.2 i above at

pub sought_all : (terms : List Tm) (t : Tm) → IsSought terms t None → HasNoNumber terms t
sought_all terms t s i at = go (lt_or_ge i s.0)
  where
    go : (i < s.0) ⊎ (s.0 ≤ i) → ⊥
    go (inl below) = s.1 i below (mapped_at term_hash terms i t at)
    go (inr above) = s.2 i above at

-- it is a number, and the next one is below
pub sought_within : (terms : List Tm) (t : Tm) (id : ℕ) → IsSought terms t (Some id) → id < length terms
sought_within terms t id s =
    let lt = within (map term_hash terms) id (term_hash t) s.1.0 in
    let same = mapped_length term_hash terms in
    omega (arith, lt, same)

-- how many numbers are left to look at, at most
abbrev pub left_of : Option ℕ → ℕ
left_of None = 0
left_of (Some id) = suc id

pub fewer_left : (h : ℕ) (hs : List ℕ) (id : ℕ) (o : Option ℕ) → IsLatest h hs id o → left_of o < suc id
fewer_left h hs id None l = omega arith
fewer_left h hs id (Some at) l = let lt = l.1 in omega (arith, lt)
