-- Tables hold what they were made of.
use Rattle.std.proofs.Common.{◌≡◌, ℕ, zero, suc, ◌<◌, ◌≤◌, nat_lt, List, ◌++◌, Bool, true, false, ◌&&◌, cond, Some, refl, sym, ap, ◌∙◌, eqb, eqb-true, eq-eqb, ne_eqb, ltb-true, ltb-false, true≢false, ◌⊎◌, inl, inr, arith}
use Rattle.rp_logic.proofs.ElementLaws.{sames-are}
use Rattle.std.proofs.lemmas.Bool.{eqb-false}
use Rattle.rp_logic.specs.Elements.{Elem, Elems, same_elems}
use Rattle.rp_logic.specs.Structures.{look_up, apply, is_related}
use Rattle.hist_struct.specs.Tables.{one_point, two_points, entries, pairs, set_relation, pair_relation, table}

and-true : (b : Bool) → b && true ≡ b
and-true true = refl
and-true false = refl

and-no : (b : Bool) → b && false ≡ false
and-no true = refl
and-no false = refl

same-point : (n c : ℕ) → same_elems (one_point n) (one_point c) ≡ eqb n c
same-point n c = and-true (eqb n c)

same-points : (m n c d : ℕ) → same_elems (two_points m n) (two_points c d) ≡ (eqb m c && eqb n d)
same-points m n c d = ap (λ b. eqb m c && b) (and-true (eqb n d))

below : (n c : ℕ) → c < suc n → (n ≡ c → ⊥) → c < n
below n c lt k = omega (arith, k)

pub found-at : {A : Type 0} (f : ℕ → A) (other : A) (n c : ℕ) → c < n → look_up (entries one_point f n) other (one_point c) ≡ f c
found-at f other zero c lt = absurd (omega arith)
found-at {A} f other (suc n) c lt = go (eqb n c) refl (λ k. found-at f other n c k)
  where
    go : (b : Bool) → eqb n c ≡ b → (c < n → look_up (entries one_point f n) other (one_point c) ≡ f c) → look_up (entries one_point f (suc n)) other (one_point c) ≡ f c
    go true e later = ap (λ b. cond b (f n) (look_up (entries one_point f n) other (one_point c))) (same-point n c ∙ e) ∙ ap f (eqb-true n c e)
    go false e later = ap (λ b. cond b (f n) (look_up (entries one_point f n) other (one_point c))) (same-point n c ∙ e) ∙ later (below n c lt (eqb-false n c e))

-- past the end there is the default
pub none-at : {A : Type 0} (f : ℕ → A) (other : A) (n c : ℕ) → n ≤ c → look_up (entries one_point f n) other (one_point c) ≡ other
none-at f other zero c le = refl
none-at f other (suc n) c le =
    ap (λ b. cond b (f n) (look_up (entries one_point f n) other (one_point c))) (same-point n c ∙ ne_eqb n c (λ e. absurd (omega (arith, e, le)))) ∙ none-at f other n c (omega arith)

pub in-set : (f : ℕ → Bool) (n c : ℕ) → is_related (Some (set_relation f n)) (one_point c) ≡ f c && nat_lt c n
in-set f n c = go (nat_lt c n) refl
  where
    go : (b : Bool) → nat_lt c n ≡ b → look_up (entries one_point f n) false (one_point c) ≡ f c && b
    go true e = found-at f false n c (ltb-true c n e) ∙ sym (and-true (f c))
    go false e = none-at f false n c (ltb-false c n e) ∙ sym (and-no (f c))

pub in-table : (f : ℕ → Elem) (n c : ℕ) → c < n → apply (Some (table f n)) (one_point c) ≡ f c
in-table f n c lt = found-at f _ n c lt

-- # Pairs

skip-row : (g : ℕ → Bool) (m n c d : ℕ) (rest : List (Elems × Bool)) → eqb m c ≡ false → look_up (entries (two_points m) g n ++ rest) false (two_points c d) ≡ look_up rest false (two_points c d)
skip-row g m zero c d rest e = refl
skip-row g m (suc n) c d rest e =
    ap (λ b. cond b (g n) (look_up (entries (two_points m) g n ++ rest) false (two_points c d))) (same-points m n c d ∙ ap (λ b. b && eqb n d) e) ∙ skip-row g m n c d rest e

in-row : (g : ℕ → Bool) (m n d : ℕ) (rest : List (Elems × Bool)) → d < n → look_up (entries (two_points m) g n ++ rest) false (two_points m d) ≡ g d
in-row g m zero d rest lt = absurd (omega arith)
in-row g m (suc n) d rest lt = go (eqb n d) refl (λ k. in-row g m n d rest k)
  where
    key : (b : Bool) → eqb n d ≡ b → same_elems (two_points m n) (two_points m d) ≡ b
    key b e = same-points m n m d ∙ (ap (λ x. x && eqb n d) (eq-eqb m m refl) ∙ e)

    go : (b : Bool) → eqb n d ≡ b → (d < n → look_up (entries (two_points m) g n ++ rest) false (two_points m d) ≡ g d) → look_up (entries (two_points m) g (suc n) ++ rest) false (two_points m d) ≡ g d
    go true e later = ap (λ b. cond b (g n) (look_up (entries (two_points m) g n ++ rest) false (two_points m d))) (key true e) ∙ ap g (eqb-true n d e)
    go false e later = ap (λ b. cond b (g n) (look_up (entries (two_points m) g n ++ rest) false (two_points m d))) (key false e) ∙ later (below n d lt (eqb-false n d e))

pub pairs-at : (f : ℕ → ℕ → Bool) (n m c d : ℕ) → c < m → d < n → look_up (pairs f n m) false (two_points c d) ≡ f c d
pairs-at f n zero c d lc ld = absurd (omega arith)
pairs-at f n (suc m) c d lc ld = go (eqb m c) refl (λ k. pairs-at f n m c d k ld)
  where
    go : (b : Bool) → eqb m c ≡ b → (c < m → look_up (pairs f n m) false (two_points c d) ≡ f c d) → look_up (entries (two_points m) (f m) n ++ pairs f n m) false (two_points c d) ≡ f c d
    go true e later = ap (λ k. look_up (entries (two_points k) (f k) n ++ pairs f n m) false (two_points c d)) (eqb-true m c e) ∙ in-row (f c) c n d (pairs f n m) ld
    go false e later = skip-row (f m) m n c d (pairs f n m) e ∙ later (below m c lc (eqb-false m c e))

pub in-pairs : (f : ℕ → ℕ → Bool) (n c d : ℕ) → c < n → d < n → is_related (Some (pair_relation f n)) (two_points c d) ≡ f c d
in-pairs f n c d lc ld = pairs-at f n n c d lc ld

-- # What is found in pairs

found-row : (g : ℕ → Bool) (m n : ℕ) (rest : List (Elems × Bool)) (xs : Elems) → look_up (entries (two_points m) g n ++ rest) false xs ≡ true
    → ((d : ℕ) × (xs ≡ two_points m d) × (g d ≡ true) × (d < n)) ⊎ (look_up rest false xs ≡ true)
found-row g m zero rest xs h = inr h
found-row g m (suc n) rest xs h = go (same_elems (two_points m n) xs) refl (λ k. found-row g m n rest xs k) h
  where
    go : (b : Bool) → same_elems (two_points m n) xs ≡ b
        → (look_up (entries (two_points m) g n ++ rest) false xs ≡ true → ((d : ℕ) × (xs ≡ two_points m d) × (g d ≡ true) × (d < n)) ⊎ (look_up rest false xs ≡ true)) → cond b (g n) (look_up (entries (two_points m) g n ++ rest) false xs) ≡ true
        → ((d : ℕ) × (xs ≡ two_points m d) × (g d ≡ true) × (d < suc n)) ⊎ (look_up rest false xs ≡ true)
    go true e later h = inl (n, sym (sames-are (two_points m n) xs e), h, omega arith)
    go false e later h = elim (later h) [ inl k ↦ let l = k.3 in inl (k.0, k.1, k.2, omega (arith, l)) | inr k ↦ inr k ]

pub found-pair : (f : ℕ → ℕ → Bool) (n m : ℕ) (xs : Elems) → look_up (pairs f n m) false xs ≡ true → (c : ℕ) × (d : ℕ) × (xs ≡ two_points c d) × (f c d ≡ true) × (c < m) × (d < n)
found-pair f n zero xs h = absurd (true≢false (sym h))
found-pair f n (suc m) xs h = elim (found-row (f m) m n (pairs f n m) xs h) [
  | inl k ↦ (m, k.0, k.1, k.2, omega arith, k.3)
  | inr k ↦ let r = found-pair f n m xs k in let l = r.4 in (r.0, r.1, r.2, r.3, omega (arith, l), r.5)
]
