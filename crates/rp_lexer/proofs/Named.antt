-- What is found by its text.
use Rattle.std.proofs.Common.{◌≡◌, ◌+◌, ◌<◌, ℕ, ◌≤◌, Bool, true, false, ◌&&◌, cond, List, [], ◌∷◌, drop, length, map, refl, ap, sym, ◌∙◌, arith, ⊎_elim, Some}
use Rattle.std.specs.Prelude.{nat_le, slice_index_or}
use Rattle.std.specs.Option.{is_some}
use Rattle.std.specs.Str.{bytes_eq}
use Rattle.std.proofs.lemmas.Bool.{cases_Bool, and_parts}
use Rattle.std.proofs.lemmas.Bool.Decides.{nat_tests, eqb_tells}
use Rattle.std.proofs.lemmas.List.{at_drop_more}
use Rattle.std.proofs.lemmas.Slice.Eq.{bytes_eq-Decides}
use Rattle.rp_grammar.specs.Bytes.{is_one_of}
use Rattle.rp_lexer.specs.means.Named.{named, sized}

differs : (w bs : List ℕ) → (length w ≡ length bs → ⊥) → bytes_eq w bs ≡ false
differs w bs h = ⊎_elim (λ e. absurd (h (ap length ((bytes_eq-Decides w bs).0 e)))) (λ e. e) (cases_Bool (bytes_eq w bs))

-- only texts of its own length are a text's
pub named_sized : {X : Type 0} (text : X → List ℕ) (n : ℕ) (xs : List X) (bs : List ℕ) → length bs ≡ n → named text (sized text n xs) bs ≡ named text xs bs
named_sized text n [] bs h = refl
named_sized text n (x ∷ xs) bs h =
    let later = named_sized text n xs bs h in
    ⊎_elim
    (λ e. rw (e.0, later) refl)
    (λ e. rw (e.0, differs (text x) bs (λ i. e.1 (i ∙ h))) later)
    (eqb_tells (length (text x)) n)

abbrev pub is_within : ℕ → ℕ → List ℕ → Bool
is_within low high bs = nat_le low (length bs) && nat_le (length bs) high

-- the texts have from low to high bytes
abbrev pub all_within : {X : Type 0} → (X → List ℕ) → ℕ → ℕ → List X → Bool
all_within text low high [] = true
all_within text low high (x ∷ xs) = is_within low high (text x) && all_within text low high xs

outside : (low high a n : ℕ) → nat_le low a && nat_le a high ≡ true → a ≡ n → (low ≤ n → n ≤ high → ⊥) → ⊥
outside low high a n within e h =
    let (least, most) = and_parts (nat_le low a) (nat_le a high) within in
    h (grind (arith, nat_tests)) (grind (arith, nat_tests))

pub sized_within : {X : Type 0} (text : X → List ℕ) (low high n : ℕ) (xs : List X) → all_within text low high xs ≡ true → (low ≤ n → n ≤ high → ⊥)
    → sized text n xs ≡ []
sized_within text low high n [] a h = refl
sized_within text low high n (x ∷ xs) a h =
    let (here, others) = and_parts (is_within low high (text x)) (all_within text low high xs) a in
    ⊎_elim
    (λ e. absurd (outside low high (length (text x)) n here e.1 h))
    (λ e. rw e.0 (sized_within text low high n xs others h))
    (eqb_tells (length (text x)) n)

named_next : {X : Type 0} (text : X → List ℕ) (xs : List X) (bs : List ℕ) (i : ℕ) (d : X) → i < length xs
    → named text (drop i xs) bs
    ≡ cond (bytes_eq (text (slice_index_or xs i d)) bs) (Some (slice_index_or xs i d)) (named text (drop (i + 1) xs) bs)
named_next text xs bs i d h = at_drop_more (λ ys. named text ys bs) xs i d h

-- the item that a walk is at, where the bytes are its text, and the others, where they aren't

pub here_named : {X : Type 0} (text : X → List ℕ) (xs : List X) (bs : List ℕ) (i : ℕ) (d : X) (t : List ℕ) (same : Bool) → i < length xs
    → t ≡ text (slice_index_or xs i d) → same ≡ bytes_eq t bs → same ≡ true → named text (drop i xs) bs ≡ named text xs bs
    → Some (slice_index_or xs i d) ≡ named text xs bs
here_named text xs bs i d t same h spelled tested told kept =
    let test : bytes_eq (text (slice_index_or xs i d)) bs ≡ true = sym (ap (λ z. bytes_eq z bs) spelled) ∙ sym tested ∙ told in
    sym (named_next text xs bs i d h ∙ ap (λ b. cond b (Some (slice_index_or xs i d)) (named text (drop (i + 1) xs) bs)) test) ∙ kept

pub others_named : {X : Type 0} (text : X → List ℕ) (xs : List X) (bs : List ℕ) (i : ℕ) (d : X) (t : List ℕ) (same : Bool) → i < length xs
    → t ≡ text (slice_index_or xs i d) → same ≡ bytes_eq t bs → same ≡ false → named text (drop i xs) bs ≡ named text xs bs
    → named text (drop (i + 1) xs) bs ≡ named text xs bs
others_named text xs bs i d t same h spelled tested told kept =
    let test : bytes_eq (text (slice_index_or xs i d)) bs ≡ false = sym (ap (λ z. bytes_eq z bs) spelled) ∙ sym tested ∙ told in
    sym (named_next text xs bs i d h ∙ ap (λ b. cond b (Some (slice_index_or xs i d)) (named text (drop (i + 1) xs) bs)) test) ∙ kept

-- an item is found where the text is one of the items' texts
pub is_some-named : {X : Type 0} (text : X → List ℕ) (xs : List X) (bs : List ℕ) → is_some (named text xs bs) ≡ is_one_of (map text xs) bs
is_some-named text [] bs = refl
is_some-named text (x ∷ xs) bs =
    ⊎_elim
    (λ e. rw e refl)
    (λ e. rw e (is_some-named text xs bs))
    (cases_Bool (bytes_eq (text x) bs))
