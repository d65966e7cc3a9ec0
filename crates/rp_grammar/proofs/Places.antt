-- Where the tokens of a text stand.
use Rattle.std.proofs.Common.{◌≡◌, ℕ, ◌+◌, ◌-◌, ◌≤◌, List, [], ◌∷◌, ◌++◌, length, take, drop, refl, sym, ap, subst, ◌∙◌, arith, length-drop}
use Rattle.std.specs.List.{AllByRecursion}
use Rattle.std.proofs.lemmas.List.{drop-drop, take_at}
use Rattle.rp_grammar.specs.Pieces.{Begins, Shape, ended, blank, comment, token, number_range, open_string, bad_in_string, bad_byte}
use Rattle.rp_grammar.specs.Lexed.{Lexed, token_at, EndsAt, Spelled}
use Rattle.rp_grammar.specs.declared.Token.{Token}
use Rattle.rp_grammar.specs.declared.TokenKind.TheVariants as kind
use Rattle.rp_grammar.specs.declared.Piece.{Piece}
use Rattle.rp_grammar.specs.declared.Piece.TheVariants as piece
use Rattle.rp_grammar.proofs.Moving.{moves}

pub ends_at : {p : ℕ} {bytes : List ℕ} {ts : List Token} → Lexed p bytes ts → EndsAt (p + length bytes) ts
ends_at {p = p} {bytes = bytes} (Lexed.ended b) =
    let m = moves b in
    let e : p ≡ p + length bytes = omega arith in
    ([], ap (λ n. token_at kind.End n n ∷ []) e)
ends_at {p = p} {bytes = bytes} (Lexed.gap {n = n} b l) =
    let m = moves b in
    let (us, h) = ends_at l in
    let e : p + n + length (drop n bytes) ≡ p + length bytes = omega (arith, length-drop n bytes, m.1) in
    (us, h ∙ ap (λ n. us ++ token_at kind.End n n ∷ []) e)
ends_at {p = p} {bytes = bytes} (Lexed.token {n = n} {k = k} b l) =
    let m = moves b in
    let (us, h) = ends_at l in
    let e : p + n + length (drop n bytes) ≡ p + length bytes = omega (arith, length-drop n bytes, m.1) in
    (token_at k p (p + n) ∷ us, ap (λ x. token_at k p (p + n) ∷ x) (h ∙ ap (λ n. us ++ token_at kind.End n n ∷ []) e))

abbrev pub ShapeOf : List ℕ → Piece → Type 0
ShapeOf bytes (piece.Token k n) = Shape k (take n bytes)
ShapeOf bytes piece.Ended = Unit {0}
ShapeOf bytes (piece.Gap n) = Unit {0}
ShapeOf bytes (piece.Fault n f) = Unit {0}

-- the bytes of a token are those of its length
shape_of : {bytes : List ℕ} {found : Piece} → Begins bytes found → ShapeOf bytes found
shape_of ended = tt
shape_of (blank h) = tt
shape_of (comment body rest h e l) = tt
shape_of (token {k = k} front rest h s l r) = subst (Shape k) (sym (ap (take (length front)) h ∙ take_at front rest (length front) refl)) s
shape_of (number_range front rest h s l g) = tt
shape_of (open_string body rest h c e) = tt
shape_of (bad_in_string body b rest h c s) = tt
shape_of (bad_byte n) = tt

pub all_spelled : {p : ℕ} {ts : List Token} {bytes : List ℕ} (text : List ℕ) → bytes ≡ drop p text → p ≤ length text → Lexed p bytes ts → AllByRecursion (Spelled text) ts
all_spelled {p = p} text h w (Lexed.ended b) = ((omega arith, w, λ no. absurd (no refl)), tt)
all_spelled {p = p} {bytes = bytes} text h w (Lexed.gap {n = n} b l) =
    let m = moves b in
    let within : p + n ≤ length text = omega (arith, m.1, ap length h, length-drop p text) in
    all_spelled text (ap (drop n) h ∙ drop-drop n p text) within l
all_spelled {p = p} {bytes = bytes} text h w (Lexed.token {n = n} {k = k} b l) =
    let m = moves b in
    let within : p + n ≤ length text = omega (arith, m.1, ap length h, length-drop p text) in
    let size : n ≡ p + n - p = omega arith in
    let form = subst (λ i. Shape k (take i (drop p text))) size (subst (λ x. Shape k (take n x)) h (shape_of b)) in
    ((omega arith, within, λ no. form), all_spelled text (ap (drop n) h ∙ drop-drop n p text) within l)
