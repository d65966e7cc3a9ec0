-- Each piece is a part of the bytes, and every text has tokens or a fault.
use Rattle.std.proofs.Common.{ℕ, zero, suc, ◌+◌, ◌<◌, ◌≤◌, List, [], ◌∷◌, length, drop, refl, ap, arith, length-append, length-drop, ◌⊎◌, inl, inr, ⊎_elim}
use Rattle.rp_grammar.specs.Pieces.{Begins, ended, blank, comment, token, number_range, open_string, bad_in_string, bad_byte, Shape}
use Rattle.rp_grammar.specs.Lexed.{Lexed, Faulty, token_at, Moves}
use Rattle.rp_grammar.specs.Scan.{piece_of}
use Rattle.rp_grammar.specs.declared.Token.{Token}
use Rattle.rp_grammar.specs.declared.TokenKind.{TokenKind}
use Rattle.rp_grammar.specs.declared.LexFault.{LexFault}
use Rattle.rp_grammar.specs.declared.Piece.{Piece}
use Rattle.rp_grammar.specs.declared.Piece.TheVariants as piece
use Rattle.rp_grammar.proofs.Shapes.{no_shape_empty}
use Rattle.rp_grammar.proofs.Sound.{sound}

shape_long : {k : TokenKind} (front : List ℕ) → Shape k front → 0 < length front
shape_long [] s = absurd (no_shape_empty refl s)
shape_long (b ∷ bs) s = omega arith

pub moves : {bytes : List ℕ} {found : Piece} → Begins bytes found → Moves bytes found
moves ended = refl
moves (blank k) = (omega arith, omega arith)
moves (comment body rest h e l) = (omega arith, omega (arith, ap length h, length-append body rest))
moves (token front rest h s l r) = (shape_long front s, omega (arith, ap length h, length-append front rest))
moves (number_range front rest h s l g) = let i = shape_long front s in omega (arith, ap length h, length-append front rest)
moves (open_string body rest h c e) = omega (arith, ap length h, length-append body rest)
moves (bad_in_string body b rest h c s) = omega (arith, ap length h, length-append body (b ∷ rest))
moves (bad_byte n) = omega arith

abbrev pub Answer : ℕ → List ℕ → Type 0
Answer p bytes = ((ts : List Token) × Lexed p bytes ts) ⊎ ((at : ℕ) × (f : LexFault) × Faulty p bytes at f)

step : (p : ℕ) (bytes : List ℕ) (found : Piece) → Begins bytes found → ((n : ℕ) → 0 < n → n ≤ length bytes → Answer (p + n) (drop n bytes)) → Answer p bytes
step p bytes piece.Ended b more = inl (_, Lexed.ended b)
step p bytes (piece.Gap n) b more =
    let m = moves b in
    ⊎_elim (λ x. inl (x.0, Lexed.gap b x.1)) (λ x. inr (x.0, x.1, Faulty.gap b x.2)) (more n m.0 m.1)
step p bytes (piece.Token k n) b more =
    let m = moves b in
    ⊎_elim (λ x. inl (token_at k p (p + n) ∷ x.0, Lexed.token b x.1)) (λ x. inr (x.0, x.1, Faulty.token b x.2)) (more n m.0 m.1)
step p bytes (piece.Fault n f) b more = inr (p + n, f, Faulty.fault b)

within : (fuel p : ℕ) (bytes : List ℕ) → length bytes ≤ fuel → Answer p bytes
within zero p bytes l = step p bytes (piece_of bytes) (sound bytes) (λ n low high. absurd (omega arith))
within (suc fuel) p bytes l = step p bytes (piece_of bytes) (sound bytes) (λ n low high. within fuel (p + n) (drop n bytes) (omega (arith, length-drop n bytes)))

pub answer : (bytes : List ℕ) → Answer 0 bytes
answer bytes = within (length bytes) 0 bytes (omega arith)
