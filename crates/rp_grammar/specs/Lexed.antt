-- The tokens of a text, and its first fault.
use Rattle.std.specs.Prelude.{ℕ, ◌+◌, ◌<◌, ◌≤◌, ◌≡◌, List, [], ◌∷◌, ◌++◌, ◌-◌, length, take, drop}
use Rattle.rp_grammar.specs.declared.TokenKind.{TokenKind}
use Rattle.rp_grammar.specs.declared.TokenKind.TheVariants as kind
use Rattle.rp_grammar.specs.declared.LexFault.{LexFault}
use Rattle.rp_grammar.specs.declared.Piece.{Piece}
use Rattle.rp_grammar.specs.declared.Piece.TheVariants as piece
use Rattle.rp_grammar.specs.declared.Token.{Token}
use Rattle.rp_grammar.specs.Pieces.{Begins, Shape}

abbrev pub token_at : TokenKind → ℕ → ℕ → Token
token_at k from to = record { kind = k; span = record { from = from; to = to } }

-- the tokens of the bytes, the first of which stands at p
pub data Lexed : ℕ → List ℕ → List Token → Type 0 where
  ended : {p : ℕ} {bytes : List ℕ} → Begins bytes piece.Ended → Lexed p bytes (token_at kind.End p p ∷ [])
  gap : {p n : ℕ} {bytes : List ℕ} {ts : List Token} → Begins bytes (piece.Gap n) → Lexed (p + n) (drop n bytes) ts → Lexed p bytes ts
  token : {p n : ℕ} {k : TokenKind} {bytes : List ℕ} {ts : List Token} → Begins bytes (piece.Token k n) → Lexed (p + n) (drop n bytes) ts → Lexed p bytes (token_at k p (p + n) ∷ ts)

-- the first fault of the bytes, the first of which stands at p
pub data Faulty : ℕ → List ℕ → ℕ → LexFault → Type 0 where
  gap : {p n at : ℕ} {bytes : List ℕ} {f : LexFault} → Begins bytes (piece.Gap n) → Faulty (p + n) (drop n bytes) at f → Faulty p bytes at f
  token : {p n at : ℕ} {k : TokenKind} {bytes : List ℕ} {f : LexFault} → Begins bytes (piece.Token k n) → Faulty (p + n) (drop n bytes) at f → Faulty p bytes at f
  fault : {p n : ℕ} {bytes : List ℕ} {f : LexFault} → Begins bytes (piece.Fault n f) → Faulty p bytes (p + n) f

-- how far a piece reaches
abbrev pub Moves : List ℕ → Piece → Type 0
Moves bytes piece.Ended = length bytes ≡ 0
Moves bytes (piece.Gap n) = (0 < n) × (n ≤ length bytes)
Moves bytes (piece.Token k n) = (0 < n) × (n ≤ length bytes)
Moves bytes (piece.Fault n f) = n < length bytes

-- the last token is the end of the text, and stands at its length
abbrev pub EndsAt : ℕ → List Token → Type 0
EndsAt n ts = (us : List Token) × (ts ≡ us ++ token_at kind.End n n ∷ [])

-- a token's span lies in the text, and the slice of its span is of its kind's form
abbrev pub Spelled : List ℕ → Token → Type 0
Spelled text t = (t.span.from ≤ t.span.to) × (t.span.to ≤ length text) × ((t.kind ≡ kind.End → ⊥) → Shape t.kind (take (t.span.to - t.span.from) (drop t.span.from text)))
