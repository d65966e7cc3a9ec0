-- What stands at the front of some bytes.
use Rattle.std.specs.Prelude.{ℕ, ◌+◌, ◌<◌, ◌≤◌, ◌≡◌, ◌≢◌, Bool, IsTrue, List, [], ◌∷◌, ◌++◌, length}
use Rattle.rp_grammar.specs.Bytes.{is_blank, is_letter, is_digit, is_name_byte, is_plain, is_escaped, is_inline, is_one_of, symbols, reserved, value, greatest}
use Rattle.rp_grammar.specs.declared.TokenKind.{TokenKind}
use Rattle.rp_grammar.specs.declared.TokenKind.TheVariants as kind
use Rattle.rp_grammar.specs.declared.LexFault.TheVariants as fault
use Rattle.rp_grammar.specs.declared.Piece.{Piece}
use Rattle.rp_grammar.specs.declared.Piece.TheVariants as piece

-- each byte passes the test
abbrev pub Every : (ℕ → Bool) → List ℕ → Type 0
Every p [] = Unit {0}
Every p (b ∷ bs) = IsTrue (p b) × Every p bs

-- what stands between a string's quotes
pub data Chars : List ℕ → Type 0 where
  none : Chars []
  plain : {b : ℕ} {bs : List ℕ} → IsTrue (is_plain b) → Chars bs → Chars (b ∷ bs)
  escape : {b : ℕ} {bs : List ℕ} → IsTrue (is_escaped b) → Chars bs → Chars (92 ∷ b ∷ bs)

-- the bytes are one token of this kind; of a number with any value
pub data Shape : TokenKind → List ℕ → Type 0 where
  name : {b : ℕ} {bs : List ℕ} → IsTrue (is_letter b) → Every is_name_byte bs → (IsTrue (is_one_of reserved (b ∷ bs)) → ⊥) → Shape kind.Name (b ∷ bs)
  word : {bs : List ℕ} → IsTrue (is_one_of reserved bs) → Shape kind.Word bs
  int : {b : ℕ} {bs : List ℕ} → IsTrue (is_digit b) → Every is_digit bs → Shape kind.Int (b ∷ bs)
  str : {bs : List ℕ} (body : List ℕ) → bs ≡ 34 ∷ (body ++ 34 ∷ []) → Chars body → Shape kind.Str bs
  symbol : {bs : List ℕ} → IsTrue (is_one_of symbols bs) → Shape kind.Symbol bs

-- no longer front is a token
abbrev pub Longest : List ℕ → List ℕ → Type 0
Longest front rest = (k : TokenKind) (more after : List ℕ) → rest ≡ more ++ after → Shape k (front ++ more) → more ≡ []

-- a number's value is one that a program may write
abbrev pub InRange : TokenKind → List ℕ → Type 0
InRange k front = k ≡ kind.Int → value front ≤ greatest

-- the end, or a newline
abbrev pub EndsLine : List ℕ → Type 0
EndsLine [] = Unit {0}
EndsLine (b ∷ bs) = b ≡ 10

abbrev pub BeginsEscaped : List ℕ → Type 0
BeginsEscaped [] = ⊥
BeginsEscaped (b ∷ bs) = IsTrue (is_escaped b)

-- inside a string a byte that its form doesn't allow
pub record Stray (b : ℕ) (rest : List ℕ) : Type 0 where
  pub not_plain : IsTrue (is_plain b) → ⊥
  pub not_quote : b ≢ 34
  pub not_newline : b ≢ 10
  pub not_escape : b ≡ 92 → BeginsEscaped rest → ⊥

-- nothing begins here
pub record Nothing (b : ℕ) (rest : List ℕ) : Type 0 where
  pub no_blank : IsTrue (is_blank b) → ⊥
  pub no_quote : b ≢ 34
  pub no_comment : (after : List ℕ) → b ∷ rest ≡ 47 ∷ 47 ∷ after → ⊥
  pub no_token : (k : TokenKind) (front after : List ℕ) → b ∷ rest ≡ front ++ after → Shape k front → ⊥

pub data Begins : List ℕ → Piece → Type 0 where
  ended : Begins [] piece.Ended
  blank : {b : ℕ} {rest : List ℕ} → IsTrue (is_blank b) → Begins (b ∷ rest) (piece.Gap 1)
  comment : {bytes : List ℕ} (body rest : List ℕ) → bytes ≡ 47 ∷ 47 ∷ (body ++ rest) → Every is_inline body → EndsLine rest → Begins bytes (piece.Gap (2 + length body))
  token : {bytes : List ℕ} {k : TokenKind} (front rest : List ℕ) → bytes ≡ front ++ rest → Shape k front → Longest front rest → InRange k front → Begins bytes (piece.Token k (length front))
  number_range : {bytes : List ℕ} (front rest : List ℕ) → bytes ≡ front ++ rest → Shape kind.Int front → Longest front rest → greatest < value front → Begins bytes (piece.Fault 0 fault.NumberRange)
  open_string : {bytes : List ℕ} (body rest : List ℕ) → bytes ≡ 34 ∷ (body ++ rest) → Chars body → EndsLine rest → Begins bytes (piece.Fault 0 fault.OpenString)
  bad_in_string : {bytes : List ℕ} (body : List ℕ) (b : ℕ) (rest : List ℕ) → bytes ≡ 34 ∷ (body ++ b ∷ rest) → Chars body → Stray b rest → Begins bytes (piece.Fault (1 + length body) fault.BadByte)
  bad_byte : {b : ℕ} {rest : List ℕ} → Nothing b rest → Begins (b ∷ rest) (piece.Fault 0 fault.BadByte)
