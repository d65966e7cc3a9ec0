-- Which terminals the tokens of a text are.
use Rattle.std.specs.Prelude.{ℕ, ◌-◌, ◌≡◌, ◌==◌, if◌then◌else◌, IsTrue, List, [], ◌∷◌, ◌++◌, take, drop}
use Rattle.rp_span.specs.declared.Span.{Span}
use Rattle.rp_grammar.specs.declared.Token.{Token}
use Rattle.rp_grammar.specs.declared.TokenKind.{TokenKind}
use Rattle.rp_grammar.specs.declared.TokenKind.TheVariants as kind
use Rattle.rp_grammar.specs.declared.terminal.Word.{Word}
use Rattle.rp_grammar.specs.declared.terminal.Symbol.{Symbol}
use Rattle.rp_grammar.specs.Bytes.{is_plain, is_escaped, value}
use Rattle.rp_grammar.specs.Spelling.{spelling, mark}
use Rattle.rp_grammar.specs.Terminals.{Terminal, name, word, int, str, symbol, end, Tok, at}

-- the byte that a backslash and this byte mean: `n` means a newline, a quote and a backslash mean themselves
abbrev pub escaped : ℕ → ℕ
escaped b = if b == 110 then 10 else b

-- the bytes between a string's quotes, and the bytes that they mean
pub data Means : List ℕ → List ℕ → Type 0 where
  none : Means [] []
  plain : {b : ℕ} {bs ms : List ℕ} → IsTrue (is_plain b) → Means bs ms → Means (b ∷ bs) (b ∷ ms)
  escape : {b : ℕ} {bs ms : List ℕ} → IsTrue (is_escaped b) → Means bs ms → Means (92 ∷ b ∷ bs) (escaped b ∷ ms)

-- the terminal of a token with these bytes, of this kind
abbrev pub IsTerminal : List ℕ → TokenKind → Terminal → Type 0
IsTerminal bytes kind.Name k = k ≡ name bytes
IsTerminal bytes kind.Word k = (w : Word) × (bytes ≡ spelling w) × (k ≡ word w)
IsTerminal bytes kind.Int k = k ≡ int (value bytes)
IsTerminal bytes kind.Str k = (body meant : List ℕ) × (bytes ≡ 34 ∷ (body ++ 34 ∷ [])) × Means body meant × (k ≡ str meant)
IsTerminal bytes kind.Symbol k = (m : Symbol) × (bytes ≡ mark m) × (k ≡ symbol m)
IsTerminal bytes kind.End k = k ≡ end

abbrev pub slice : List ℕ → Span → List ℕ
slice text s = take (s.to - s.from) (drop s.from text)

-- these tokens of the text are these of the grammar, one by one
pub data ToksOf (text : List ℕ) : List Token → List Tok → Type 0 where
  none : ToksOf text [] []
  more : {t : Token} {ts : List Token} {k : Terminal} {us : List Tok} → IsTerminal (slice text t.span) t.kind k → ToksOf text ts us → ToksOf text (t ∷ ts) (at k t.span ∷ us)
