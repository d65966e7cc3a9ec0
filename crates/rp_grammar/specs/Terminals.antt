-- The terminals of the grammar, and tokens as it sees them.
use Rattle.std.specs.Prelude.{ℕ, List}
use Rattle.rp_span.specs.declared.Span.{Span}
use Rattle.rp_grammar.specs.declared.terminal.Word.{Word}
use Rattle.rp_grammar.specs.declared.terminal.Symbol.{Symbol}

-- a name with its bytes, a number with its value, a string with the bytes that are meant
pub data Terminal : Type 0 where
  name : List ℕ → Terminal
  word : Word → Terminal
  int : ℕ → Terminal
  str : List ℕ → Terminal
  symbol : Symbol → Terminal
  end : Terminal

-- a token: its terminal, and where it stands
pub data Tok : Type 0 where
  at : Terminal → Span → Tok

-- a token with its nesting
pub data Placed : Type 0 where
  on : Terminal → Span → ℕ → Placed

abbrev pub plain : Placed → Tok
plain (on k s d) = at k s

abbrev pub nesting : Placed → ℕ
nesting (on k s d) = d
