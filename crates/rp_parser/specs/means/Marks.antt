-- The tokens of the grammar that marks stand for.
use Rattle.std.specs.Prelude.{ℕ, Bool, false, ◌==◌, if◌then◌else◌, List, [], ◌∷◌, map}
use Rattle.rp_grammar.specs.declared.terminal.Symbol.{Symbol}
use Rattle.rp_grammar.specs.declared.terminal.Word.{Word}
use Rattle.rp_grammar.specs.Terminals.{Terminal, name, word, int, str, symbol, end, Tok, at}
use Rattle.rp_grammar.specs.Toks.{escaped, slice}
use Rattle.rp_grammar.specs.declared.Token.{Token}
use Rattle.rp_grammar.specs.Lexed.{Spelled}
use Rattle.rp_grammar.specs.Pieces.{InRange}
use Rattle.rp_tokens.specs.MachineStates.{is_symbol, is_word}
use Rattle.rp_parser.specs.declared.mark.Kind.{Kind}
use Rattle.rp_parser.specs.declared.mark.Kind.TheVariants as kind
use Rattle.rp_parser.specs.declared.mark.Mark.{Mark}

-- the bytes that a string's inside means: a backslash, 92, gives its sense to the byte behind it
abbrev pub meant : List ℕ → List ℕ
meant [] = []
meant (b ∷ []) = b ∷ []
meant (b ∷ c ∷ bs) = if b == 92 then escaped c ∷ meant bs else b ∷ meant (c ∷ bs)

abbrev pub terminal_of : Kind → Terminal
terminal_of (kind.Name bytes) = name bytes.now
terminal_of (kind.Word w) = word w
terminal_of (kind.Int i) = int i
terminal_of (kind.Str inside) = str (meant inside.now)
terminal_of (kind.Symbol m) = symbol m
terminal_of kind.End = end

abbrev pub tok_of : Mark → Tok
tok_of m = at (terminal_of m.kind) m.span

abbrev pub toks : List Mark → List Tok
toks ms = map tok_of ms

-- the first token is this symbol
abbrev pub next_is : Symbol → List Tok → Bool
next_is m [] = false
next_is m (at x s ∷ ts) = is_symbol m x

-- the first token is this word
abbrev pub next_is_word : Word → List Tok → Bool
next_is_word w [] = false
next_is_word w (at x s ∷ ts) = is_word w x

-- a token's bytes are of its kind's form, and a number isn't too great
abbrev pub IsReadable : List ℕ → Token → Type 0
IsReadable text t = Spelled text t × InRange t.kind (slice text t.span)
