-- Which tree the bytes of a text are, and where they are no program.
use Rattle.std.specs.Prelude.{ℕ, ◌≡◌, List, Some, slice_get}
use Rattle.rp_span.specs.declared.Span.{Span}
use Rattle.rp_grammar.specs.declared.Token.{Token}
use Rattle.rp_grammar.specs.Lexed.{Lexed}
use Rattle.rp_grammar.specs.Terminals.{Terminal, Tok, at}
use Rattle.rp_grammar.specs.Toks.{ToksOf}
use Rattle.rp_grammar.specs.Trees.{DeclTree}
use Rattle.rp_grammar.specs.Begins.{IsTree, IsTreeWithin, IsFirstBad, IsTooDeep}

-- the bytes have these tokens
abbrev pub HasToks : List ℕ → List Tok → Type 0
HasToks bytes toks = (tokens : List Token) × Lexed 0 bytes tokens × ToksOf bytes tokens toks

-- the bytes are a program with this tree
abbrev pub IsText : List ℕ → List DeclTree → Type 0
IsText bytes tree = (toks : List Tok) × HasToks bytes toks × IsTree toks tree

-- the same, where no token's nesting passes n
abbrev pub IsTextWithin : ℕ → List ℕ → List DeclTree → Type 0
IsTextWithin n bytes tree = (toks : List Tok) × HasToks bytes toks × IsTreeWithin n toks tree

-- the k-th token, from 0, stands at the byte p
abbrev pub StandsAt : List Tok → ℕ → ℕ → Type 0
StandsAt toks k p = (t : Terminal) × (s : Span) × (slice_get toks k ≡ Some (at t s)) × (s.from ≡ p)

-- at the byte p stands the first token that can't follow in a program, where no earlier token's nesting passes n
abbrev pub IsBadAt : ℕ → List ℕ → ℕ → Type 0
IsBadAt n bytes p = (toks : List Tok) × (k : ℕ) × HasToks bytes toks × IsFirstBad n toks k × StandsAt toks k p

-- at the byte p stands the first token whose nesting passes n, where the tokens up to and including it begin a program
abbrev pub IsTooDeepAt : ℕ → List ℕ → ℕ → Type 0
IsTooDeepAt n bytes p = (toks : List Tok) × (k : ℕ) × HasToks bytes toks × IsTooDeep n toks k × StandsAt toks k p
