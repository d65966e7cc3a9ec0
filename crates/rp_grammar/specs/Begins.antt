-- What the trees of tokens are, and what a fault's place means.
use Rattle.std.specs.Prelude.{ℕ, ◌+◌, ◌<◌, ◌≤◌, ◌≡◌, List, [], ◌∷◌, ◌++◌, take, length, map}
use Rattle.std.specs.List.{AllByRecursion}
use Rattle.rp_span.specs.declared.Span.{Span}
use Rattle.rp_grammar.specs.Terminals.{end, Tok, at, Placed, plain, nesting}
use Rattle.rp_grammar.specs.Trees.{DeclTree}
use Rattle.rp_grammar.specs.Decls.{Program}

-- the tree of these tokens
abbrev pub IsTree : List Tok → List DeclTree → Type 0
IsTree ts tree = (ms : List Placed) × (map plain ms ≡ ts) × Program ms tree

-- no token's nesting passes n
abbrev pub AtMost : ℕ → List Placed → Type 0
AtMost n ms = AllByRecursion (λ m. nesting m ≤ n) ms

-- the tree of these tokens, where no token's nesting passes n
abbrev pub IsTreeWithin : ℕ → List Tok → List DeclTree → Type 0
IsTreeWithin n ts tree = (ms : List Placed) × (map plain ms ≡ ts) × Program ms tree × AtMost n ms

-- some program begins with these tokens
abbrev pub Begins : List Tok → Type 0
Begins ts = (more : List Tok) × (tree : List DeclTree) × IsTree (ts ++ more) tree

-- some program begins with these tokens, and in it their nesting doesn't pass n
abbrev pub BeginsWithin : ℕ → List Tok → Type 0
BeginsWithin n ts = (ms more : List Placed) × (tree : List DeclTree) × Program (ms ++ more) tree × (map plain ms ≡ ts) × AtMost n ms

-- the first token such that the tokens up to and including it begin no program, where no earlier token's nesting passes n
abbrev pub IsFirstBad : ℕ → List Tok → ℕ → Type 0
IsFirstBad n ts k = (k < length ts) × BeginsWithin n (take k ts) × (Begins (take (k + 1) ts) → ⊥)

-- the first token whose nesting passes n, where the tokens up to and including it begin a program
abbrev pub IsTooDeep : ℕ → List Tok → ℕ → Type 0
IsTooDeep n ts k = (k < length ts) × (ms more : List Placed) × (m : Placed) × (tree : List DeclTree)
    × Program (ms ++ m ∷ more) tree × (map plain (ms ++ m ∷ []) ≡ take (k + 1) ts) × AtMost n ms × (n < nesting m)

-- the last token is the end of the text
abbrev pub EndsInEnd : List Tok → Type 0
EndsInEnd ts = (front : List Tok) × (s : Span) × (ts ≡ front ++ at end s ∷ [])
