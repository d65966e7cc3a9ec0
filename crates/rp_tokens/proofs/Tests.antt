-- What the tests of a token say, and which tokens go on with which phrases.
use Rattle.std.proofs.Common.{◌≡◌, ℕ, ◌<◌, Bool, true, false, not, cond, List, [], ◌∷◌, Some, None, IsTrue, refl, sym, ap, ◌∙◌, arith}
use Rattle.std.proofs.lemmas.Slice.Eq.{bytes_eq-Decides}
use Rattle.rp_grammar.specs.declared.terminal.Word.{Word}
use Rattle.rp_grammar.specs.declared.terminal.Symbol.{Symbol}
use Rattle.rp_grammar.specs.declared.terminal.Symbol.TheVariants as symbol
use Rattle.rp_grammar.specs.Spelling.{spelling, mark, word_of, symbol_of}
use Rattle.rp_grammar.specs.Terminals.{Terminal, name, word, int, str, symbol, end, Placed, on}
use Rattle.rp_grammar.specs.Exprs.{goes_on, stops}
use Rattle.rp_grammar.proofs.Tables.{word_of-spelling, symbol_of-mark}
use Rattle.rp_tokens.specs.MachineStates.{is_symbol, is_word}
use Rattle.rp_tokens.specs.MachineExprs.{comparison}

same_symbol : (m s : Symbol) → Some m ≡ Some s → m ≡ s
same_symbol m s h = cc

same_word : (w v : Word) → Some w ≡ Some v → w ≡ v
same_word w v h = cc

pub symbol_is : (m : Symbol) (x : Terminal) → is_symbol m x ≡ true → x ≡ symbol m
symbol_is m (symbol s) h = ap symbol (sym (same_symbol m s (sym (symbol_of-mark m) ∙ ap symbol_of ((bytes_eq-Decides (mark m) (mark s)).0 h) ∙ symbol_of-mark s)))
symbol_is m (name n) h = cc
symbol_is m (word w) h = cc
symbol_is m (int i) h = cc
symbol_is m (str b) h = cc
symbol_is m end h = cc

pub word_is : (w : Word) (x : Terminal) → is_word w x ≡ true → x ≡ word w
word_is w (word v) h = ap word (sym (same_word w v (sym (word_of-spelling w) ∙ ap word_of ((bytes_eq-Decides (spelling w) (spelling v)).0 h) ∙ word_of-spelling v)))
word_is w (name n) h = cc
word_is w (symbol m) h = cc
word_is w (int i) h = cc
word_is w (str b) h = cc
word_is w end h = cc

-- the next token is this symbol
abbrev pub next_is : Symbol → List Placed → Bool
next_is m [] = false
next_is m (on x s d ∷ r) = is_symbol m x

-- the next token is this word
abbrev pub next_word : Word → List Placed → Bool
next_word w [] = false
next_word w (on x s d ∷ r) = is_word w x

pub cond_false {ℓ} : {A : Type ℓ} (v : Bool) (a b : A) → v ≡ false → cond v a b ≡ b
cond_false true a b h = absurd (cc h)
cond_false false a b h = refl

-- how loosely a symbol binds what stands before it: a phrase takes the tokens that bind no looser than its own
abbrev pub symbol_looseness : Symbol → ℕ
symbol_looseness symbol.Dot = 1
symbol_looseness symbol.OpenBracket = 1
symbol_looseness symbol.OpenParen = 1
symbol_looseness symbol.Plus = 2
symbol_looseness symbol.Minus = 2
symbol_looseness symbol.Equal = 3
symbol_looseness symbol.NotEqual = 3
symbol_looseness symbol.Less = 3
symbol_looseness symbol.AtMost = 3
symbol_looseness symbol.Greater = 3
symbol_looseness symbol.AtLeast = 3
symbol_looseness symbol.And = 4
symbol_looseness symbol.Or = 5
symbol_looseness symbol.Implies = 6
symbol_looseness symbol.Comma = 7
symbol_looseness _ = 8

abbrev pub looseness : Terminal → ℕ
looseness (symbol m) = symbol_looseness m
looseness _ = 8

abbrev pub loose : List Placed → ℕ
loose [] = 8
loose (on x s d ∷ r) = looseness x

not_itself : (n m : ℕ) → n ≡ m → m < n → ⊥
not_itself n m e h = omega arith

not_symbol : (m : Symbol) (x : Terminal) (v : Bool) → is_symbol m x ≡ v → symbol_looseness m < looseness x → v ≡ false
not_symbol m x true e h = absurd (not_itself (looseness x) (symbol_looseness m) (ap looseness (symbol_is m x e)) h)
not_symbol m x false e h = refl

-- a looser token isn't this symbol
pub not_next : (m : Symbol) (us : List Placed) → symbol_looseness m < loose us → next_is m us ≡ false
not_next m [] h = refl
not_next m (on x s d ∷ r) h = not_symbol m x (is_symbol m x) refl h

pub no_comparison : (x : Terminal) → 3 < looseness x → comparison x ≡ None
no_comparison (symbol symbol.Equal) h = absurd (omega arith)
no_comparison (symbol symbol.NotEqual) h = absurd (omega arith)
no_comparison (symbol symbol.Less) h = absurd (omega arith)
no_comparison (symbol symbol.AtMost) h = absurd (omega arith)
no_comparison (symbol symbol.Greater) h = absurd (omega arith)
no_comparison (symbol symbol.AtLeast) h = absurd (omega arith)
no_comparison (symbol _) h = refl
no_comparison _ h = refl

stops_at : (m : Symbol) → IsTrue (not (goes_on (symbol m))) → 3 < symbol_looseness m → 6 < symbol_looseness m
stops_at symbol.And h l = cc
stops_at symbol.Or h l = cc
stops_at symbol.Implies h l = cc
stops_at symbol.Dot h l = absurd (omega arith)
stops_at symbol.OpenBracket h l = absurd (omega arith)
stops_at symbol.OpenParen h l = absurd (omega arith)
stops_at symbol.Plus h l = absurd (omega arith)
stops_at symbol.Minus h l = absurd (omega arith)
stops_at symbol.Equal h l = absurd (omega arith)
stops_at symbol.NotEqual h l = absurd (omega arith)
stops_at symbol.Less h l = absurd (omega arith)
stops_at symbol.AtMost h l = absurd (omega arith)
stops_at symbol.Greater h l = absurd (omega arith)
stops_at symbol.AtLeast h l = absurd (omega arith)
stops_at _ h l = omega arith

-- behind a quantifier's body only a token comes that goes on with no expression
pub stops_loose : (us : List Placed) → IsTrue (stops us) → 3 < loose us → 6 < loose us
stops_loose [] h l = omega arith
stops_loose (on (symbol m) s d ∷ r) h l = stops_at m h l
stops_loose (on _ s d ∷ r) h l = omega arith

pub not_going_on : (v : Bool) → IsTrue (not v) → v ≡ false
not_going_on true h = cc
not_going_on false h = refl
