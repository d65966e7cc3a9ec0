-- Steps of the machine, as the parser takes them.
use Rattle.std.proofs.Common.{◌≡◌, ℕ, ◌<◌, ◌≤◌, true, false, cond, nat_le, Bool, if◌then◌else◌, List, [], ◌∷◌, length, Option, Some, None, Result, refl, ap, sym, subst, ◌∙◌, arith, suc}
use Rattle.std.proofs.lemmas.Bool.Decides.{nat_tests}
use Rattle.rp_span.specs.declared.Span.{Span}
use Rattle.rp_grammar.specs.declared.terminal.Symbol.{Symbol}
use Rattle.rp_grammar.specs.declared.terminal.Word.{Word}
use Rattle.rp_grammar.specs.Terminals.{Terminal, symbol, word, Tok, at}
use Rattle.rp_tokens.specs.MachineStates.{is_symbol, is_word, State, Move, to}
use Rattle.rp_tokens.specs.Machine.{step, ended, stuck, Bounded, whole, deep, bounded}
use Rattle.rp_tokens.proofs.Tests.{word_is, symbol_is}
use Rattle.rp_parser.specs.declared.mark.Mark.{Mark}
use Rattle.rp_parser.specs.declared.fault.Fault.{Fault}
use Rattle.rp_parser.specs.declared.fault.Fault.TheVariants as fault
use Rattle.rp_parser.specs.means.Marks.{terminal_of, tok_of, toks, next_is}
use Rattle.rp_parser.specs.means.Reading.{Faults, Gives}

is_le : (d : ℕ) → d ≤ 64 → nat_le d 64 ≡ true
is_le d h = grind (arith, nat_tests)

is_gt : (d : ℕ) → 64 < d → nat_le d 64 ≡ false
is_gt d h = grind (arith, nat_tests)

-- what a token comes to by its move
abbrev pub by_move : Tok → List Tok → Option Move → Bounded
by_move t ts None = whole (stuck (t ∷ ts))
by_move t ts (Some (to d n)) = if nat_le d 64 then bounded 64 n ts else deep (t ∷ ts)

pub length_toks : (ms : List Mark) → length (toks ms) ≡ length ms
length_toks [] = refl
length_toks (m ∷ ms) = ap suc (length_toks ms)

-- one token
pub step_to : (s n : State) (d : ℕ) (x : Terminal) (v : Span) (ts : List Tok) → step s x v ≡ Some (to d n) → d ≤ 64 → bounded 64 s (at x v ∷ ts) ≡ bounded 64 n ts
step_to s n d x v ts e l = ap (by_move (at x v) ts) e ∙ ap (λ b. if b then bounded 64 n ts else deep (at x v ∷ ts)) (is_le d l)

-- the first mark
pub takes : (s n : State) (d : ℕ) (ms rest : List Mark) (m : Mark) → ms ≡ m ∷ rest → step s (terminal_of m.kind) m.span ≡ Some (to d n) → d ≤ 64 → bounded 64 s (toks ms) ≡ bounded 64 n (toks rest)
takes s n d ms rest m h e l = ap (λ ms. bounded 64 s (toks ms)) h ∙ step_to s n d (terminal_of m.kind) m.span (toks rest) e l

pub refuses : (s : State) (ms rest : List Mark) (m : Mark) → ms ≡ m ∷ rest → step s (terminal_of m.kind) m.span ≡ None → Faults (fault.Syntax (length ms)) (bounded 64 s (toks ms))
refuses s ms rest m h e = (toks ms, ap (λ ms. bounded 64 s (toks ms)) h ∙ ap (by_move (tok_of m) (toks rest)) e ∙ ap (λ ms. whole (stuck (toks ms))) (sym h), length_toks ms)

pub too_deep : (s n : State) (d : ℕ) (ms rest : List Mark) (m : Mark) → ms ≡ m ∷ rest → step s (terminal_of m.kind) m.span ≡ Some (to d n) → 64 < d → Faults (fault.TooDeep (length ms)) (bounded 64 s (toks ms))
too_deep s n d ms rest m h e l = (
  toks ms,
  ap (λ ms. bounded 64 s (toks ms)) h ∙ ap (by_move (tok_of m) (toks rest)) e
      ∙ ap (λ b. if b then bounded 64 n (toks rest) else deep (toks (m ∷ rest))) (is_gt d l) ∙ ap (λ ms. deep (toks ms)) (sym h),
  length_toks ms,
)

pub cond_false : (b : Option Move) (a : Option Move) (v : Bool) → v ≡ false → cond v a b ≡ b
cond_false b a v h = ap (λ v. cond v a b) h

-- where this symbol is next
pub over_symbol : (m : Symbol) (s n : State) (d : ℕ) (v : Span) (ts us : List Tok) → ts ≡ at (symbol m) v ∷ us → step s (symbol m) v ≡ Some (to d n) → d ≤ 64 → bounded 64 s ts ≡ bounded 64 n us
over_symbol m s n d v ts us h e l = ap (bounded 64 s) h ∙ step_to s n d (symbol m) v us e l

-- where the first token has the same step in both states
pub alike : (s t : State) (x : Terminal) (v : Span) (ts : List Tok) → step s x v ≡ step t x v → bounded 64 s (at x v ∷ ts) ≡ bounded 64 t (at x v ∷ ts)
alike s t x v ts e = ap (by_move (at x v) ts) e

-- where this symbol isn't next
pub no_symbol : (m : Symbol) (s t : State) (a : Terminal → Span → Option Move) (ts : List Tok) → next_is m ts ≡ false → ended s ≡ ended t → ((x : Terminal) (v : Span) → step s x v ≡ cond (is_symbol m x) (a x v) (step t x v)) → bounded 64 s ts ≡ bounded 64 t ts
no_symbol m s t a [] h e f = ap whole e
no_symbol m s t a (at x v ∷ ts) h e f = alike s t x v ts (f x v ∙ cond_false (step t x v) (a x v) (is_symbol m x) h)

-- behind a way that the machine goes in any case
pub led_to : {X : Type 0} → (r : Result X Fault) (o p : Bounded) (f : X → Bounded) → o ≡ p → Gives r p f → Gives r o f
led_to r o p f h g = subst (λ o. Gives r o f) (sym h) g

pub marks_longer : (ms rest : List Mark) → length ms ≡ suc (length rest) → length (toks ms) ≡ suc (length rest)
marks_longer ms rest h = length_toks ms ∙ h

abbrev unword : Word → Terminal → Word
unword w (word v) = v
unword w _ = w

abbrev unsymbol : Symbol → Terminal → Symbol
unsymbol m (symbol n) = n
unsymbol m _ = m

-- another word
pub not_word : (w v : Word) → (v ≡ w → ⊥) → is_word w (word v) ≡ false
not_word w v h = go (is_word w (word v)) refl where
  go : (b : Bool) → is_word w (word v) ≡ b → is_word w (word v) ≡ false
  go true e = absurd (h (ap (unword w) (word_is w (word v) e)))
  go false e = e

-- another symbol
pub not_symbol : (m n : Symbol) → (n ≡ m → ⊥) → is_symbol m (symbol n) ≡ false
not_symbol m n h = go (is_symbol m (symbol n)) refl where
  go : (b : Bool) → is_symbol m (symbol n) ≡ b → is_symbol m (symbol n) ≡ false
  go true e = absurd (h (ap (unsymbol m) (symbol_is m (symbol n) e)))
  go false e = e
