-- What a function of the parser gives, by the token machine.
use Rattle.std.specs.Prelude.{◌≡◌, ℕ, suc, Bool, false, ◌<◌, ◌≤◌, List, length, Result, Ok, Err}
use Rattle.rp_grammar.specs.Terminals.{Tok}
use Rattle.rp_tokens.specs.MachineStates.{State}
use Rattle.rp_tokens.specs.Machine.{stuck, Bounded, whole, deep, bounded}
use Rattle.rp_parser.specs.declared.fault.Fault.{Fault}
use Rattle.rp_parser.specs.declared.fault.Fault.TheVariants as fault
use Rattle.rp_parser.specs.declared.mark.Mark.{Mark}
use Rattle.rp_parser.specs.declared.mark.Rest.{Rest}
use Rattle.rp_parser.specs.declared.mark.Rest.TheVariants as rest
use Rattle.rp_grammar.specs.declared.terminal.Symbol.{Symbol}
use Rattle.rp_parser.specs.means.Marks.{toks, next_is}

-- the machine ends at a token, from which on so many are left
abbrev pub Faults : Fault → Bounded → Type 0
Faults fault.Memory o = Unit {0}
Faults (fault.Syntax left) o = (r : List Tok) × (o ≡ whole (stuck r)) × (length r ≡ left)
Faults (fault.TooDeep left) o = (r : List Tok) × (o ≡ deep r) × (length r ≡ left)

-- the machine comes to where the value leads, or ends as the fault says
abbrev pub Gives : {X : Type 0} → Result X Fault → Bounded → (X → Bounded) → Type 0
Gives (Ok x) o f = o ≡ f x
Gives (Err e) o f = Faults e o

-- the first token is at the nesting d, and the machine goes on from another state behind it
abbrev pub Moves : ℕ → State → List Tok → State → List Tok → Type 0
Moves d s ts n us = (d ≤ 64 → bounded 64 s ts ≡ bounded 64 n us) × (64 < d → bounded 64 s ts ≡ deep ts)

-- the machine comes to o from a state behind a token at the nesting d, or that token is too deep
abbrev pub Enters : ℕ → Bounded → State → List Mark → Type 0
Enters d o n ms = (d ≤ 64 → o ≡ bounded 64 n (toks ms)) × (64 < d → Faults (fault.TooDeep (suc (length ms))) o)

-- the machine, at this state before what is left, comes to o
abbrev pub Stands : Rest → State → Bounded → Type 0
Stands (rest.Left ms) s o = o ≡ bounded 64 s (toks ms.now)
Stands (rest.Failed e) s o = Faults e o

-- how many marks are left
abbrev pub left : Rest → ℕ
left (rest.Left ms) = length ms.now
left (rest.Failed e) = 0

-- marks are left only where the nesting isn't too deep
abbrev pub Within : ℕ → Rest → Type 0
Within d (rest.Left ms) = d ≤ 64
Within d (rest.Failed e) = Unit {0}

-- this holds where marks are left
abbrev pub IfLeft : Rest → Type 0 → Type 0
IfLeft (rest.Left ms) A = A
IfLeft (rest.Failed e) A = Unit {0}

-- the next token is this symbol
abbrev pub next_of : Symbol → Rest → Bool
next_of m (rest.Left ms) = next_is m (toks ms.now)
next_of m (rest.Failed e) = false
