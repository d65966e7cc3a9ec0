-- What an answer of `lex` says.
use Rattle.std.specs.Prelude.{ℕ, ◌≡◌, List, Result, Ok, Err}
use Rattle.rp_grammar.specs.Lexed.{Faulty}
use Rattle.rp_grammar.specs.declared.LexFault.{LexFault}
use Rattle.rp_grammar.specs.declared.Token.{Token}
use Rattle.rp_lexer.specs.declared.error.LexErr.{LexErr}
use Rattle.rp_lexer.specs.declared.error.LexErr.TheVariants as err

-- a fault is the first of the bytes
abbrev pub IsFault : List ℕ → LexErr → Type 0
IsFault bytes (err.Fault at kind) = Faulty 0 bytes at kind
IsFault bytes err.Memory = Unit {0}

-- these tokens are the answer, or memory ran out
abbrev pub IsRead : List Token → Result (List Token) LexErr → Type 0
IsRead ts (Ok tokens) = tokens ≡ ts
IsRead ts (Err (err.Fault at kind)) = ⊥
IsRead ts (Err err.Memory) = Unit {0}

-- this fault is the answer, or memory ran out
abbrev pub IsRefused : ℕ → LexFault → Result (List Token) LexErr → Type 0
IsRefused at kind (Ok tokens) = ⊥
IsRefused at kind (Err (err.Fault i other)) = (i ≡ at) × (other ≡ kind)
IsRefused at kind (Err err.Memory) = Unit {0}
