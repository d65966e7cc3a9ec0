-- What an answer of `parse` says.
use Rattle.std.specs.Prelude.{ℕ, ◌≡◌, List, Result, Ok, Err}
use Rattle.rp_grammar.specs.Terminals.{Tok}
use Rattle.rp_grammar.specs.Trees.{DeclTree}
use Rattle.rp_grammar.specs.Begins.{IsFirstBad, IsTooDeep}
use Rattle.rp_grammar.specs.Texts.{HasToks}
use Rattle.rp_ast.specs.declared.decl.Ast.{Ast}
use Rattle.rp_ast.specs.View.{ast_view}
use Rattle.rp_parser.specs.declared.error.ParseErr.{ParseErr}
use Rattle.rp_parser.specs.declared.error.ParseErr.TheVariants as err

-- a fault is that of the text, at its token
abbrev pub IsFault : List ℕ → ParseErr → Type 0
IsFault bytes (err.Syntax k) = (us : List Tok) × HasToks bytes us × IsFirstBad 64 us k
IsFault bytes (err.TooDeep k) = (us : List Tok) × HasToks bytes us × IsTooDeep 64 us k
IsFault bytes err.Memory = Unit {0}

-- this tree is the answer, or memory ran out
abbrev pub IsRead : List DeclTree → Result Ast ParseErr → Type 0
IsRead tree (Ok ast) = ast_view ast ≡ tree
IsRead tree (Err err.Memory) = Unit {0}
IsRead tree (Err (err.Syntax k)) = ⊥
IsRead tree (Err (err.TooDeep k)) = ⊥

-- this token is answered to be the first bad one, or memory ran out
abbrev pub IsRefused : ℕ → Result Ast ParseErr → Type 0
IsRefused k (Ok ast) = ⊥
IsRefused k (Err err.Memory) = Unit {0}
IsRefused k (Err (err.Syntax i)) = i ≡ k
IsRefused k (Err (err.TooDeep i)) = ⊥

-- this token is answered to be the first one that is nested too deep, or memory ran out
abbrev pub IsFoundTooDeep : ℕ → Result Ast ParseErr → Type 0
IsFoundTooDeep k (Ok ast) = ⊥
IsFoundTooDeep k (Err err.Memory) = Unit {0}
IsFoundTooDeep k (Err (err.Syntax i)) = ⊥
IsFoundTooDeep k (Err (err.TooDeep i)) = i ≡ k
