-- What an answer on tokens says.
use Rattle.std.specs.Prelude.{List, Result, Ok, Err}
use Rattle.rp_grammar.specs.Terminals.{Tok}
use Rattle.rp_grammar.specs.Begins.{IsTreeWithin, IsFirstBad, IsTooDeep}
use Rattle.rp_ast.specs.declared.decl.Ast.{Ast}
use Rattle.rp_ast.specs.View.{ast_view}
use Rattle.rp_parser.specs.declared.error.ParseErr.{ParseErr}
use Rattle.rp_parser.specs.declared.error.ParseErr.TheVariants as err

-- the tokens' tree within the depth, or their fault
abbrev pub IsAnswer : List Tok → Result Ast ParseErr → Type 0
IsAnswer us (Ok ast) = IsTreeWithin 64 us (ast_view ast)
IsAnswer us (Err (err.Syntax k)) = IsFirstBad 64 us k
IsAnswer us (Err (err.TooDeep k)) = IsTooDeep 64 us k
IsAnswer us (Err err.Memory) = Unit {0}
