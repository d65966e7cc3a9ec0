-- The words of declarations and statements, and the others.
use Rattle.std.specs.Prelude.{Bool, true, false}
use Rattle.rp_grammar.specs.declared.terminal.Word.{Word}
use Rattle.rp_grammar.specs.declared.terminal.Word.TheVariants as word

-- stands in declarations or statements outside their types and expressions, or has no use yet
abbrev pub is_outer : Word → Bool
is_outer word.IdType = true
is_outer word.Type = true
is_outer word.Datatype = true
is_outer word.Crdt = true
is_outer word.Query = true
is_outer word.Invariant = true
is_outer word.Proc = true
is_outer word.Var = true
is_outer word.Atomic = true
is_outer word.If = true
is_outer word.Else = true
is_outer word.Match = true
is_outer word.Assert = true
is_outer word.Return = true
is_outer word.New = true
is_outer word.Requires = true
is_outer word.Abort = true
is_outer _ = false
