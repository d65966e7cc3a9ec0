-- How the words and symbols are written.
use Rattle.std.specs.Prelude.{ℕ, List, [], ◌∷◌, Option, codes}
use Rattle.std.specs.List.{find}
use Rattle.std.specs.Str.{bytes_eq}
use Rattle.rp_grammar.specs.declared.terminal.Word.{Word}
use Rattle.rp_grammar.specs.declared.terminal.Word.TheVariants as word
use Rattle.rp_grammar.specs.declared.terminal.Symbol.{Symbol}
use Rattle.rp_grammar.specs.declared.terminal.Symbol.TheVariants as symbol

abbrev pub spelling : Word → List ℕ
spelling word.IdType = codes "idtype"
spelling word.Type = codes "type"
spelling word.Datatype = codes "datatype"
spelling word.Crdt = codes "crdt"
spelling word.Query = codes "query"
spelling word.Invariant = codes "invariant"
spelling word.Proc = codes "proc"
spelling word.Var = codes "var"
spelling word.Atomic = codes "atomic"
spelling word.If = codes "if"
spelling word.Else = codes "else"
spelling word.Match = codes "match"
spelling word.Assert = codes "assert"
spelling word.Return = codes "return"
spelling word.New = codes "new"
spelling word.Forall = codes "forall"
spelling word.Exists = codes "exists"
spelling word.True = codes "true"
spelling word.False = codes "false"
spelling word.None = codes "none"
spelling word.Some = codes "some"
spelling word.Call = codes "call"
spelling word.Invocation = codes "invocation"
spelling word.Visible = codes "visible"
spelling word.Before = codes "before"
spelling word.Same = codes "same"
spelling word.Op = codes "op"
spelling word.Origin = codes "origin"
spelling word.Info = codes "info"
spelling word.Result = codes "result"
spelling word.Unreturned = codes "unreturned"
spelling word.Tx = codes "tx"
spelling word.Returned = codes "returned"
spelling word.Bool = codes "Bool"
spelling word.Int = codes "Int"
spelling word.String = codes "String"
spelling word.Maybe = codes "Maybe"
spelling word.SetAw = codes "SetAw"
spelling word.SetRw = codes "SetRw"
spelling word.Reg = codes "Reg"
spelling word.MvReg = codes "MvReg"
spelling word.Counter = codes "Counter"
spelling word.MapUw = codes "MapUw"
spelling word.MapDw = codes "MapDw"
spelling word.Requires = codes "requires"
spelling word.Abort = codes "abort"

abbrev pub mark : Symbol → List ℕ
mark symbol.OpenBrace = codes "{"
mark symbol.CloseBrace = codes "}"
mark symbol.OpenParen = codes "("
mark symbol.CloseParen = codes ")"
mark symbol.OpenBracket = codes "["
mark symbol.CloseBracket = codes "]"
mark symbol.Comma = codes ","
mark symbol.Semicolon = codes ";"
mark symbol.Colon = codes ":"
mark symbol.DoubleColon = codes "::"
mark symbol.Dot = codes "."
mark symbol.Assign = codes "="
mark symbol.Equal = codes "=="
mark symbol.NotEqual = codes "!="
mark symbol.Less = codes "<"
mark symbol.AtMost = codes "<="
mark symbol.Greater = codes ">"
mark symbol.AtLeast = codes ">="
mark symbol.Implies = codes "==>"
mark symbol.Arrow = codes "=>"
mark symbol.And = codes "&&"
mark symbol.Or = codes "||"
mark symbol.Not = codes "!"
mark symbol.Plus = codes "+"
mark symbol.Minus = codes "-"
mark symbol.Bar = codes "|"

-- all words, in the order of the table of reserved texts
abbrev pub words : List Word
words =
    word.IdType ∷ word.Type ∷ word.Datatype ∷ word.Crdt ∷ word.Query ∷ word.Invariant ∷ word.Proc ∷ word.Var
    ∷ word.Atomic ∷ word.If ∷ word.Else ∷ word.Match ∷ word.Assert ∷ word.Return ∷ word.New ∷ word.Forall
    ∷ word.Exists ∷ word.True ∷ word.False ∷ word.None ∷ word.Some ∷ word.Call ∷ word.Invocation ∷ word.Visible
    ∷ word.Before ∷ word.Same ∷ word.Op ∷ word.Origin ∷ word.Info ∷ word.Result ∷ word.Unreturned ∷ word.Tx
    ∷ word.Returned ∷ word.Bool ∷ word.Int ∷ word.String ∷ word.Maybe ∷ word.SetAw ∷ word.SetRw ∷ word.Reg
    ∷ word.MvReg ∷ word.Counter ∷ word.MapUw ∷ word.MapDw ∷ word.Requires ∷ word.Abort ∷ []

-- all symbols, in the order of the table of their texts
abbrev pub marks : List Symbol
marks =
    symbol.OpenBrace ∷ symbol.CloseBrace ∷ symbol.OpenParen ∷ symbol.CloseParen ∷ symbol.OpenBracket ∷ symbol.CloseBracket ∷ symbol.Comma ∷ symbol.Semicolon
    ∷ symbol.Colon ∷ symbol.DoubleColon ∷ symbol.Dot ∷ symbol.Assign ∷ symbol.Equal ∷ symbol.NotEqual ∷ symbol.Less ∷ symbol.AtMost ∷ symbol.Greater ∷ symbol.AtLeast
    ∷ symbol.Implies ∷ symbol.Arrow ∷ symbol.And ∷ symbol.Or ∷ symbol.Not ∷ symbol.Plus ∷ symbol.Minus ∷ symbol.Bar ∷ []

-- the word that these bytes spell, and the symbol that they are

abbrev pub word_of : List ℕ → Option Word
word_of bytes = find (λ w. bytes_eq (spelling w) bytes) words

abbrev pub symbol_of : List ℕ → Option Symbol
symbol_of bytes = find (λ m. bytes_eq (mark m) bytes) marks
