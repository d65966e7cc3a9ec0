-- Worked rows: texts, the nestings of their tokens (the end's among them), and their trees.
use Rattle.std.specs.Prelude.{ℕ, ◌+◌, ◌≡◌, true, false, List, [], ◌∷◌, codes, map, pos, negsuc, length, None, Some}
use Rattle.rp_span.specs.declared.Span.{Span}
use Rattle.rp_grammar.specs.declared.operator.CompareOp.TheVariants as compare
use Rattle.rp_grammar.specs.declared.operator.CallWord.TheVariants as called
use Rattle.rp_grammar.specs.declared.terminal.Word.TheVariants as word
use Rattle.rp_grammar.specs.declared.terminal.Symbol.TheVariants as symbol
use Rattle.rp_grammar.specs.Terminals.{name, word, symbol, end, at, Placed, plain, nesting}
use Rattle.rp_grammar.specs.Trees.{Ident, ident, TypeTree, TypeForm, ParamTree, CrdtTree, CrdtForm, FieldTree, PatternTree, ExprTree, ExprForm, ExprArmTree, AccessTree, StepTree, ArgTrees, BlockTree, StmtTree, StmtForm, ElseTree, BlockArmTree, ConTree, QueryTree, ProcTree, DeclForm, DeclTree, fields, exprs, expr_arms, steps, stmts, block_arms}
use Rattle.rp_grammar.specs.Decls.{Program}
use Rattle.rp_grammar.specs.Texts.{HasToks, IsTextWithin, IsBadAt, IsTooDeepAt}

-- the text's tokens have these nestings and this tree
pub record Reads (text nestings : List ℕ) (tree : List DeclTree) : Type 0 where
  pub tokens : List Placed
  pub of_text : HasToks text (map plain tokens)
  pub nested : map nesting tokens ≡ nestings
  pub program : Program tokens tree

abbrev pub span : ℕ → ℕ → Span
span a b = record { from = a; to = b }

abbrev pub name_at : List ℕ → ℕ → Ident
name_at n a = ident n (span a (a + length n))

abbrev pub expr_at : ℕ → ℕ → ExprForm → ExprTree
expr_at a b f = ExprTree.node (span a b) f

-- a name alone
abbrev pub variable : List ℕ → ℕ → ExprTree
variable n a = expr_at a (a + length n) (ExprForm.access (AccessTree.path (name_at n a) (steps []) ArgTrees.absent))

abbrev pub type_at : ℕ → ℕ → TypeForm → TypeTree
type_at a b f = TypeTree.node (span a b) f

abbrev pub named_type : List ℕ → ℕ → TypeTree
named_type n a = type_at a (a + length n) (TypeForm.named n)

abbrev pub stmt_at : ℕ → ℕ → StmtForm → StmtTree
stmt_at a b f = StmtTree.node (span a b) f

abbrev pub block_at : ℕ → ℕ → List StmtTree → BlockTree
block_at a b xs = BlockTree.block (span a b) (stmts xs)

-- a program of one declaration
abbrev pub one_decl : ℕ → DeclForm → List DeclTree
one_decl n f = DeclTree.node (span 0 n) f ∷ []

-- a chain of two is one node, from its first member to its last
abbrev pub tautology_text : List ℕ
tautology_text = codes "proc p(b: Bool) { assert b || !b; }"

abbrev pub tautology_tree : List DeclTree
tautology_tree =
    let negation = expr_at 30 32 (ExprForm.not (variable (codes "b") 31)) in
    let claim = expr_at 25 32 (ExprForm.or (exprs (variable (codes "b") 25 ∷ negation ∷ []))) in
    let parameter = ParamTree.param (name_at (codes "b") 7) (type_at 10 14 TypeForm.bool) in
    let body = block_at 16 35 (stmt_at 18 33 (StmtForm.assert claim) ∷ []) in
    one_decl 35 (DeclForm.proc (ProcTree.proc (name_at (codes "p") 5) (parameter ∷ []) None body))

abbrev pub Tautology : Type 0
Tautology = Reads tautology_text (0 ∷ 0 ∷ 0 ∷ 1 ∷ 1 ∷ 1 ∷ 0 ∷ 0 ∷ 1 ∷ 1 ∷ 1 ∷ 1 ∷ 2 ∷ 1 ∷ 0 ∷ 0 ∷ []) tautology_tree

-- no token of it is nested deeper than 2, and the first one that is nested at all is the parameter's name
abbrev pub TautologyWithinTwo : Type 0
TautologyWithinTwo = IsTextWithin 2 tautology_text tautology_tree

abbrev pub TautologyPastNone : Type 0
TautologyPastNone = IsTooDeepAt 0 tautology_text 7

-- no program begins with a semicolon
abbrev pub NoProgram : Type 0
NoProgram = IsBadAt 64 (codes " ;") 1

-- its tokens, one by one
abbrev pub TautologyTokens : Type 0
TautologyTokens = HasToks tautology_text
    (at (word word.Proc) (span 0 4) ∷ at (name (codes "p")) (span 5 6)
    ∷ at (symbol symbol.OpenParen) (span 6 7) ∷ at (name (codes "b")) (span 7 8) ∷ at (symbol symbol.Colon) (span 8 9)
    ∷ at (word word.Bool) (span 10 14) ∷ at (symbol symbol.CloseParen) (span 14 15) ∷ at (symbol symbol.OpenBrace) (span 16 17)
    ∷ at (word word.Assert) (span 18 24) ∷ at (name (codes "b")) (span 25 26) ∷ at (symbol symbol.Or) (span 27 29)
    ∷ at (symbol symbol.Not) (span 30 31) ∷ at (name (codes "b")) (span 31 32) ∷ at (symbol symbol.Semicolon) (span 32 33)
    ∷ at (symbol symbol.CloseBrace) (span 34 35) ∷ at end (span 35 35) ∷ [])

-- the comparison starts at the parenthesis of its left operand
abbrev pub ParenthesesOfAnOperand : Type 0
ParenthesesOfAnOperand =
    let claim = expr_at 10 18 (ExprForm.compare compare.Equal (variable (codes "a") 11) (variable (codes "b") 17)) in
    Reads (codes "invariant (a) == b;")
    (0 ∷ 0 ∷ 1 ∷ 0 ∷ 0 ∷ 0 ∷ 0 ∷ 0 ∷ [])
    (one_decl 19 (DeclForm.invariant None claim))

-- the sum starts at x, inside its own parentheses
abbrev pub ParenthesesOfANode : Type 0
ParenthesesOfANode =
    let sum = expr_at 19 24 (ExprForm.plus (variable (codes "x") 19) (expr_at 23 24 (ExprForm.int (pos 1)))) in
    Reads (codes "proc p() { assert (x + 1); }")
    (0 ∷ 0 ∷ 0 ∷ 0 ∷ 0 ∷ 1 ∷ 1 ∷ 2 ∷ 2 ∷ 3 ∷ 1 ∷ 1 ∷ 0 ∷ 0 ∷ [])
    (one_decl 28 (DeclForm.proc (ProcTree.proc (name_at (codes "p") 5) [] None (block_at 9 28 (stmt_at 11 26 (StmtForm.assert sum) ∷ [])))))

-- a sum nests to the left; each operand is as deep as there are operators before it, also inside its parentheses
abbrev pub NestingsOfASum : Type 0
NestingsOfASum =
    let front = expr_at 10 15 (ExprForm.plus (variable (codes "a") 10) (variable (codes "b") 14)) in
    let sum = expr_at 10 21 (ExprForm.minus front (variable (codes "c") 19)) in
    Reads (codes "invariant a + b - (c) < d;")
    (0 ∷ 0 ∷ 0 ∷ 1 ∷ 1 ∷ 2 ∷ 3 ∷ 2 ∷ 0 ∷ 0 ∷ 0 ∷ 0 ∷ [])
    (one_decl 26 (DeclForm.invariant None (expr_at 10 25 (ExprForm.compare compare.Less sum (variable (codes "d") 24)))))

-- one node for each variable, the second of which starts at its name, and a nesting for each
abbrev pub TwoVariables : Type 0
TwoVariables =
    let implication = expr_at 31 38 (ExprForm.implies (variable (codes "e") 31) (variable (codes "f") 37)) in
    let second = expr_at 23 38 (ExprForm.forall (ParamTree.param (name_at (codes "y") 23) (named_type (codes "U") 26)) implication) in
    let first = expr_at 10 38 (ExprForm.forall (ParamTree.param (name_at (codes "x") 17) (named_type (codes "T") 20)) second) in
    Reads (codes "invariant forall x: T, y: U :: e ==> f;")
    (0 ∷ 0 ∷ 1 ∷ 1 ∷ 1 ∷ 1 ∷ 1 ∷ 2 ∷ 2 ∷ 2 ∷ 2 ∷ 2 ∷ 3 ∷ 0 ∷ 0 ∷ [])
    (one_decl 39 (DeclForm.invariant None first))

-- the body of a quantifier goes as far as the text allows
abbrev pub QuantifierInAChain : Type 0
QuantifierInAChain =
    let negation = expr_at 30 32 (ExprForm.not (variable (codes "b") 31)) in
    let body = expr_at 30 37 (ExprForm.and (exprs (negation ∷ variable (codes "c") 36 ∷ []))) in
    let quantifier = expr_at 15 37 (ExprForm.exists (ParamTree.param (name_at (codes "x") 22) (named_type (codes "T") 25)) body) in
    Reads (codes "invariant a || exists x: T :: !b && c;")
    (0 ∷ 0 ∷ 0 ∷ 0 ∷ 1 ∷ 1 ∷ 1 ∷ 1 ∷ 1 ∷ 2 ∷ 1 ∷ 1 ∷ 0 ∷ 0 ∷ [])
    (one_decl 38 (DeclForm.invariant None (expr_at 10 37 (ExprForm.or (exprs (variable (codes "a") 10 ∷ quantifier ∷ []))))))

-- an `if` behind an `else` encloses itself, its own `else` too
abbrev pub ElseIf : Type 0
ElseIf =
    let second = stmt_at 27 46 (StmtForm.if_ (variable (codes "b") 31) (block_at 34 37 []) (ElseTree.else_block (block_at 43 46 []))) in
    let first = stmt_at 11 46 (StmtForm.if_ (variable (codes "a") 15) (block_at 18 21 []) (ElseTree.else_if second)) in
    Reads (codes "proc p() { if (a) { } else if (b) { } else { } }")
    (0 ∷ 0 ∷ 0 ∷ 0 ∷ 0 ∷ 1 ∷ 1 ∷ 2 ∷ 1 ∷ 1 ∷ 1 ∷ 1 ∷ 2 ∷ 2 ∷ 3 ∷ 2 ∷ 2 ∷ 2 ∷ 2 ∷ 2 ∷ 2 ∷ 0 ∷ 0 ∷ [])
    (one_decl 48 (DeclForm.proc (ProcTree.proc (name_at (codes "p") 5) [] None (block_at 9 48 (first ∷ [])))))

-- a struct, a map in it, a set in the map
abbrev pub ReplicatedTypes : Type 0
ReplicatedTypes =
    let set = CrdtTree.node (span 22 30) (CrdtForm.set_aw (named_type (codes "V") 28)) in
    let map_of_sets = CrdtTree.node (span 13 31) (CrdtForm.map_uw (named_type (codes "K") 19) set) in
    let a = FieldTree.field (name_at (codes "a") 10) map_of_sets in
    let b = FieldTree.field (name_at (codes "b") 33) (CrdtTree.node (span 36 43) CrdtForm.counter) in
    Reads (codes "crdt s: { a: MapUw[K, SetAw[V]], b: Counter };")
    (0 ∷ 0 ∷ 0 ∷ 0 ∷ 1 ∷ 1 ∷ 1 ∷ 1 ∷ 2 ∷ 2 ∷ 2 ∷ 2 ∷ 3 ∷ 2 ∷ 1 ∷ 1 ∷ 1 ∷ 1 ∷ 1 ∷ 0 ∷ 0 ∷ 0 ∷ [])
    (one_decl 46 (DeclForm.crdt (name_at (codes "s") 5) (CrdtTree.node (span 8 45) (CrdtForm.struct (fields (a ∷ b ∷ []))))))

-- a constructor without fields and one with two
abbrev pub Datatypes : Type 0
Datatypes =
    let x = ParamTree.param (name_at (codes "x") 19) (type_at 22 32 (TypeForm.maybe (type_at 28 31 TypeForm.int))) in
    let y = ParamTree.param (name_at (codes "y") 34) (named_type (codes "D") 37) in
    let a = ConTree.con (name_at (codes "A") 13) [] in
    let b = ConTree.con (name_at (codes "B") 17) (x ∷ y ∷ []) in
    Reads (codes "datatype D = A | B(x: Maybe[Int], y: D);")
    (0 ∷ 0 ∷ 0 ∷ 0 ∷ 0 ∷ 0 ∷ 0 ∷ 1 ∷ 1 ∷ 1 ∷ 1 ∷ 2 ∷ 1 ∷ 1 ∷ 1 ∷ 1 ∷ 1 ∷ 0 ∷ 0 ∷ 0 ∷ [])
    (one_decl 40 (DeclForm.datatype (name_at (codes "D") 9) (a ∷ b ∷ [])))

-- the constructor of a pattern may be a word; arguments in empty parentheses are an empty list
abbrev pub MatchesAndAccesses : Type 0
MatchesAndAccesses =
    let one = expr_at 49 50 (ExprForm.int (pos 1)) in
    let less_two = expr_at 52 54 (ExprForm.int (negsuc 1)) in
    let call = AccessTree.path (name_at (codes "y") 45) (steps (StepTree.dot (name_at (codes "z") 47) ∷ [])) (ArgTrees.given (exprs (one ∷ less_two ∷ []))) in
    let returned = AccessTree.path (name_at (codes "m") 65) (steps (StepTree.key (variable (codes "k") 67) ∷ StepTree.returned (span 70 78) ∷ [])) (ArgTrees.given (exprs [])) in
    let some = ExprArmTree.arm (PatternTree.pattern (name_at (codes "some") 34) (name_at (codes "y") 39 ∷ [])) (expr_at 45 55 (ExprForm.access call)) in
    let none = ExprArmTree.arm (PatternTree.pattern (name_at (codes "none") 57) []) (expr_at 65 80 (ExprForm.access returned)) in
    let body = expr_at 22 82 (ExprForm.match (variable (codes "a") 29) (expr_arms (some ∷ none ∷ []))) in
    let parameter = ParamTree.param (name_at (codes "a") 8) (named_type (codes "D") 11) in
    Reads (codes "query q(a: D): Bool = match (a) { some(y) => y.z(1, -2), none => m[k].returned() };")
    (0 ∷ 0 ∷ 0 ∷ 1 ∷ 1 ∷ 1 ∷ 0 ∷ 0 ∷ 0 ∷ 0 ∷ 0 ∷ 0 ∷ 1 ∷ 0 ∷ 0 ∷ 1 ∷ 1 ∷ 2 ∷ 1 ∷ 1 ∷ 1 ∷ 1 ∷ 1 ∷ 1 ∷ 2 ∷ 2 ∷ 2 ∷ 2 ∷ 1
    ∷ 1 ∷ 1 ∷ 1 ∷ 1 ∷ 1 ∷ 2 ∷ 1 ∷ 1 ∷ 1 ∷ 1 ∷ 1 ∷ 0 ∷ 0 ∷ 0 ∷ [])
    (one_decl 83 (DeclForm.query (QueryTree.query (name_at (codes "q") 6) (parameter ∷ []) (type_at 15 19 TypeForm.bool) body)))

-- a disjunction in parentheses starts inside them, and the implication that it stands in at them
abbrev pub WordsWithArguments : Type 0
WordsWithArguments =
    let before = expr_at 14 26 (ExprForm.call called.Before (exprs (variable (codes "c") 21 ∷ variable (codes "d") 24 ∷ []))) in
    let op = expr_at 36 41 (ExprForm.call called.Op (exprs (variable (codes "c") 39 ∷ []))) in
    let is_tx = expr_at 30 41 (ExprForm.compare compare.Equal (expr_at 30 32 ExprForm.tx) op) in
    let result_of = expr_at 61 70 (ExprForm.call called.Result (exprs (variable (codes "i") 68 ∷ []))) in
    let has_result = expr_at 47 70 (ExprForm.compare compare.NotEqual (expr_at 47 57 ExprForm.unreturned) result_of) in
    let either = expr_at 14 41 (ExprForm.or (exprs (before ∷ is_tx ∷ []))) in
    Reads (codes "invariant n: (before(c, d) || tx == op(c)) ==> unreturned != result(i);")
    (0 ∷ 0 ∷ 0 ∷ 0 ∷ 1 ∷ 1 ∷ 2 ∷ 2 ∷ 2 ∷ 1 ∷ 1 ∷ 1 ∷ 1 ∷ 1 ∷ 1 ∷ 2 ∷ 1 ∷ 0 ∷ 0 ∷ 1 ∷ 1 ∷ 1 ∷ 1 ∷ 2 ∷ 1 ∷ 0 ∷ 0 ∷ [])
    (one_decl 71 (DeclForm.invariant (Some (name_at (codes "n") 10)) (expr_at 13 70 (ExprForm.implies either has_result))))

-- statements of most forms
abbrev pub Statements : Type 0
Statements =
    let declared = stmt_at 16 31 (StmtForm.var (name_at (codes "x") 20) (type_at 23 26 TypeForm.int) (Some (expr_at 29 30 (ExprForm.int (pos 0))))) in
    let fresh = stmt_at 32 42 (StmtForm.new (name_at (codes "x") 32) (name_at (codes "U") 40)) in
    let path = steps (StepTree.key (variable (codes "x") 45) ∷ StepTree.dot (name_at (codes "add") 48) ∷ []) in
    let added = stmt_at 43 55 (StmtForm.access (AccessTree.path (name_at (codes "m") 43) path (ArgTrees.given (exprs (variable (codes "x") 52 ∷ []))))) in
    let assigned = stmt_at 87 93 (StmtForm.assign (name_at (codes "x") 87) (variable (codes "c") 91)) in
    let a = BlockArmTree.arm (PatternTree.pattern (name_at (codes "A") 68) []) (block_at 73 76 []) in
    let b = BlockArmTree.arm (PatternTree.pattern (name_at (codes "B") 77) (name_at (codes "c") 79 ∷ [])) (block_at 85 95 (assigned ∷ [])) in
    let matched = stmt_at 56 97 (StmtForm.match (variable (codes "x") 63) (block_arms (a ∷ b ∷ []))) in
    let returned = stmt_at 107 116 (StmtForm.return (Some (variable (codes "x") 114))) in
    let atomic = stmt_at 98 118 (StmtForm.atomic (block_at 105 118 (returned ∷ []))) in
    let body = block_at 14 120 (declared ∷ fresh ∷ added ∷ matched ∷ atomic ∷ []) in
    Reads (codes "proc p(): Int { var x: Int = 0; x = new U; m[x].add(x); match (x) { A => { } B(c) => { x = c; } } atomic { return x; } }")
    (0 ∷ 0 ∷ 0 ∷ 0 ∷ 0 ∷ 0 ∷ 0 ∷ 1 ∷ 1 ∷ 1 ∷ 1 ∷ 1 ∷ 1 ∷ 1 ∷ 1 ∷ 1 ∷ 1 ∷ 1 ∷ 1 ∷ 1 ∷ 1 ∷ 2 ∷ 1 ∷ 1 ∷ 1 ∷ 1 ∷ 2 ∷ 1 ∷ 1 ∷ 1 ∷ 1 ∷ 2 ∷ 1 ∷ 1
    ∷ 2 ∷ 2 ∷ 2 ∷ 2 ∷ 2 ∷ 2 ∷ 3 ∷ 2 ∷ 2 ∷ 2 ∷ 3 ∷ 3 ∷ 3 ∷ 3 ∷ 2 ∷ 1 ∷ 1 ∷ 1 ∷ 2 ∷ 2 ∷ 2 ∷ 1 ∷ 0 ∷ 0 ∷ [])
    (one_decl 120 (DeclForm.proc (ProcTree.proc (name_at (codes "p") 5) [] (Some (type_at 10 13 TypeForm.int)) body)))

-- two declarations and a comment
abbrev pub DeclaredTypes : Type 0
DeclaredTypes = Reads (codes "idtype U; type T; // comment")
    (0 ∷ 0 ∷ 0 ∷ 0 ∷ 0 ∷ 0 ∷ 0 ∷ [])
    (DeclTree.node (span 0 9) (DeclForm.id_type (name_at (codes "U") 7)) ∷ DeclTree.node (span 10 17) (DeclForm.opaque (name_at (codes "T") 15)) ∷ [])

-- a string of the tree has the bytes that are meant: here a letter, a quote, a backslash and a newline
abbrev pub Strings : Type 0
Strings =
    let literal = expr_at 15 24 (ExprForm.str (97 ∷ 34 ∷ 92 ∷ 10 ∷ [])) in
    Reads (codes "invariant s == \"a\\\"\\\\\\n\";")
    (0 ∷ 0 ∷ 0 ∷ 0 ∷ 0 ∷ 0 ∷ [])
    (one_decl 25 (DeclForm.invariant None (expr_at 10 24 (ExprForm.compare compare.Equal (variable (codes "s") 10) literal))))

-- the other replicated types
abbrev pub ReplicatedTypesByName : Type 0
ReplicatedTypesByName =
    let a = FieldTree.field (name_at (codes "a") 10) (CrdtTree.node (span 13 23) (CrdtForm.set_rw (type_at 19 22 TypeForm.int))) in
    let b = FieldTree.field (name_at (codes "b") 25) (CrdtTree.node (span 28 39) (CrdtForm.reg (type_at 32 38 TypeForm.text))) in
    let c = FieldTree.field (name_at (codes "c") 41) (CrdtTree.node (span 44 55) (CrdtForm.mv_reg (type_at 50 54 TypeForm.bool))) in
    let counter = CrdtTree.node (span 69 76) CrdtForm.counter in
    let d = FieldTree.field (name_at (codes "d") 57) (CrdtTree.node (span 60 77) (CrdtForm.map_dw (named_type (codes "K") 66) counter)) in
    Reads (codes "crdt s: { a: SetRw[Int], b: Reg[String], c: MvReg[Bool], d: MapDw[K, Counter] };")
    (0 ∷ 0 ∷ 0 ∷ 0 ∷ 1 ∷ 1 ∷ 1 ∷ 1 ∷ 2 ∷ 1 ∷ 1 ∷ 1 ∷ 1 ∷ 1 ∷ 1 ∷ 2 ∷ 1 ∷ 1 ∷ 1 ∷ 1 ∷ 1 ∷ 1 ∷ 2 ∷ 1 ∷ 1 ∷ 1 ∷ 1 ∷ 1 ∷ 1 ∷ 2 ∷ 2 ∷ 2 ∷ 1 ∷ 0 ∷ 0 ∷ 0 ∷ [])
    (one_decl 80 (DeclForm.crdt (name_at (codes "s") 5) (CrdtTree.node (span 8 79) (CrdtForm.struct (fields (a ∷ b ∷ c ∷ d ∷ []))))))

-- the other comparisons, and a chain of three
abbrev pub Comparisons : Type 0
Comparisons =
    let a = ParamTree.param (name_at (codes "a") 8) (type_at 11 15 TypeForm.call) in
    let b = ParamTree.param (name_at (codes "b") 17) (type_at 20 30 TypeForm.invocation) in
    let at_most = expr_at 40 46 (ExprForm.compare compare.AtMost (expr_at 40 41 (ExprForm.int (pos 1))) (expr_at 45 46 (ExprForm.int (pos 2)))) in
    let greater = expr_at 50 55 (ExprForm.compare compare.Greater (expr_at 50 51 (ExprForm.int (pos 3))) (variable (codes "x") 54)) in
    let at_least = expr_at 59 65 (ExprForm.compare compare.AtLeast (variable (codes "y") 59) (variable (codes "z") 64)) in
    let body = expr_at 40 65 (ExprForm.and (exprs (at_most ∷ greater ∷ at_least ∷ []))) in
    Reads (codes "query q(a: call, b: invocation): Bool = 1 <= 2 && 3 > x && y >= z;")
    (0 ∷ 0 ∷ 0 ∷ 1 ∷ 1 ∷ 1 ∷ 1 ∷ 1 ∷ 1 ∷ 1 ∷ 0 ∷ 0 ∷ 0 ∷ 0 ∷ 0 ∷ 0 ∷ 0 ∷ 0 ∷ 0 ∷ 0 ∷ 0 ∷ 0 ∷ 0 ∷ 0 ∷ 0 ∷ 0 ∷ 0 ∷ [])
    (one_decl 66 (DeclForm.query (QueryTree.query (name_at (codes "q") 6) (a ∷ b ∷ []) (type_at 33 37 TypeForm.bool) body)))

-- the other words with arguments, and words that stand alone
abbrev pub WordsAlone : Type 0
WordsAlone =
    let visible = expr_at 10 23 (ExprForm.call called.Visible (exprs (expr_at 18 22 (ExprForm.truth true) ∷ []))) in
    let same = expr_at 27 44 (ExprForm.call called.Same (exprs (expr_at 32 37 (ExprForm.truth false) ∷ expr_at 39 43 ExprForm.none_word ∷ []))) in
    let some_tx = expr_at 55 63 (ExprForm.some_of (expr_at 60 62 ExprForm.tx)) in
    let origin = expr_at 48 64 (ExprForm.call called.Origin (exprs (some_tx ∷ []))) in
    let info = expr_at 68 75 (ExprForm.call called.Info (exprs (variable (codes "c") 73 ∷ []))) in
    Reads (codes "invariant visible(true) || same(false, none) || origin(some(tx)) || info(c);")
    (0 ∷ 0 ∷ 0 ∷ 1 ∷ 0 ∷ 0 ∷ 0 ∷ 0 ∷ 1 ∷ 1 ∷ 1 ∷ 0 ∷ 0 ∷ 0 ∷ 0 ∷ 1 ∷ 1 ∷ 2 ∷ 1 ∷ 0 ∷ 0 ∷ 0 ∷ 0 ∷ 1 ∷ 0 ∷ 0 ∷ 0 ∷ [])
    (one_decl 76 (DeclForm.invariant None (expr_at 10 75 (ExprForm.or (exprs (visible ∷ same ∷ origin ∷ info ∷ []))))))

-- statements without what they may have
abbrev pub ShortStatements : Type 0
ShortStatements =
    let declared = stmt_at 11 20 (StmtForm.var (name_at (codes "x") 15) (named_type (codes "T") 18) None) in
    let returned = stmt_at 30 37 (StmtForm.return None) in
    let branch = stmt_at 21 39 (StmtForm.if_ (variable (codes "x") 25) (block_at 28 39 (returned ∷ [])) ElseTree.no_else) in
    let asserted = stmt_at 40 49 (StmtForm.assert (variable (codes "x") 47)) in
    Reads (codes "proc p() { var x: T; if (x) { return; } assert x; }")
    (0 ∷ 0 ∷ 0 ∷ 0 ∷ 0 ∷ 1 ∷ 1 ∷ 1 ∷ 1 ∷ 1 ∷ 1 ∷ 1 ∷ 2 ∷ 1 ∷ 1 ∷ 2 ∷ 2 ∷ 1 ∷ 1 ∷ 1 ∷ 1 ∷ 0 ∷ 0 ∷ [])
    (one_decl 51 (DeclForm.proc (ProcTree.proc (name_at (codes "p") 5) [] None (block_at 9 51 (declared ∷ branch ∷ asserted ∷ [])))))
