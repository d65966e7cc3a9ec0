-- What some programs print as. The law `worked_rows` has each of them.
use Rattle.std.specs.Prelude.{ℕ, ◌≡◌, pos, negsuc, true, false, List, [], ◌∷◌, ◌++◌, Some, None, codes}
use Rattle.rp_span.specs.declared.Span.{Span}
use Rattle.rp_grammar.specs.declared.operator.CompareOp.TheVariants as compare
use Rattle.rp_grammar.specs.Trees.{Ident, ident, TypeTree, TypeForm, ParamTree, CrdtTree, CrdtForm, FieldTree, fields, PatternTree}
use Rattle.rp_grammar.specs.Trees.{ExprTree, ExprForm, exprs, ExprArmTree, expr_arms, AccessTree, StepTree, steps, ArgTrees}
use Rattle.rp_grammar.specs.Trees.{BlockTree, StmtTree, StmtForm, stmts, ElseTree, BlockArmTree, block_arms}
use Rattle.rp_grammar.specs.Trees.{ConTree, QueryTree, ProcTree, DeclForm, DeclTree}
use Rattle.rp_print.specs.Printed.{printed}

abbrev nowhere : Span
nowhere = record { from = 0; to = 0 }

abbrev named : List ℕ → Ident
named n = ident n nowhere

abbrev ty : TypeForm → TypeTree
ty f = TypeTree.node nowhere f

abbrev crdt : CrdtForm → CrdtTree
crdt f = CrdtTree.node nowhere f

abbrev expr : ExprForm → ExprTree
expr f = ExprTree.node nowhere f

abbrev variable : List ℕ → ExprTree
variable n = expr (ExprForm.access (AccessTree.path (named n) (steps []) ArgTrees.absent))

abbrev stmt : StmtForm → StmtTree
stmt f = StmtTree.node nowhere f

abbrev block : List StmtTree → BlockTree
block xs = BlockTree.block nowhere (stmts xs)

-- the declaration prints as this line
abbrev PrintsAs : DeclForm → List ℕ → Type 0
PrintsAs f text = printed (DeclTree.node nowhere f ∷ []) ≡ text ++ 10 ∷ []

-- an operand that is formed with `!` is in parentheses, a whole assertion is not
abbrev pub Tautology : Type 0
Tautology = PrintsAs
    (DeclForm.proc (ProcTree.proc (named (codes "p")) (ParamTree.param (named (codes "b")) (ty TypeForm.bool) ∷ []) None
    (block (stmt (StmtForm.assert (expr (ExprForm.or (exprs (variable (codes "b") ∷ expr (ExprForm.not (variable (codes "b"))) ∷ []))))) ∷ []))))
    (codes "proc p ( b : Bool ) { assert b || ( ! b ) ; }")

-- a negative number is in parentheses as an operand, and not as an argument
abbrev pub Numbers : Type 0
Numbers = PrintsAs
    (DeclForm.invariant None (expr (ExprForm.compare compare.Less (expr (ExprForm.int (negsuc 0)))
    (expr (ExprForm.plus (expr (ExprForm.some_of (expr (ExprForm.int (negsuc 1))))) (expr (ExprForm.int (pos 3))))))))
    (codes "invariant ( - 1 ) < ( some ( - 2 ) + 3 ) ;")

-- the string of a quote, a backslash and a newline
abbrev pub Strings : Type 0
Strings = PrintsAs
    (DeclForm.invariant (Some (named (codes "i"))) (expr (ExprForm.access (AccessTree.path (named (codes "m"))
    (steps (StepTree.dot (named (codes "f")) ∷ StepTree.key (expr (ExprForm.str (34 ∷ 92 ∷ 10 ∷ []))) ∷ [])) (ArgTrees.given (exprs []))))))
    (codes "invariant i : m . f [ " ++ 34 ∷ 92 ∷ 34 ∷ 92 ∷ 92 ∷ 92 ∷ 110 ∷ 34 ∷ codes " ] ( ) ;")

-- a quantifier's body is a whole, a quantifier as an operand is in parentheses
abbrev pub Quantifiers : Type 0
Quantifiers = PrintsAs
    (DeclForm.invariant None (expr (ExprForm.forall (ParamTree.param (named (codes "u")) (ty (TypeForm.named (codes "U"))))
    (expr (ExprForm.implies (expr (ExprForm.not (variable (codes "u")))) (expr (ExprForm.exists (ParamTree.param (named (codes "c")) (ty TypeForm.call)) (expr (ExprForm.truth true)))))))))
    (codes "invariant forall u : U :: ( ! u ) ==> ( exists c : call :: true ) ;")

-- a condition is a whole, the body of an arm an argument
abbrev pub Matches : Type 0
Matches = PrintsAs
    (DeclForm.query (QueryTree.query (named (codes "q")) [] (ty TypeForm.bool) (expr (ExprForm.match (variable (codes "x")) (expr_arms
    (ExprArmTree.arm (PatternTree.pattern (named (codes "none")) []) (expr (ExprForm.truth false))
    ∷ ExprArmTree.arm (PatternTree.pattern (named (codes "some")) (named (codes "y") ∷ [])) (expr (ExprForm.and (exprs (variable (codes "y") ∷ variable (codes "z") ∷ [])))) ∷ []))))))
    (codes "query q ( ) : Bool = match ( x ) { none => false , some ( y ) => ( y && z ) } ;")

abbrev pub Branches : Type 0
Branches = PrintsAs
    (DeclForm.proc (ProcTree.proc (named (codes "p")) [] (Some (ty TypeForm.int)) (block
    (stmt (StmtForm.if_ (expr (ExprForm.not (variable (codes "a")))) (block []) (ElseTree.else_if
    (stmt (StmtForm.if_ (variable (codes "b")) (block (stmt (StmtForm.return None) ∷ [])) (ElseTree.else_block (block (stmt (StmtForm.new (named (codes "x")) (named (codes "U"))) ∷ [])))))))
    ∷ stmt (StmtForm.match (variable (codes "x")) (block_arms (BlockArmTree.arm (PatternTree.pattern (named (codes "A")) []) (block []) ∷ []))) ∷ []))))
    (codes "proc p ( ) : Int { if ( ! a ) { } else if ( b ) { return ; } else { x = new U ; } match ( x ) { A => { } } }")

abbrev pub Datatypes : Type 0
Datatypes = PrintsAs
    (DeclForm.datatype (named (codes "D")) (ConTree.con (named (codes "A")) []
    ∷ ConTree.con (named (codes "B")) (ParamTree.param (named (codes "x")) (ty (TypeForm.maybe (ty TypeForm.text))) ∷ ParamTree.param (named (codes "y")) (ty TypeForm.int) ∷ []) ∷ []))
    (codes "datatype D = A | B ( x : Maybe [ String ] , y : Int ) ;")

abbrev pub ReplicatedTypes : Type 0
ReplicatedTypes = PrintsAs
    (DeclForm.crdt (named (codes "m")) (crdt (CrdtForm.map_uw (ty TypeForm.text) (crdt (CrdtForm.struct (fields
    (FieldTree.field (named (codes "s")) (crdt (CrdtForm.set_aw (ty (TypeForm.named (codes "U"))))) ∷ FieldTree.field (named (codes "n")) (crdt CrdtForm.counter) ∷ [])))))))
    (codes "crdt m : MapUw [ String , { s : SetAw [ U ] , n : Counter } ] ;")
