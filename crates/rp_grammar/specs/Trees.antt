-- The trees of programs. A node has the span of its phrase; parentheses leave no node.
use Rattle.std.specs.Prelude.{ℕ, ℤ, Bool, List, [], ◌∷◌, Option}
use Rattle.rp_span.specs.declared.Span.{Span}
use Rattle.rp_grammar.specs.declared.operator.CompareOp.{CompareOp}
use Rattle.rp_grammar.specs.declared.operator.CallWord.{CallWord}

-- a name with its bytes, and where it stands
pub data Ident : Type 0 where
  ident : List ℕ → Span → Ident

mutual
  pub data TypeTree : Type 0 where
    node : Span → TypeForm → TypeTree

  pub data TypeForm : Type 0 where
    named : List ℕ → TypeForm
    bool : TypeForm
    int : TypeForm
    text : TypeForm
    maybe : TypeTree → TypeForm
    call : TypeForm
    invocation : TypeForm

-- a name with its type: a parameter, a field or a quantified variable
pub data ParamTree : Type 0 where
  param : Ident → TypeTree → ParamTree

mutual
  pub data CrdtTree : Type 0 where
    node : Span → CrdtForm → CrdtTree

  pub data CrdtForm : Type 0 where
    set_aw : TypeTree → CrdtForm
    set_rw : TypeTree → CrdtForm
    reg : TypeTree → CrdtForm
    mv_reg : TypeTree → CrdtForm
    counter : CrdtForm
    map_uw : TypeTree → CrdtTree → CrdtForm
    map_dw : TypeTree → CrdtTree → CrdtForm
    struct : FieldTrees → CrdtForm

  pub data FieldTree : Type 0 where
    field : Ident → CrdtTree → FieldTree

  pub data FieldTrees : Type 0 where
    no_fields : FieldTrees
    more_fields : FieldTree → FieldTrees → FieldTrees

-- a constructor and its variables
pub data PatternTree : Type 0 where
  pattern : Ident → List Ident → PatternTree

mutual
  pub data ExprTree : Type 0 where
    node : Span → ExprForm → ExprTree

  pub data ExprForm : Type 0 where
    implies : ExprTree → ExprTree → ExprForm
    or : ExprTrees → ExprForm
    and : ExprTrees → ExprForm
    not : ExprTree → ExprForm
    forall : ParamTree → ExprTree → ExprForm
    exists : ParamTree → ExprTree → ExprForm
    compare : CompareOp → ExprTree → ExprTree → ExprForm
    plus : ExprTree → ExprTree → ExprForm
    minus : ExprTree → ExprTree → ExprForm
    int : ℤ → ExprForm
    str : List ℕ → ExprForm
    truth : Bool → ExprForm
    none_word : ExprForm
    some_of : ExprTree → ExprForm
    unreturned : ExprForm
    tx : ExprForm
    call : CallWord → ExprTrees → ExprForm
    match : ExprTree → ExprArmTrees → ExprForm
    access : AccessTree → ExprForm

  pub data ExprTrees : Type 0 where
    no_exprs : ExprTrees
    more_exprs : ExprTree → ExprTrees → ExprTrees

  pub data ExprArmTree : Type 0 where
    arm : PatternTree → ExprTree → ExprArmTree

  pub data ExprArmTrees : Type 0 where
    no_expr_arms : ExprArmTrees
    more_expr_arms : ExprArmTree → ExprArmTrees → ExprArmTrees

  -- the root, the steps from it, and the arguments
  pub data AccessTree : Type 0 where
    path : Ident → StepTrees → ArgTrees → AccessTree

  pub data StepTree : Type 0 where
    dot : Ident → StepTree
    returned : Span → StepTree
    key : ExprTree → StepTree

  pub data StepTrees : Type 0 where
    no_steps : StepTrees
    more_steps : StepTree → StepTrees → StepTrees

  -- arguments in parentheses, or no parentheses
  pub data ArgTrees : Type 0 where
    absent : ArgTrees
    given : ExprTrees → ArgTrees

mutual
  pub data BlockTree : Type 0 where
    block : Span → StmtTrees → BlockTree

  pub data StmtTree : Type 0 where
    node : Span → StmtForm → StmtTree

  pub data StmtForm : Type 0 where
    var : Ident → TypeTree → Option ExprTree → StmtForm
    new : Ident → Ident → StmtForm
    assign : Ident → ExprTree → StmtForm
    access : AccessTree → StmtForm
    if_ : ExprTree → BlockTree → ElseTree → StmtForm
    match : ExprTree → BlockArmTrees → StmtForm
    atomic : BlockTree → StmtForm
    assert : ExprTree → StmtForm
    return : Option ExprTree → StmtForm

  pub data StmtTrees : Type 0 where
    no_stmts : StmtTrees
    more_stmts : StmtTree → StmtTrees → StmtTrees

  pub data ElseTree : Type 0 where
    no_else : ElseTree
    else_block : BlockTree → ElseTree
    else_if : StmtTree → ElseTree

  pub data BlockArmTree : Type 0 where
    arm : PatternTree → BlockTree → BlockArmTree

  pub data BlockArmTrees : Type 0 where
    no_block_arms : BlockArmTrees
    more_block_arms : BlockArmTree → BlockArmTrees → BlockArmTrees

-- a constructor of a datatype and its fields
pub data ConTree : Type 0 where
  con : Ident → List ParamTree → ConTree

-- name, parameters, result, body
pub data QueryTree : Type 0 where
  query : Ident → List ParamTree → TypeTree → ExprTree → QueryTree

-- name, parameters, result, body
pub data ProcTree : Type 0 where
  proc : Ident → List ParamTree → Option TypeTree → BlockTree → ProcTree

pub data DeclForm : Type 0 where
  id_type : Ident → DeclForm
  opaque : Ident → DeclForm
  datatype : Ident → List ConTree → DeclForm
  crdt : Ident → CrdtTree → DeclForm
  query : QueryTree → DeclForm
  invariant : Option Ident → ExprTree → DeclForm
  proc : ProcTree → DeclForm

pub data DeclTree : Type 0 where
  node : Span → DeclForm → DeclTree

-- the recursive lists of a tree

abbrev pub fields : List FieldTree → FieldTrees
fields [] = FieldTrees.no_fields
fields (x ∷ xs) = FieldTrees.more_fields x (fields xs)

abbrev pub exprs : List ExprTree → ExprTrees
exprs [] = ExprTrees.no_exprs
exprs (x ∷ xs) = ExprTrees.more_exprs x (exprs xs)

abbrev pub expr_arms : List ExprArmTree → ExprArmTrees
expr_arms [] = ExprArmTrees.no_expr_arms
expr_arms (x ∷ xs) = ExprArmTrees.more_expr_arms x (expr_arms xs)

abbrev pub steps : List StepTree → StepTrees
steps [] = StepTrees.no_steps
steps (x ∷ xs) = StepTrees.more_steps x (steps xs)

abbrev pub stmts : List StmtTree → StmtTrees
stmts [] = StmtTrees.no_stmts
stmts (x ∷ xs) = StmtTrees.more_stmts x (stmts xs)

abbrev pub block_arms : List BlockArmTree → BlockArmTrees
block_arms [] = BlockArmTrees.no_block_arms
block_arms (x ∷ xs) = BlockArmTrees.more_block_arms x (block_arms xs)
