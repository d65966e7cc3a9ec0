-- Which datatypes expressions, statements and declarations bring, told by the names and types of variables alone.
use Rattle.std.specs.Prelude.{ℕ, ◌+◌, List, [], ◌∷◌, ◌++◌, flat_map, Option, Some, None}
use Rattle.std.specs.Option.{option_map}
use Rattle.rp_grammar.specs.Trees.{Ident, TypeTree, ParamTree, PatternTree, ExprTree, ExprForm, ExprTrees, ExprArmTree, ExprArmTrees, AccessTree, StepTree, StepTrees, ArgTrees, BlockTree, StmtTree, StmtForm, StmtTrees, ElseTree, BlockArmTree, BlockArmTrees, QueryTree, ProcTree, DeclForm, DeclTree}
use Rattle.type_rules.specs.declared.kind.Kind.{Kind}
use Rattle.type_rules.specs.declared.kind.Base.TheVariants as base
use Rattle.type_rules.specs.Names.{Names, text_of, param_type}
use Rattle.type_rules.specs.Kinds.{bool_kind, int_kind, kind_of, param_kinds, plain_kind}
use Rattle.type_rules.specs.Paths.{Way, key_kind, stepped}
use Rattle.type_rules.specs.Accesses.{Var, access_of, args_of, find_var}
use Rattle.type_rules.specs.Typing.{asked_inside, form_type, type_of}
use Rattle.type_rules.specs.Matches.{bound_var, first_kind, other_kinds, pattern_kinds, pattern_name, pattern_vars, with_bound}
use Rattle.type_rules.specs.ExprSites.{left_want, quantified_var, right_want, way_from, word_args}
use Rattle.type_rules.specs.StmtSites.{result_kind, var_kind}
use Rattle.type_rules.specs.Queries.{param_vars}
use Rattle.desugaring.specs.Appearances.{crdt_kinds, parts}
use Rattle.text_kinds.specs.Numbered.{Numbered, with_kinds}

-- # The walk

-- the variables in sight, and what was found so far
pub record Seen : Type 0 where
  pub vars : List Var
  pub kinds : Numbered

-- these datatypes come to those that were found
abbrev pub sought : Seen → List Kind → Seen
sought s ks = record s { kinds = with_kinds ks s.kinds }

-- these variables are in sight
abbrev pub seeing : Seen → List Var → Seen
seeing s vs = record s { vars = vs }

-- # Expressions

abbrev pub behind_pattern : Names → List Var → Kind → PatternTree → List Var
behind_pattern n vs k p = with_bound vs (pattern_vars p) (pattern_kinds n k (pattern_name p))

abbrev mutual
  -- at a place that asks this type
  pub expr_brings : Names → List Var → Option Kind → ExprTree → List Kind
  expr_brings n vs asked (ExprTree.node at form) = form_brings n vs asked form

  pub form_brings : Names → List Var → Option Kind → ExprForm → List Kind
  form_brings n vs asked (ExprForm.implies a b) = expr_brings n vs (Some bool_kind) a ++ expr_brings n vs (Some bool_kind) b
  form_brings n vs asked (ExprForm.or es) = operands_bring n vs es
  form_brings n vs asked (ExprForm.and es) = operands_bring n vs es
  form_brings n vs asked (ExprForm.not e) = expr_brings n vs (Some bool_kind) e
  form_brings n vs asked (ExprForm.forall p e) =
      parts n (kind_of n (param_type p)) ++ expr_brings n (vs ++ quantified_var n p ∷ []) (Some bool_kind) e
  form_brings n vs asked (ExprForm.exists p e) =
      parts n (kind_of n (param_type p)) ++ expr_brings n (vs ++ quantified_var n p ∷ []) (Some bool_kind) e
  form_brings n vs asked (ExprForm.compare c a b) =
      expr_brings n vs (left_want n vs c a b).asked a ++ expr_brings n vs (right_want n vs c a b).asked b
  form_brings n vs asked (ExprForm.plus a b) = expr_brings n vs (Some int_kind) a ++ expr_brings n vs (Some int_kind) b
  form_brings n vs asked (ExprForm.minus a b) = expr_brings n vs (Some int_kind) a ++ expr_brings n vs (Some int_kind) b
  form_brings n vs asked (ExprForm.int i) = []
  form_brings n vs asked (ExprForm.str bytes) = []
  form_brings n vs asked (ExprForm.truth b) = []
  form_brings n vs asked ExprForm.none_word = []
  form_brings n vs asked (ExprForm.some_of e) =
      parts n (form_type n vs asked (ExprForm.some_of e)) ++ expr_brings n vs (asked_inside asked) e
  form_brings n vs asked ExprForm.unreturned = []
  form_brings n vs asked ExprForm.tx = []
  form_brings n vs asked (ExprForm.call word es) = args_bring n vs (word_args n vs word es) es
  form_brings n vs asked (ExprForm.match e arms) = expr_brings n vs None e ++ arms_bring n vs (type_of n vs None e) arms
  form_brings n vs asked (ExprForm.access a) = access_brings n vs a

  pub operands_bring : Names → List Var → ExprTrees → List Kind
  operands_bring n vs ExprTrees.no_exprs = []
  operands_bring n vs (ExprTrees.more_exprs e es) = expr_brings n vs (Some bool_kind) e ++ operands_bring n vs es

  -- arguments that are to have these types
  pub args_bring : Names → List Var → List Kind → ExprTrees → List Kind
  args_bring n vs ks ExprTrees.no_exprs = []
  args_bring n vs ks (ExprTrees.more_exprs e es) =
      expr_brings n vs (Some (first_kind ks)) e ++ args_bring n vs (other_kinds ks) es

  -- arms for a term of this type
  pub arms_bring : Names → List Var → Kind → ExprArmTrees → List Kind
  arms_bring n vs k ExprArmTrees.no_expr_arms = []
  arms_bring n vs k (ExprArmTrees.more_expr_arms one arms) = arm_brings n vs k one ++ arms_bring n vs k arms

  pub arm_brings : Names → List Var → Kind → ExprArmTree → List Kind
  arm_brings n vs k (ExprArmTree.arm p e) = expr_brings n (behind_pattern n vs k p) (Some bool_kind) e

  pub access_brings : Names → List Var → AccessTree → List Kind
  access_brings n vs (AccessTree.path x steps args) =
      steps_bring n vs (way_from n (find_var vs (text_of x)) x) steps
      ++ given_brings n vs (args_of n (access_of n vs (AccessTree.path x steps args))) args

  -- keys of the steps that go on from there
  pub steps_bring : Names → List Var → Way → StepTrees → List Kind
  steps_bring n vs way StepTrees.no_steps = []
  steps_bring n vs way (StepTrees.more_steps s steps) = key_brings n vs way s ++ steps_bring n vs (stepped n way s) steps

  pub key_brings : Names → List Var → Way → StepTree → List Kind
  key_brings n vs way (StepTree.dot x) = []
  key_brings n vs way (StepTree.returned at) = []
  key_brings n vs way (StepTree.key e) = expr_brings n vs (Some (key_kind n way)) e

  pub given_brings : Names → List Var → List Kind → ArgTrees → List Kind
  given_brings n vs ks ArgTrees.absent = []
  given_brings n vs ks (ArgTrees.given es) = args_bring n vs ks es

-- # Statements

abbrev pub value_brings : Names → List Var → Kind → Option ExprTree → List Kind
value_brings n vs k None = []
value_brings n vs k (Some e) = expr_brings n vs (Some k) e

abbrev pub with_variable : Names → List Var → Ident → TypeTree → List Var
with_variable n vs x t = vs ++ bound_var x (kind_of n t) ∷ []

-- the variables in sight behind a statement
abbrev pub vars_behind : Names → List Var → StmtTree → List Var
vars_behind n vs (StmtTree.node at (StmtForm.var x t e)) = with_variable n vs x t
vars_behind n vs (StmtTree.node at (StmtForm.new x t)) = vs
vars_behind n vs (StmtTree.node at (StmtForm.assign x e)) = vs
vars_behind n vs (StmtTree.node at (StmtForm.access a)) = vs
vars_behind n vs (StmtTree.node at (StmtForm.if_ e b other)) = vs
vars_behind n vs (StmtTree.node at (StmtForm.match e arms)) = vs
vars_behind n vs (StmtTree.node at (StmtForm.atomic b)) = vs
vars_behind n vs (StmtTree.node at (StmtForm.assert e)) = vs
vars_behind n vs (StmtTree.node at (StmtForm.return e)) = vs

abbrev pub stmts_behind : Names → List Var → StmtTrees → List Var
stmts_behind n vs StmtTrees.no_stmts = vs
stmts_behind n vs (StmtTrees.more_stmts s stmts) = stmts_behind n (vars_behind n vs s) stmts

abbrev mutual
  -- in a procedure with a result of this type
  pub stmt_brings : Names → List Var → Kind → StmtTree → List Kind
  stmt_brings n vs r (StmtTree.node at form) = stmt_form_brings n vs r form

  pub stmt_form_brings : Names → List Var → Kind → StmtForm → List Kind
  stmt_form_brings n vs r (StmtForm.var x t e) = parts n (kind_of n t) ++ value_brings n (with_variable n vs x t) (kind_of n t) e
  stmt_form_brings n vs r (StmtForm.new x t) = []
  stmt_form_brings n vs r (StmtForm.assign x e) = expr_brings n vs (Some (var_kind (find_var vs (text_of x)))) e
  stmt_form_brings n vs r (StmtForm.access a) = access_brings n vs a
  stmt_form_brings n vs r (StmtForm.if_ e b other) =
      expr_brings n vs (Some bool_kind) e ++ block_brings n vs r b ++ else_brings n vs r other
  stmt_form_brings n vs r (StmtForm.match e arms) = expr_brings n vs None e ++ block_arms_bring n vs r (type_of n vs None e) arms
  stmt_form_brings n vs r (StmtForm.atomic b) = block_brings n vs r b
  stmt_form_brings n vs r (StmtForm.assert e) = expr_brings n vs (Some bool_kind) e
  stmt_form_brings n vs r (StmtForm.return e) = value_brings n vs r e

  pub stmts_bring : Names → List Var → Kind → StmtTrees → List Kind
  stmts_bring n vs r StmtTrees.no_stmts = []
  stmts_bring n vs r (StmtTrees.more_stmts s stmts) = stmt_brings n vs r s ++ stmts_bring n (vars_behind n vs s) r stmts

  pub block_brings : Names → List Var → Kind → BlockTree → List Kind
  block_brings n vs r (BlockTree.block at stmts) = stmts_bring n vs r stmts

  pub else_brings : Names → List Var → Kind → ElseTree → List Kind
  else_brings n vs r ElseTree.no_else = []
  else_brings n vs r (ElseTree.else_block b) = block_brings n vs r b
  else_brings n vs r (ElseTree.else_if s) = stmt_brings n vs r s

  -- arms for a term of this type
  pub block_arms_bring : Names → List Var → Kind → Kind → BlockArmTrees → List Kind
  block_arms_bring n vs r k BlockArmTrees.no_block_arms = []
  block_arms_bring n vs r k (BlockArmTrees.more_block_arms one arms) =
      block_arm_brings n vs r k one ++ block_arms_bring n vs r k arms

  pub block_arm_brings : Names → List Var → Kind → Kind → BlockArmTree → List Kind
  block_arm_brings n vs r k (BlockArmTree.arm p b) = block_brings n (behind_pattern n vs k p) r b

-- # Declarations

abbrev pub type_count : DeclForm → ℕ
type_count (DeclForm.id_type x) = 1
type_count (DeclForm.opaque x) = 1
type_count (DeclForm.datatype x cons) = 1
type_count (DeclForm.crdt x c) = 0
type_count (DeclForm.query q) = 0
type_count (DeclForm.invariant x e) = 0
type_count (DeclForm.proc p) = 0

abbrev pub params_bring : Names → List ParamTree → List Kind
params_bring n params = flat_map (parts n) (param_kinds n params)

abbrev pub query_brings : Names → QueryTree → List Kind
query_brings n (QueryTree.query x params result body) =
    params_bring n params ++ parts n (kind_of n result) ++ expr_brings n (param_vars n params) (Some (kind_of n result)) body

abbrev pub result_brings : Names → Option TypeTree → List Kind
result_brings n None = []
result_brings n (Some t) = parts n (kind_of n t)

abbrev pub proc_brings : Names → ProcTree → List Kind
proc_brings n (ProcTree.proc x params result body) =
    params_bring n params ++ result_brings n result
    ++ block_brings n (param_vars n params) (result_kind (option_map (kind_of n) result)) body

-- before which so many types are declared
abbrev pub decl_brings : Names → ℕ → DeclForm → List Kind
decl_brings n type (DeclForm.id_type x) = []
decl_brings n type (DeclForm.opaque x) = []
decl_brings n type (DeclForm.datatype x cons) = parts n (plain_kind (base.Declared type))
decl_brings n type (DeclForm.crdt x c) = crdt_kinds n c
decl_brings n type (DeclForm.query q) = query_brings n q
decl_brings n type (DeclForm.invariant x e) = expr_brings n [] (Some bool_kind) e
decl_brings n type (DeclForm.proc p) = proc_brings n p

abbrev pub decls_bring : Names → ℕ → List DeclTree → List Kind
decls_bring n type [] = []
decls_bring n type (DeclTree.node at form ∷ ds) = decl_brings n type form ++ decls_bring n (type + type_count form) ds
