-- The places of statements.
use Rattle.std.specs.Prelude.{ℕ, Bool, true, false, List, [], ◌∷◌, ◌++◌, codes, Option, Some, None}
use Rattle.rp_span.specs.declared.Span.{Span}
use Rattle.rp_grammar.specs.Trees.{Ident, TypeTree, ExprTree, BlockTree, StmtTree, StmtForm, StmtTrees, ElseTree, BlockArmTree, BlockArmTrees}
use Rattle.type_rules.specs.declared.kind.Kind.{Kind}
use Rattle.type_rules.specs.declared.role.Role.TheVariants as role
use Rattle.type_rules.specs.Names.{Name, Names, text_of}
use Rattle.type_rules.specs.Kinds.{kind_of, unknown_kind}
use Rattle.type_rules.specs.Starts.{word_at}
use Rattle.type_rules.specs.Accesses.{Var, find_var}
use Rattle.type_rules.specs.Typing.{type_of}
use Rattle.type_rules.specs.Sites.{Scope, Want, Leaving, Site}
use Rattle.type_rules.specs.Matches.{pattern_name}
use Rattle.type_rules.specs.ExprSites.{asks, bool_whole, matched, expr_sites, access_sites, pattern_sites}
use Rattle.type_rules.specs.Flow.{Sight, has_value, with_declared, in_pattern, after}

-- the procedure and the block in which a statement stands
pub record Frame : Type 0 where
  -- the number of the procedure's declaration
  pub decl : ℕ
  pub result : Option Kind
  pub inside_atomic : Bool
  -- the variables that are declared later in this or an enclosing block
  pub later : List Name

abbrev pub scope_in : Frame → Sight → Scope
scope_in f g = record { vars = g.vars; later = f.later; decl = f.decl; words = false }

-- the names that these statements themselves declare
abbrev pub declared_in : StmtTrees → List Name
declared_in StmtTrees.no_stmts = []
declared_in (StmtTrees.more_stmts (StmtTree.node at (StmtForm.var x t e)) stmts) = text_of x ∷ declared_in stmts
declared_in (StmtTrees.more_stmts (StmtTree.node at form) stmts) = declared_in stmts

abbrev pub before_stmts : Frame → StmtTrees → Frame
before_stmts f rest = record f { later = declared_in rest ++ f.later }

abbrev pub is_last : StmtTrees → Bool
is_last StmtTrees.no_stmts = true
is_last (StmtTrees.more_stmts s stmts) = false

abbrev pub var_kind : Option Var → Kind
var_kind None = unknown_kind
var_kind (Some v) = v.kind

-- a value that goes into this variable
abbrev pub value_for : Option Var → Want
value_for v = asks 23 (var_kind v)

abbrev pub result_kind : Option Kind → Kind
result_kind None = unknown_kind
result_kind (Some k) = k

abbrev pub is_there : {X : Type 0} → Option X → Bool
is_there None = false
is_there (Some x) = true

abbrev pub leaving : Frame → Bool → Option ExprTree → Leaving
leaving f last e = record { inside_atomic = f.inside_atomic; last_in_block = last; has_value = has_value e; has_result = is_there f.result }

-- a value, if there is one
abbrev pub value_sites : Names → Scope → Want → Option ExprTree → List Site
value_sites n sc w None = []
value_sites n sc w (Some e) = expr_sites n sc w e

-- a variable's declaration; its own value is read before it has one
abbrev pub var_sites : Names → Frame → Sight → Ident → TypeTree → Option ExprTree → List Site
var_sites n f g x t e =
    Site.declares g.vars x ∷ Site.written f.decl role.Variable t
    ∷ value_sites n (scope_in f (with_declared n g false x t)) (asks 23 (kind_of n t)) e

abbrev pub new_sites : Frame → Sight → Ident → Ident → List Site
new_sites f g x t = Site.assigns (scope_in f g) x ∷ Site.made f.decl (find_var g.vars (text_of x)) t ∷ []

abbrev pub assign_sites : Names → Frame → Sight → Ident → ExprTree → List Site
assign_sites n f g x e = Site.assigns (scope_in f g) x ∷ expr_sites n (scope_in f g) (value_for (find_var g.vars (text_of x))) e

abbrev pub arm_names : BlockArmTrees → List Name
arm_names BlockArmTrees.no_block_arms = []
arm_names (BlockArmTrees.more_block_arms (BlockArmTree.arm p b) arms) = pattern_name p ∷ arm_names arms

abbrev mutual
  -- a statement, last in its block or not
  pub stmt_sites : Names → Frame → Sight → Bool → StmtTree → List Site
  stmt_sites n f g last (StmtTree.node at form) = stmt_form_sites n f g last at form

  pub stmt_form_sites : Names → Frame → Sight → Bool → Span → StmtForm → List Site
  stmt_form_sites n f g last at (StmtForm.var x t e) = var_sites n f g x t e
  stmt_form_sites n f g last at (StmtForm.new x t) = new_sites f g x t
  stmt_form_sites n f g last at (StmtForm.assign x e) = assign_sites n f g x e
  stmt_form_sites n f g last at (StmtForm.access a) = Site.statement (scope_in f g) a ∷ access_sites n (scope_in f g) a
  stmt_form_sites n f g last at (StmtForm.if_ e b other) = expr_sites n (scope_in f g) bool_whole e ++ block_sites n f g b ++ else_sites n f g other
  stmt_form_sites n f g last at (StmtForm.match e arms) =
      let k = type_of n g.vars None e in
      expr_sites n (scope_in f g) matched e ++ Site.arms (word_at (codes "match") at) k (arm_names arms) ∷ arm_sites n f g k [] arms
  stmt_form_sites n f g last at (StmtForm.atomic b) = Site.opens f.inside_atomic (word_at (codes "atomic") at) ∷ block_sites n (record f { inside_atomic = true }) g b
  stmt_form_sites n f g last at (StmtForm.assert e) = expr_sites n (scope_in f g) bool_whole e
  stmt_form_sites n f g last at (StmtForm.return e) =
      Site.leaves (leaving f last e) (word_at (codes "return") at) ∷ value_sites n (scope_in f g) (asks 23 (result_kind f.result)) e

  pub stmts_sites : Names → Frame → Sight → StmtTrees → List Site
  stmts_sites n f g StmtTrees.no_stmts = []
  stmts_sites n f g (StmtTrees.more_stmts s stmts) =
      stmt_sites n (before_stmts f stmts) g (is_last stmts) s ++ stmts_sites n f (after n g s) stmts

  pub block_sites : Names → Frame → Sight → BlockTree → List Site
  block_sites n f g (BlockTree.block at stmts) = stmts_sites n f g stmts

  pub else_sites : Names → Frame → Sight → ElseTree → List Site
  else_sites n f g ElseTree.no_else = []
  else_sites n f g (ElseTree.else_block b) = block_sites n f g b
  -- an `if` behind `else` is alone there
  else_sites n f g (ElseTree.else_if s) = stmt_sites n f g true s

  pub arm_sites : Names → Frame → Sight → Kind → List Name → BlockArmTrees → List Site
  arm_sites n f g k before BlockArmTrees.no_block_arms = []
  arm_sites n f g k before (BlockArmTrees.more_block_arms (BlockArmTree.arm p b) arms) =
      pattern_sites n g.vars k before p ++ block_sites n f (in_pattern n g k p) b ++ arm_sites n f g k (pattern_name p ∷ before) arms
