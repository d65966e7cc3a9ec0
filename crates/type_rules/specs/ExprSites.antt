-- The places of an expression.
use Rattle.std.specs.Prelude.{ℕ, length, Bool, true, false, List, [], ◌∷◌, ◌++◌, codes, Option, Some, None, if◌then◌else◌}
use Rattle.rp_span.specs.declared.Span.{Span}
use Rattle.rp_grammar.specs.declared.operator.CallWord.{CallWord}
use Rattle.rp_grammar.specs.declared.operator.CallWord.TheVariants as called
use Rattle.rp_grammar.specs.declared.operator.CompareOp.{CompareOp}
use Rattle.rp_grammar.specs.declared.operator.CompareOp.TheVariants as compare
use Rattle.rp_grammar.specs.Trees.{Ident, ParamTree, PatternTree, ExprTree, ExprForm, ExprTrees, ExprArmTree, ExprArmTrees, AccessTree, StepTree, StepTrees, ArgTrees}
use Rattle.type_rules.specs.declared.kind.Kind.{Kind}
use Rattle.type_rules.specs.declared.kind.Base.{Base}
use Rattle.type_rules.specs.declared.kind.Base.TheVariants as base
use Rattle.type_rules.specs.declared.role.Role.TheVariants as role
use Rattle.type_rules.specs.Names.{Name, Names, Entry, Declared, text_of, param_name, param_type, entry_named}
use Rattle.type_rules.specs.Kinds.{plain_kind, bool_kind, int_kind, unknown_kind, is_open, kind_of}
use Rattle.type_rules.specs.Starts.{word_at, span_of}
use Rattle.type_rules.specs.Paths.{Way, stepped, key_kind}
use Rattle.type_rules.specs.Accesses.{Var, find_var, access_of, args_of}
use Rattle.type_rules.specs.Typing.{type_of, asked_inside}
use Rattle.type_rules.specs.Sites.{Scope, Want, Site}
use Rattle.type_rules.specs.Matches.{pattern_con, pattern_vars, pattern_name, pattern_kinds, bound_var, with_bound, bound_sites, first_kind, other_kinds}

-- # What places ask

-- a type, which another type breaks by this rule
abbrev pub asks : ℕ → Kind → Want
asks rule k = record { asked = Some k; rule = rule; plain = false; across = None }

-- an operand of `!`, `&&`, `||` or `==>`, or the body of a quantifier
abbrev pub bool_operand : Want
bool_operand = asks 10 bool_kind

abbrev pub int_operand : Want
int_operand = asks 10 int_kind

-- a side of `<`, `<=`, `>` or `>=`
abbrev pub ordered_side : Want
ordered_side = record int_operand { plain = true }

-- an arm of a `match` expression, an invariant, a condition or an assertion
abbrev pub bool_whole : Want
bool_whole = asks 22 bool_kind

-- an argument or a key; one of a word needn't be a plain term
abbrev pub argument : Bool → Kind → Want
argument plain k = record { asked = Some k; rule = 14; plain = plain; across = None }

-- the term in parentheses after `match`
abbrev pub matched : Want
matched = record { asked = None; rule = 18; plain = true; across = None }

-- what stands in the parentheses of `some`, which is a constructor; its type is judged as that of the whole
abbrev pub held : Option Kind → Want
held asked = record { asked = asked_inside asked; rule = 0; plain = true; across = None }

-- the word that an expression is
abbrev pub word_of : ExprTree → Option CallWord
word_of (ExprTree.node at (ExprForm.call w es)) = Some w
word_of (ExprTree.node at form) = None

-- # Sides of `==` and `!=`

-- the left side is asked the type of the right one where it has none of its own
abbrev pub left_asked : Names → List Var → ExprTree → ExprTree → Option Kind
left_asked n vs a b = if is_open (type_of n vs None a).base then Some (type_of n vs None b) else None

-- where two types differ the right side is the offending one
abbrev pub left_side : Names → List Var → ExprTree → ExprTree → Want
left_side n vs a b = record { asked = left_asked n vs a b; rule = 0; plain = true; across = word_of b }

abbrev pub right_side : Names → List Var → ExprTree → ExprTree → Want
right_side n vs a b = record { asked = Some (type_of n vs (left_asked n vs a b) a); rule = 10; plain = true; across = word_of a }

abbrev pub is_equality : CompareOp → Bool
is_equality compare.Equal = true
is_equality compare.NotEqual = true
is_equality compare.Less = false
is_equality compare.AtMost = false
is_equality compare.Greater = false
is_equality compare.AtLeast = false

abbrev pub left_want : Names → List Var → CompareOp → ExprTree → ExprTree → Want
left_want n vs c a b = if is_equality c then left_side n vs a b else ordered_side

abbrev pub right_want : Names → List Var → CompareOp → ExprTree → ExprTree → Want
right_want n vs c a b = if is_equality c then right_side n vs a b else ordered_side

-- # Arguments of words

abbrev pub is_invocation : Base → Bool
is_invocation base.Invocation = true
is_invocation _ = false

abbrev pub call_kind : Kind
call_kind = plain_kind base.Call

abbrev pub invocation_kind : Kind
invocation_kind = plain_kind base.Invocation

-- `before` takes two calls, or two invocations where the first argument is one
abbrev pub before_kind : Kind → Kind
before_kind k = if is_invocation k.base then invocation_kind else call_kind

abbrev pub first_type : Names → List Var → ExprTrees → Kind
first_type n vs ExprTrees.no_exprs = unknown_kind
first_type n vs (ExprTrees.more_exprs e es) = type_of n vs None e

abbrev pub word_args : Names → List Var → CallWord → ExprTrees → List Kind
word_args n vs called.Visible es = call_kind ∷ []
word_args n vs called.Before es = let k = before_kind (first_type n vs es) in k ∷ k ∷ []
word_args n vs called.Same es = call_kind ∷ call_kind ∷ []
word_args n vs called.Op es = call_kind ∷ []
word_args n vs called.Origin es = call_kind ∷ []
word_args n vs called.Info es = invocation_kind ∷ []
word_args n vs called.Result es = invocation_kind ∷ []

-- # Keys on paths

abbrev pub declared_way : Ident → Declared → Way
declared_way x (Declared.root c) = Way.came c
declared_way x (Declared.query q) = Way.misfit (span_of x)
declared_way x (Declared.proc p) = Way.misfit (span_of x)
declared_way x (Declared.con type c) = Way.misfit (span_of x)

abbrev pub entry_way : Ident → Option Entry → Way
entry_way x None = Way.misfit (span_of x)
entry_way x (Some e) = declared_way x e.what

-- where a path begins
abbrev pub way_from : Names → Option Var → Ident → Way
way_from n (Some v) x = Way.misfit (span_of x)
way_from n None x = entry_way x (entry_named n (text_of x))

-- # The places

abbrev pub with_var : Scope → Var → Scope
with_var sc v = record sc { vars = sc.vars ++ v ∷ [] }

abbrev pub quantified_var : Names → ParamTree → Var
quantified_var n p = bound_var (param_name p) (kind_of n (param_type p))

-- the variable of a quantifier
abbrev pub quantified_sites : Scope → ParamTree → List Site
quantified_sites sc p = Site.declares sc.vars (param_name p) ∷ Site.written sc.decl role.Quantified (param_type p) ∷ []

abbrev pub with_pattern : Names → Scope → Kind → PatternTree → Scope
with_pattern n sc k p = record sc { vars = with_bound sc.vars (pattern_vars p) (pattern_kinds n k (pattern_name p)) }

-- a pattern for a term of this type, and its variables, behind the arms of these constructors
abbrev pub pattern_sites : Names → List Var → Kind → List Name → PatternTree → List Site
pattern_sites n vs k before p =
    Site.pattern k before (pattern_con p) (length (pattern_vars p)) ∷ bound_sites vs (pattern_vars p) (pattern_kinds n k (pattern_name p))

abbrev pub arm_names : ExprArmTrees → List Name
arm_names ExprArmTrees.no_expr_arms = []
arm_names (ExprArmTrees.more_expr_arms (ExprArmTree.arm p e) arms) = pattern_name p ∷ arm_names arms

abbrev mutual
  pub expr_sites : Names → Scope → Want → ExprTree → List Site
  expr_sites n sc w (ExprTree.node at form) = Site.place sc w (ExprTree.node at form) ∷ form_sites n sc w at form

  -- below the expression itself
  pub form_sites : Names → Scope → Want → Span → ExprForm → List Site
  form_sites n sc w at (ExprForm.implies a b) = expr_sites n sc bool_operand a ++ expr_sites n sc bool_operand b
  form_sites n sc w at (ExprForm.or es) = operand_sites n sc es
  form_sites n sc w at (ExprForm.and es) = operand_sites n sc es
  form_sites n sc w at (ExprForm.not e) = expr_sites n sc bool_operand e
  form_sites n sc w at (ExprForm.forall p e) = quantified_sites sc p ++ expr_sites n (with_var sc (quantified_var n p)) bool_operand e
  form_sites n sc w at (ExprForm.exists p e) = quantified_sites sc p ++ expr_sites n (with_var sc (quantified_var n p)) bool_operand e
  form_sites n sc w at (ExprForm.compare c a b) = expr_sites n sc (left_want n sc.vars c a b) a ++ expr_sites n sc (right_want n sc.vars c a b) b
  form_sites n sc w at (ExprForm.plus a b) = expr_sites n sc int_operand a ++ expr_sites n sc int_operand b
  form_sites n sc w at (ExprForm.minus a b) = expr_sites n sc int_operand a ++ expr_sites n sc int_operand b
  form_sites n sc w at (ExprForm.int i) = []
  form_sites n sc w at (ExprForm.str bytes) = []
  form_sites n sc w at (ExprForm.truth b) = []
  form_sites n sc w at ExprForm.none_word = []
  form_sites n sc w at (ExprForm.some_of e) = expr_sites n sc (held w.asked) e
  form_sites n sc w at ExprForm.unreturned = []
  form_sites n sc w at ExprForm.tx = []
  form_sites n sc w at (ExprForm.call word es) = arg_sites n sc false (word_args n sc.vars word es) es
  form_sites n sc w at (ExprForm.match e arms) =
      let k = type_of n sc.vars None e in
      expr_sites n sc matched e ++ Site.arms (word_at (codes "match") at) k (arm_names arms) ∷ arm_sites n sc k [] arms
  form_sites n sc w at (ExprForm.access a) = access_sites n sc a

  pub operand_sites : Names → Scope → ExprTrees → List Site
  operand_sites n sc ExprTrees.no_exprs = []
  operand_sites n sc (ExprTrees.more_exprs e es) = expr_sites n sc bool_operand e ++ operand_sites n sc es

  -- arguments that are to have these types; one too many may have any
  pub arg_sites : Names → Scope → Bool → List Kind → ExprTrees → List Site
  arg_sites n sc plain ks ExprTrees.no_exprs = []
  arg_sites n sc plain ks (ExprTrees.more_exprs e es) = expr_sites n sc (argument plain (first_kind ks)) e ++ arg_sites n sc plain (other_kinds ks) es

  -- arms of a term of this type, behind those of these constructors
  pub arm_sites : Names → Scope → Kind → List Name → ExprArmTrees → List Site
  arm_sites n sc k before ExprArmTrees.no_expr_arms = []
  arm_sites n sc k before (ExprArmTrees.more_expr_arms (ExprArmTree.arm p e) arms) =
      pattern_sites n sc.vars k before p ++ expr_sites n (with_pattern n sc k p) bool_whole e ++ arm_sites n sc k (pattern_name p ∷ before) arms

  -- keys and arguments
  pub access_sites : Names → Scope → AccessTree → List Site
  access_sites n sc (AccessTree.path x steps args) =
      step_sites n sc (way_from n (find_var sc.vars (text_of x)) x) steps
      ++ given_sites n sc (args_of n (access_of n sc.vars (AccessTree.path x steps args))) args

  -- keys of the steps that go on from there
  pub step_sites : Names → Scope → Way → StepTrees → List Site
  step_sites n sc way StepTrees.no_steps = []
  step_sites n sc way (StepTrees.more_steps s steps) = key_sites n sc way s ++ step_sites n sc (stepped n way s) steps

  pub key_sites : Names → Scope → Way → StepTree → List Site
  key_sites n sc way (StepTree.dot x) = []
  key_sites n sc way (StepTree.returned at) = []
  key_sites n sc way (StepTree.key e) = expr_sites n sc (argument true (key_kind n way)) e

  pub given_sites : Names → Scope → List Kind → ArgTrees → List Site
  given_sites n sc ks ArgTrees.absent = []
  given_sites n sc ks (ArgTrees.given es) = arg_sites n sc true ks es
