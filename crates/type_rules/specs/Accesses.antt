-- What an access is: a variable, a constructor, a use of a query, a procedure, or an operation or a query of the store.
use Rattle.std.specs.Prelude.{ℕ, ◌+◌, Bool, true, false, ◌==◌, List, [], ◌∷◌, length, Option, Some, None, if◌then◌else◌}
use Rattle.rp_span.specs.declared.Span.{Span}
use Rattle.rp_grammar.specs.Trees.{Ident, TypeTree, ParamTree, ExprTrees, AccessTree, StepTree, StepTrees, ArgTrees, ConTree, QueryTree, ProcTree}
use Rattle.type_rules.specs.declared.kind.Kind.{Kind}
use Rattle.type_rules.specs.declared.kind.Base.TheVariants as base
use Rattle.type_rules.specs.Names.{Name, Names, Entry, Declared, same_name, text_of, con_fields, entry_named}
use Rattle.type_rules.specs.Kinds.{plain_kind, unknown_kind, kind_of, param_kinds}
use Rattle.type_rules.specs.Starts.{span_of}
use Rattle.type_rules.specs.Paths.{Member, Way, walked}

-- a variable in sight
pub record Var : Type 0 where
  pub name : Name
  pub kind : Kind
  -- it has a value on every path to this place
  pub set : Bool
  -- a parameter, a variable of a pattern or a quantified one
  pub fixed : Bool

abbrev pub find_var : List Var → Name → Option Var
find_var [] x = None
find_var (v ∷ vs) x = if same_name v.name x then Some v else find_var vs x

pub data Access : Type 0 where
  -- its name stands for nothing
  unknown : Access
  -- the path doesn't fit, from there on
  misfit : Span → Access
  variable : Var → Access
  -- with the number of its type
  constructor : ℕ → ConTree → Access
  -- a query of the text, with the number of its declaration
  use_of : ℕ → QueryTree → Access
  procedure : ProcTree → Access
  -- `p.returned`
  returned : ProcTree → Access
  member : Member → Access

-- a name that takes no path
abbrev pub alone : Ident → StepTrees → Access → Access
alone x StepTrees.no_steps a = a
alone x (StepTrees.more_steps s steps) a = Access.misfit (span_of x)

abbrev pub of_proc : Ident → ProcTree → StepTrees → Access
of_proc x p StepTrees.no_steps = Access.procedure p
of_proc x p (StepTrees.more_steps (StepTree.returned at) StepTrees.no_steps) = Access.returned p
of_proc x p (StepTrees.more_steps s steps) = Access.misfit (span_of x)

-- a path that ends too early doesn't fit from its root on
abbrev pub of_way : Ident → Way → Access
of_way x (Way.came c) = Access.misfit (span_of x)
of_way x (Way.member m) = Access.member m
of_way x (Way.misfit at) = Access.misfit at

abbrev pub of_declared : Names → Ident → StepTrees → ℕ → Declared → Access
of_declared n x steps k (Declared.root c) = of_way x (walked n (Way.came c) steps)
of_declared n x steps k (Declared.query q) = alone x steps (Access.use_of k q)
of_declared n x steps k (Declared.proc p) = of_proc x p steps
of_declared n x steps k (Declared.con type c) = alone x steps (Access.constructor type c)

abbrev pub of_entry : Names → Ident → StepTrees → Option Entry → Access
of_entry n x steps None = Access.unknown
of_entry n x steps (Some e) = of_declared n x steps e.decl e.what

-- a variable in sight comes before a constructor of its name
abbrev pub of_name : Names → Ident → StepTrees → Option Var → Access
of_name n x steps (Some v) = alone x steps (Access.variable v)
of_name n x steps None = of_entry n x steps (entry_named n (text_of x))

abbrev pub access_of : Names → List Var → AccessTree → Access
access_of n vs (AccessTree.path x steps args) = of_name n x steps (find_var vs (text_of x))

-- # Its type and its arguments

abbrev pub query_params : QueryTree → List ParamTree
query_params (QueryTree.query x params result body) = params

abbrev pub query_result : QueryTree → TypeTree
query_result (QueryTree.query x params result body) = result

abbrev pub proc_params : ProcTree → List ParamTree
proc_params (ProcTree.proc x params result body) = params

abbrev pub proc_result : ProcTree → Option TypeTree
proc_result (ProcTree.proc x params result body) = result

abbrev pub access_kind : Names → Access → Kind
access_kind n Access.unknown = unknown_kind
access_kind n (Access.misfit at) = unknown_kind
access_kind n (Access.variable v) = v.kind
access_kind n (Access.constructor type c) = plain_kind (base.Declared type)
access_kind n (Access.use_of k q) = kind_of n (query_result q)
access_kind n (Access.procedure p) = plain_kind base.Info
access_kind n (Access.returned p) = plain_kind base.Outcome
access_kind n (Access.member m) = m.result

abbrev pub result_args : Names → Option TypeTree → List Kind
result_args n None = []
result_args n (Some t) = kind_of n t ∷ []

-- the types of the arguments that it takes
abbrev pub args_of : Names → Access → List Kind
args_of n Access.unknown = []
args_of n (Access.misfit at) = []
args_of n (Access.variable v) = []
args_of n (Access.constructor type c) = param_kinds n (con_fields c)
args_of n (Access.use_of k q) = param_kinds n (query_params q)
args_of n (Access.procedure p) = param_kinds n (proc_params p)
args_of n (Access.returned p) = result_args n (proc_result p)
args_of n (Access.member m) = m.args

-- # Its parentheses

abbrev pub count : ExprTrees → ℕ
count ExprTrees.no_exprs = 0
count (ExprTrees.more_exprs e es) = count es + 1

-- there are parentheses, with so many arguments
abbrev pub has_args : ℕ → ArgTrees → Bool
has_args many ArgTrees.absent = false
has_args many (ArgTrees.given es) = count es == many

-- there are none
abbrev pub is_bare : ArgTrees → Bool
is_bare ArgTrees.absent = true
is_bare (ArgTrees.given es) = false

-- a variable and a constructor without fields stand without parentheses, all else with them
abbrev pub con_args_fit : ℕ → ArgTrees → Bool
con_args_fit many args = if many == 0 then is_bare args else has_args many args

abbrev pub args_fit : Names → Access → ArgTrees → Bool
args_fit n Access.unknown args = true
args_fit n (Access.misfit at) args = true
args_fit n (Access.variable v) args = is_bare args
args_fit n (Access.constructor type c) args = con_args_fit (length (con_fields c)) args
args_fit n (Access.use_of k q) args = has_args (length (query_params q)) args
args_fit n (Access.procedure p) args = has_args (length (proc_params p)) args
args_fit n (Access.returned p) args = has_args (length (result_args n (proc_result p))) args
args_fit n (Access.member m) args = has_args (length m.args) args
