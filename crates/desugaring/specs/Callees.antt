-- What an access calls, by its number, with the types of the keys on its path and of its arguments.
use Rattle.std.specs.Prelude.{ℕ, ◌+◌, Bool, true, List, [], map, find, position, Option, Some, None, option_map, option_and_then, if◌then◌else◌}
use Rattle.std.specs.Option.{option_zip}
use Rattle.rp_grammar.specs.Trees.{Ident, QueryTree, AccessTree, StepTrees}
use Rattle.rp_lang.specs.Exprs.{Ex, Query, OpTerm, InfoTerm, ResultTerm, ResultWith, Exs, no_ex, also_ex}
use Rattle.rp_lang.specs.Exprs as ex
use Rattle.rp_lang.specs.Formulas.{Holds}
use Rattle.rp_lang.specs.Typing.{is_get}
use Rattle.type_rules.specs.declared.kind.Kind.{Kind}
use Rattle.type_rules.specs.declared.kind.Base.TheVariants as base
use Rattle.type_rules.specs.Names.{Name, same_name, text_of, con_name, con_fields}
use Rattle.type_rules.specs.Kinds.{plain_kind, param_kinds}
use Rattle.type_rules.specs.Paths.{Member, is_operation}
use Rattle.type_rules.specs.Accesses.{Var, Access, access_of, query_params, proc_params, proc_result, result_args}
use Rattle.desugaring.specs.Objects.{PathOp, PathQuery, Root, Reached, follow, keys_on, is_op_at, is_query_at}
use Rattle.desugaring.specs.Tables.{Tables, proc_name, proc_number, con_number}
use Rattle.desugaring.specs.Values.{Value, term, formula}

-- a variable in sight, and what is known of what it stands for
pub record Stand (X : Type 0) : Type 0 where
  pub name : Name
  pub kind : Kind
  pub known : X

abbrev pub stand : {X : Type 0} → Name → Kind → X → Stand X
stand name kind known = record { name = name; kind = kind; known = known }

-- with the term that it stands for: a slot, a binder, or the argument of a query's use
abbrev pub Vars : Type 0
Vars = List (Stand Ex)

-- the variables as the type rules see them
abbrev pub var_of : {X : Type 0} → Stand X → Var
var_of s = record { name = s.name; kind = s.kind; set = true; fixed = true }

abbrev pub vars_of : {X : Type 0} → List (Stand X) → List Var
vars_of vs = map var_of vs

abbrev pub stand_named : {X : Type 0} → List (Stand X) → Name → Option (Stand X)
stand_named vs x = find (λ s. same_name s.name x) vs

pub data Callee (X : Type 0) : Type 0 where
  variable : (known : X) → Callee X
  constructor : (number : ℕ) → Callee X
  -- a query of the text, with the number of its declaration
  use_of : (decl : ℕ) → QueryTree → Callee X
  procedure : (number : ℕ) → Callee X
  -- `p.returned`
  outcome : (proc : ℕ) → Callee X
  operation : (number : ℕ) → Callee X
  -- a query of the store that holds or not, and one that gives a value
  question : (number : ℕ) → Callee X
  value : (number : ℕ) → Callee X

pub record Called (X : Type 0) : Type 0 where
  pub what : Callee X
  pub keys : List Kind
  pub args : List Kind

abbrev pub taking : {X : Type 0} → List Kind → List Kind → Callee X → Called X
taking keys args what = record { what = what; keys = keys; args = args }

-- the first member that passes, with its number
abbrev pub located : {X : Type 0} → (X → Bool) → List X → Option (ℕ × X)
located test xs = option_zip (position test xs) (find test xs)

-- `tx` is operation 0
abbrev pub op_called : {X : Type 0} → ℕ × PathOp → Called X
op_called o = taking (keys_on o.1.path) o.1.own.args (operation (o.0 + 1))

abbrev pub query_called : {X : Type 0} → ℕ × PathQuery → Called X
query_called q = taking (keys_on q.1.path) q.1.own.args (if is_get q.1.own.kind then value q.0 else question q.0)

abbrev pub member_at : {X : Type 0} → Tables → Member → ℕ → Reached → Option (Called X)
member_at t m root r =
    if is_operation m.does then option_map op_called (located (is_op_at root r) t.ops)
    else option_map query_called (located (is_query_at root r) t.queries)

abbrev pub on_root : {X : Type 0} → Tables → Member → StepTrees → ℕ × Root → Option (Called X)
on_root t m steps root = option_and_then (member_at t m root.0) (follow t.names steps root.1.crdt)

abbrev pub of_access : {X : Type 0} → Tables → List (Stand X) → Ident → StepTrees → Access → Option (Called X)
of_access t vs x steps Access.unknown = None
of_access t vs x steps (Access.misfit at) = None
of_access t vs x steps (Access.variable v) = option_map (λ s. taking [] [] (variable s.known)) (stand_named vs (text_of x))
of_access t vs x steps (Access.constructor type c) =
    option_map (λ k. taking [] (param_kinds t.names (con_fields c)) (constructor k))
    (con_number t (plain_kind (base.Declared type)) (text_of (con_name c)))
of_access t vs x steps (Access.use_of k q) = Some (taking [] (param_kinds t.names (query_params q)) (use_of k q))
of_access t vs x steps (Access.procedure p) =
    option_map (λ k. taking [] (param_kinds t.names (proc_params p)) (procedure k)) (proc_number t (proc_name p))
of_access t vs x steps (Access.returned p) =
    option_map (λ k. taking [] (result_args t.names (proc_result p)) (outcome k)) (proc_number t (proc_name p))
of_access t vs x steps (Access.member m) =
    option_and_then (on_root t m steps) (located (λ root. same_name root.name (text_of x)) t.roots)

abbrev pub called : {X : Type 0} → Tables → List (Stand X) → AccessTree → Option (Called X)
called t vs (AccessTree.path x steps args) =
    of_access t vs x steps (access_of t.names (vars_of vs) (AccessTree.path x steps args))

-- # What a call gives with these arguments, keys first; a use of a query gives what its body does

abbrev pub variable_with : Ex → Exs → Option Value
variable_with e no_ex = Some (term e)
variable_with e (also_ex a es) = None

abbrev pub outcome_with : ℕ → Exs → Option Value
outcome_with p no_ex = Some (term (ResultTerm p))
outcome_with p (also_ex a no_ex) = Some (term (ResultWith p a))
outcome_with p (also_ex a (also_ex b es)) = None

abbrev pub given : Callee Ex → Exs → Option Value
given (variable e) es = variable_with e es
given (constructor k) es = Some (term (ex.Con k es))
given (use_of k q) es = None
given (procedure k) es = Some (term (InfoTerm k es))
given (outcome k) es = outcome_with k es
given (operation k) es = Some (term (OpTerm k es))
given (question k) es = Some (formula (Holds (Query k es)))
given (value k) es = Some (term (Query k es))
