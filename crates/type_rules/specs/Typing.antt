-- Types of expressions, and which of them are plain terms.
use Rattle.std.specs.Prelude.{ℕ, Bool, true, false, ◌&&◌, not, nat_eq, List, Option, Some, None, slice_get, if◌then◌else◌}
use Rattle.std.specs.Option.{option_and_then}
use Rattle.rp_grammar.specs.declared.operator.CallWord.{CallWord}
use Rattle.rp_grammar.specs.declared.operator.CallWord.TheVariants as called
use Rattle.rp_grammar.specs.Trees.{ExprTree, ExprForm, ExprTrees, AccessTree, StepTree, StepTrees, ArgTrees}
use Rattle.type_rules.specs.declared.kind.Kind.{Kind}
use Rattle.type_rules.specs.declared.kind.Base.TheVariants as base
use Rattle.type_rules.specs.Names.{Names}
use Rattle.type_rules.specs.Kinds.{unknown_kind, plain_kind, bool_kind, int_kind, operation_kind, maybe_of, inside}
use Rattle.type_rules.specs.Paths.{is_question}
use Rattle.type_rules.specs.Accesses.{Var, Access, access_of, access_kind}

-- a `none` whose place asks no type
abbrev pub unasked : Kind
unasked = maybe_of (plain_kind base.Open)

-- a `none` has the type that its place asks, where that is a `Maybe`; where another is asked the `none` is the fault, and its
-- type breaks nothing further
abbrev pub none_kind : Option Kind → Kind
none_kind None = unasked
none_kind (Some k) = if nat_eq k.maybes 0 then unknown_kind else k

abbrev pub called_kind : CallWord → Kind
called_kind called.Visible = bool_kind
called_kind called.Before = bool_kind
called_kind called.Same = bool_kind
called_kind called.Op = operation_kind
called_kind called.Origin = plain_kind base.Invocation
called_kind called.Info = plain_kind base.Info
called_kind called.Result = plain_kind base.Outcome

-- what the place inside `some` asks, where that of `some` asks this
abbrev pub asked_inside : Option Kind → Option Kind
asked_inside asked = option_and_then inside asked

-- the type of an expression whose place asks a type, or none. It is that of its outermost form, whatever its parts are
abbrev mutual
  pub type_of : Names → List Var → Option Kind → ExprTree → Kind
  type_of n vs asked (ExprTree.node at form) = form_type n vs asked form

  pub form_type : Names → List Var → Option Kind → ExprForm → Kind
  form_type n vs asked (ExprForm.implies a b) = bool_kind
  form_type n vs asked (ExprForm.or es) = bool_kind
  form_type n vs asked (ExprForm.and es) = bool_kind
  form_type n vs asked (ExprForm.not e) = bool_kind
  form_type n vs asked (ExprForm.forall p e) = bool_kind
  form_type n vs asked (ExprForm.exists p e) = bool_kind
  form_type n vs asked (ExprForm.compare c a b) = bool_kind
  form_type n vs asked (ExprForm.plus a b) = int_kind
  form_type n vs asked (ExprForm.minus a b) = int_kind
  form_type n vs asked (ExprForm.int i) = int_kind
  form_type n vs asked (ExprForm.str bytes) = plain_kind base.Text
  form_type n vs asked (ExprForm.truth b) = bool_kind
  form_type n vs asked ExprForm.none_word = none_kind asked
  form_type n vs asked (ExprForm.some_of e) = maybe_of (type_of n vs (asked_inside asked) e)
  form_type n vs asked ExprForm.unreturned = plain_kind base.Outcome
  form_type n vs asked ExprForm.tx = operation_kind
  form_type n vs asked (ExprForm.call w es) = called_kind w
  form_type n vs asked (ExprForm.match e arms) = bool_kind
  form_type n vs asked (ExprForm.access a) = access_kind n (access_of n vs a)

-- # Plain terms

-- `op`, `origin`, `info` and `result` are plain terms, where their arguments are
abbrev pub is_plain_word : CallWord → Bool
is_plain_word called.Visible = false
is_plain_word called.Before = false
is_plain_word called.Same = false
is_plain_word called.Op = true
is_plain_word called.Origin = true
is_plain_word called.Info = true
is_plain_word called.Result = true

abbrev pub flag : Option Bool → Bool
flag None = false
flag (Some b) = b

-- the declaration of this number is a query whose body isn't a plain term
abbrev pub is_formula : Names → ℕ → Bool
is_formula n k = flag (slice_get n.formulas k)

-- a use of a query is plain where the query's body is
abbrev pub is_plain_access : Names → Access → Bool
is_plain_access n Access.unknown = true
is_plain_access n (Access.misfit at) = true
is_plain_access n (Access.variable v) = true
is_plain_access n (Access.constructor type c) = true
is_plain_access n (Access.use_of k q) = not (is_formula n k)
is_plain_access n (Access.procedure p) = true
is_plain_access n (Access.returned p) = true
is_plain_access n (Access.member m) = not (is_question m.does)

-- a term with a part that isn't plain isn't plain
abbrev mutual
  pub is_plain : Names → List Var → ExprTree → Bool
  is_plain n vs (ExprTree.node at form) = is_plain_form n vs form

  pub is_plain_form : Names → List Var → ExprForm → Bool
  is_plain_form n vs (ExprForm.implies a b) = false
  is_plain_form n vs (ExprForm.or es) = false
  is_plain_form n vs (ExprForm.and es) = false
  is_plain_form n vs (ExprForm.not e) = false
  is_plain_form n vs (ExprForm.forall p e) = false
  is_plain_form n vs (ExprForm.exists p e) = false
  is_plain_form n vs (ExprForm.compare c a b) = false
  is_plain_form n vs (ExprForm.plus a b) = is_plain n vs a && is_plain n vs b
  is_plain_form n vs (ExprForm.minus a b) = is_plain n vs a && is_plain n vs b
  is_plain_form n vs (ExprForm.int i) = true
  is_plain_form n vs (ExprForm.str bytes) = true
  is_plain_form n vs (ExprForm.truth b) = true
  is_plain_form n vs ExprForm.none_word = true
  is_plain_form n vs (ExprForm.some_of e) = is_plain n vs e
  is_plain_form n vs ExprForm.unreturned = true
  is_plain_form n vs ExprForm.tx = true
  is_plain_form n vs (ExprForm.call w es) = is_plain_word w && are_plain n vs es
  is_plain_form n vs (ExprForm.match e arms) = false
  is_plain_form n vs (ExprForm.access (AccessTree.path x steps args)) =
      is_plain_access n (access_of n vs (AccessTree.path x steps args)) && are_plain_steps n vs steps && are_plain_args n vs args

  pub are_plain : Names → List Var → ExprTrees → Bool
  are_plain n vs ExprTrees.no_exprs = true
  are_plain n vs (ExprTrees.more_exprs e es) = is_plain n vs e && are_plain n vs es

  pub are_plain_steps : Names → List Var → StepTrees → Bool
  are_plain_steps n vs StepTrees.no_steps = true
  are_plain_steps n vs (StepTrees.more_steps s steps) = is_plain_step n vs s && are_plain_steps n vs steps

  pub is_plain_step : Names → List Var → StepTree → Bool
  is_plain_step n vs (StepTree.dot x) = true
  is_plain_step n vs (StepTree.returned at) = true
  is_plain_step n vs (StepTree.key e) = is_plain n vs e

  pub are_plain_args : Names → List Var → ArgTrees → Bool
  are_plain_args n vs ArgTrees.absent = true
  are_plain_args n vs (ArgTrees.given es) = are_plain n vs es
