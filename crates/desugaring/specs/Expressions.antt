-- What an expression becomes, computed by recursion on its tree. `Meanings` says it as a relation; they are proved the same.
use Rattle.std.specs.Prelude.{ℕ, zero, suc, ◌==◌, List, [], ◌∷◌, ◌++◌, map, codes, Option, Some, None, option_map, option_and_then, if◌then◌else◌}
use Rattle.rp_value.specs.declared.tables.Ty.{Ty}
use Rattle.rp_grammar.specs.Trees.{Ident, ParamTree, PatternTree, ExprTree, ExprForm, ExprTrees, ExprArmTree, ExprArmTrees, AccessTree, StepTree, StepTrees, ArgTrees, QueryTree}
use Rattle.rp_lang.specs.Exprs.{Ex, Bound, Int, Str, Con, OpTerm, Unreturned, Exs, no_ex, also_ex}
use Rattle.rp_lang.specs.Formulas as fo
use Rattle.rp_lang.specs.Formulas.{Fo, Fos, no_fo, also_fo, Arms, no_arm, also_arm}
use Rattle.type_rules.specs.declared.kind.Kind.{Kind}
use Rattle.type_rules.specs.Names.{Name, Names, text_of, param_name, param_type}
use Rattle.type_rules.specs.Kinds.{bool_kind, int_kind, kind_of}
use Rattle.type_rules.specs.Typing.{type_of, form_type, asked_inside, none_kind}
use Rattle.type_rules.specs.Matches.{pattern_vars, pattern_name, pattern_kinds, first_kind, other_kinds}
use Rattle.type_rules.specs.ExprSites.{left_want, right_want, word_args}
use Rattle.desugaring.specs.Parts.{both, all_three}
use Rattle.desugaring.specs.Tables.{Tables, ty_of, con_number, arm_number}
use Rattle.desugaring.specs.Values.{Value, term, formula, as_formula, as_term, one_ex, append, truth, sum, difference, compared, word_of, lifted}
use Rattle.desugaring.specs.Callees.{Vars, Stand, stand, vars_of, Callee, use_of, called, given}

-- # Variables that an expression binds

abbrev pub raised : Stand Ex → Stand Ex
raised s = stand s.name s.kind (lifted s.known)

-- under a binder more, which the variable is
abbrev pub under : Vars → Name → Kind → Vars
under vs x k = map raised vs ++ stand x k (Bound 0) ∷ []

-- under the variables of a pattern, the last one innermost
abbrev pub under_all : Vars → List Ident → List Kind → Vars
under_all vs [] ks = vs
under_all vs (x ∷ xs) ks = under_all (under vs (text_of x) (first_kind ks)) xs (other_kinds ks)

abbrev pub under_quantifier : Names → Vars → ParamTree → Vars
under_quantifier n vs p = under vs (text_of (param_name p)) (kind_of n (param_type p))

abbrev pub under_pattern : Names → Vars → Kind → PatternTree → Vars
under_pattern n vs k p = under_all vs (pattern_vars p) (pattern_kinds n k (pattern_name p))

-- the parameters of a query, which stand for these arguments
abbrev pub with_args : Names → List ParamTree → Exs → Vars
with_args n [] es = []
with_args n (p ∷ params) no_ex = []
with_args n (p ∷ params) (also_ex e es) = stand (text_of (param_name p)) (kind_of n (param_type p)) e ∷ with_args n params es

-- # Values of nodes from those of their parts

abbrev pub implied : Value → Value → Value
implied a b = formula (fo.Implies (as_formula a) (as_formula b))

abbrev pub negated : Value → Value
negated v = formula (fo.Not (as_formula v))

abbrev pub each_of : Fos → Value
each_of fs = formula (fo.And fs)

abbrev pub one_of : Fos → Value
one_of fs = formula (fo.Or fs)

abbrev pub for_all : Ty → Value → Value
for_all ty v = formula (fo.All ty (as_formula v))

abbrev pub for_some : Ty → Value → Value
for_some ty v = formula (fo.Any ty (as_formula v))

abbrev pub matched : Ex → Arms → Value
matched e arms = formula (fo.Match e arms)

abbrev pub with_formula : Value → Fos → Fos
with_formula v fs = also_fo (as_formula v) fs

abbrev pub with_arm : ℕ → Value → Arms → Arms
with_arm con v arms = also_arm con (as_formula v) arms

abbrev pub constructed : ℕ → Ex → Value
constructed con e = term (Con con (one_ex e))

abbrev pub word_none : List ℕ
word_none = codes "none"

abbrev pub word_some : List ℕ
word_some = codes "some"

-- # Expressions: `uses` says what the uses of queries become

abbrev pub Uses : Type 0
Uses = ℕ → QueryTree → Exs → Option Value

-- what a call becomes with these keys and arguments
abbrev pub called_with : Uses → Callee Ex → Exs → Exs → Option Value
called_with uses (use_of k q) keys es = uses k q es
called_with uses callee keys es = given callee (append keys es)

abbrev pub applied : Uses → Callee Ex → Option Exs → Option Exs → Option Value
applied uses callee keys es = option_and_then (λ ks. option_and_then (called_with uses callee ks) es) keys

abbrev pub term_in : Option Value → Option Ex
term_in v = option_and_then as_term v

abbrev mutual
  pub value : Tables → Uses → Vars → Option Kind → ExprTree → Option Value
  value t uses vs asked (ExprTree.node at form) = form_value t uses vs asked form

  pub form_value : Tables → Uses → Vars → Option Kind → ExprForm → Option Value
  form_value t uses vs asked (ExprForm.implies a b) =
      both implied (value t uses vs (Some bool_kind) a) (value t uses vs (Some bool_kind) b)
  form_value t uses vs asked (ExprForm.or es) = option_map one_of (formulas t uses vs es)
  form_value t uses vs asked (ExprForm.and es) = option_map each_of (formulas t uses vs es)
  form_value t uses vs asked (ExprForm.not e) = option_map negated (value t uses vs (Some bool_kind) e)
  form_value t uses vs asked (ExprForm.forall p e) =
      both for_all (ty_of t (kind_of t.names (param_type p))) (value t uses (under_quantifier t.names vs p) (Some bool_kind) e)
  form_value t uses vs asked (ExprForm.exists p e) =
      both for_some (ty_of t (kind_of t.names (param_type p))) (value t uses (under_quantifier t.names vs p) (Some bool_kind) e)
  form_value t uses vs asked (ExprForm.compare c a b) =
      both (λ x y. formula (compared c x y))
      (term_in (value t uses vs (left_want t.names (vars_of vs) c a b).asked a))
      (term_in (value t uses vs (right_want t.names (vars_of vs) c a b).asked b))
  form_value t uses vs asked (ExprForm.plus a b) =
      both (λ x y. term (sum x y)) (term_in (value t uses vs (Some int_kind) a)) (term_in (value t uses vs (Some int_kind) b))
  form_value t uses vs asked (ExprForm.minus a b) =
      both (λ x y. term (difference x y)) (term_in (value t uses vs (Some int_kind) a))
      (term_in (value t uses vs (Some int_kind) b))
  form_value t uses vs asked (ExprForm.int n) = Some (term (Int n))
  form_value t uses vs asked (ExprForm.str bytes) = Some (term (Str bytes))
  form_value t uses vs asked (ExprForm.truth b) = Some (term (truth b))
  form_value t uses vs asked ExprForm.none_word =
      option_map (λ con. term (Con con no_ex)) (con_number t (none_kind asked) word_none)
  form_value t uses vs asked (ExprForm.some_of e) =
      both constructed (con_number t (form_type t.names (vars_of vs) asked (ExprForm.some_of e)) word_some)
      (term_in (value t uses vs (asked_inside asked) e))
  form_value t uses vs asked ExprForm.unreturned = Some (term Unreturned)
  form_value t uses vs asked ExprForm.tx = Some (term (OpTerm 0 no_ex))
  form_value t uses vs asked (ExprForm.call w es) =
      option_and_then (word_of w) (terms t uses vs (word_args t.names (vars_of vs) w es) es)
  form_value t uses vs asked (ExprForm.match e arms) =
      both matched (term_in (value t uses vs None e)) (arm_formulas t uses vs (type_of t.names (vars_of vs) None e) arms)
  form_value t uses vs asked (ExprForm.access (AccessTree.path x steps args)) =
      option_and_then (λ c. applied uses c.what (key_terms t uses vs c.keys steps) (arg_terms t uses vs c.args args))
      (called t vs (AccessTree.path x steps args))

  -- operands that are true or not
  pub formulas : Tables → Uses → Vars → ExprTrees → Option Fos
  formulas t uses vs ExprTrees.no_exprs = Some no_fo
  formulas t uses vs (ExprTrees.more_exprs e es) =
      both with_formula (value t uses vs (Some bool_kind) e) (formulas t uses vs es)

  -- plain terms of these types
  pub terms : Tables → Uses → Vars → List Kind → ExprTrees → Option Exs
  terms t uses vs [] ExprTrees.no_exprs = Some no_ex
  terms t uses vs (k ∷ ks) (ExprTrees.more_exprs e es) =
      both also_ex (term_in (value t uses vs (Some k) e)) (terms t uses vs ks es)
  terms t uses vs _ _ = None

  pub arg_terms : Tables → Uses → Vars → List Kind → ArgTrees → Option Exs
  arg_terms t uses vs [] ArgTrees.absent = Some no_ex
  arg_terms t uses vs (k ∷ ks) ArgTrees.absent = None
  arg_terms t uses vs ks (ArgTrees.given es) = terms t uses vs ks es

  -- the keys on a path
  pub key_terms : Tables → Uses → Vars → List Kind → StepTrees → Option Exs
  key_terms t uses vs [] StepTrees.no_steps = Some no_ex
  key_terms t uses vs (k ∷ ks) (StepTrees.more_steps (StepTree.key e) steps) =
      both also_ex (term_in (value t uses vs (Some k) e)) (key_terms t uses vs ks steps)
  key_terms t uses vs ks (StepTrees.more_steps (StepTree.dot x) steps) = key_terms t uses vs ks steps
  key_terms t uses vs ks (StepTrees.more_steps (StepTree.returned at) steps) = key_terms t uses vs ks steps
  key_terms t uses vs _ _ = None

  -- arms of a match on a term of this type
  pub arm_formulas : Tables → Uses → Vars → Kind → ExprArmTrees → Option Arms
  arm_formulas t uses vs k ExprArmTrees.no_expr_arms = Some no_arm
  arm_formulas t uses vs k (ExprArmTrees.more_expr_arms (ExprArmTree.arm p e) arms) =
      all_three with_arm (arm_number t k p) (value t uses (under_pattern t.names vs k p) (Some bool_kind) e)
      (arm_formulas t uses vs k arms)

-- # Uses of queries: the body, with the arguments in place of the parameters

abbrev pub body_value : Tables → Uses → QueryTree → Exs → Option Value
body_value t uses (QueryTree.query x params result body) es =
    value t uses (with_args t.names params es) (Some (kind_of t.names result)) body

-- of the queries among the first declarations, so many
abbrev pub uses_before : Tables → ℕ → Uses
uses_before t zero k q es = None
uses_before t (suc n) k q es = if k == n then body_value t (uses_before t n) q es else uses_before t n k q es
