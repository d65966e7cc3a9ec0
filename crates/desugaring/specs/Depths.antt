-- How deep that is what an expression becomes, and how many variables it binds inside one another, told by the tree and by the
-- depths of what its variables stand for. So no use of a query needs to be expanded: its depths go by those of its arguments.
use Rattle.std.specs.Prelude.{ℕ, zero, suc, ◌+◌, ◌==◌, max, List, [], ◌∷◌, ◌++◌, length, map, Option, Some, None, option_map, option_and_then, if◌then◌else◌}
use Rattle.rp_value.specs.declared.tables.ConTable.{ConTable}
use Rattle.rp_grammar.specs.declared.operator.CompareOp.{CompareOp}
use Rattle.rp_grammar.specs.declared.operator.CompareOp.TheVariants as compare
use Rattle.rp_grammar.specs.declared.operator.CallWord.{CallWord}
use Rattle.rp_grammar.specs.declared.operator.CallWord.TheVariants as called
use Rattle.rp_grammar.specs.Trees.{Ident, ParamTree, PatternTree, ExprTree, ExprForm, ExprTrees, ExprArmTree, ExprArmTrees, AccessTree, StepTree, StepTrees, ArgTrees, QueryTree}
use Rattle.rp_lang.specs.Exprs.{Ex}
use Rattle.rp_lang.specs.Sizes.{ex_depth, fo_depth}
use Rattle.rp_lang.specs.Bounds.{fo_binders}
use Rattle.type_rules.specs.declared.kind.Kind.{Kind}
use Rattle.type_rules.specs.Names.{Name, Names, text_of, param_name, param_type}
use Rattle.type_rules.specs.Kinds.{bool_kind, int_kind, kind_of}
use Rattle.type_rules.specs.Typing.{type_of, form_type, asked_inside, none_kind}
use Rattle.type_rules.specs.Matches.{pattern_vars, pattern_name, pattern_kinds, first_kind, other_kinds}
use Rattle.type_rules.specs.ExprSites.{left_want, right_want, word_args}
use Rattle.desugaring.specs.Parts.{both, all_three}
use Rattle.desugaring.specs.Tables.{Tables, ty_of, con_number, arm_number}
use Rattle.desugaring.specs.Values.{Value, term, formula}
use Rattle.desugaring.specs.Callees.{Stand, stand, Vars, vars_of, Callee, variable, constructor, use_of, procedure, outcome, operation, question, value}
use Rattle.desugaring.specs.Callees as callee
use Rattle.desugaring.specs.Expressions.{word_none, word_some}

pub data Depths : Type 0 where
  of_term : (depth : ℕ) → Depths
  of_formula : (depth binders : ℕ) → Depths

abbrev pub depths_of : ConTable → Value → Depths
depths_of cons (term e) = of_term (ex_depth e)
depths_of cons (formula f) = of_formula (fo_depth f) (fo_binders cons f)

-- of a formula, or the greatest of several
pub record Reach : Type 0 where
  pub depth : ℕ
  pub binders : ℕ

abbrev pub reach : ℕ → ℕ → Reach
reach depth binders = record { depth = depth; binders = binders }

-- as a formula
abbrev pub reach_of : Depths → Reach
reach_of (of_term depth) = reach (1 + depth) 0
reach_of (of_formula depth binders) = reach depth binders

abbrev pub depth_of_term : Depths → Option ℕ
depth_of_term (of_term depth) = Some depth
depth_of_term (of_formula depth binders) = None

abbrev pub greatest : List ℕ → ℕ
greatest [] = 0
greatest (d ∷ ds) = max d (greatest ds)

-- # Of nodes, from those of their parts

abbrev pub implied : Depths → Depths → Depths
implied x y = of_formula (1 + max (reach_of x).depth (reach_of y).depth) (max (reach_of x).binders (reach_of y).binders)

abbrev pub negated : Depths → Depths
negated x = of_formula (1 + (reach_of x).depth) (reach_of x).binders

abbrev pub of_each : Reach → Depths
of_each r = of_formula (1 + r.depth) r.binders

abbrev pub quantified : Depths → Depths
quantified x = of_formula (1 + (reach_of x).depth) (1 + (reach_of x).binders)

abbrev pub compared : CompareOp → ℕ → ℕ → Depths
compared compare.Equal x y = of_formula (1 + max x y) 0
compared compare.NotEqual x y = of_formula (1 + (1 + max x y)) 0
compared compare.Less x y = of_formula (1 + max x y) 0
compared compare.AtMost x y = of_formula (1 + max x y) 0
compared compare.Greater x y = of_formula (1 + max y x) 0
compared compare.AtLeast x y = of_formula (1 + max y x) 0

-- a literal is no deeper than any other term
abbrev pub sum : ℕ → ℕ → Depths
sum x y = of_term (1 + max x y)

abbrev pub matched : ℕ → Reach → Depths
matched x arms = of_formula (1 + max x arms.depth) arms.binders

abbrev pub with_formula : Depths → Reach → Reach
with_formula x r = reach (max (reach_of x).depth r.depth) (max (reach_of x).binders r.binders)

-- an arm binds the variables of its pattern
abbrev pub with_arm : ℕ → Depths → Reach → Reach
with_arm vars x r = reach (max (reach_of x).depth r.depth) (max (vars + (reach_of x).binders) r.binders)

abbrev pub word_of_one : CallWord → ℕ → Option Depths
word_of_one called.Visible x = Some (of_formula (1 + x) 0)
word_of_one called.Before x = None
word_of_one called.Same x = None
word_of_one called.Op x = Some (of_term (1 + x))
word_of_one called.Origin x = Some (of_term (1 + x))
word_of_one called.Info x = Some (of_term (1 + x))
word_of_one called.Result x = Some (of_term (1 + x))

abbrev pub word_of_two : CallWord → ℕ → ℕ → Option Depths
word_of_two called.Before x y = Some (of_formula (1 + max x y) 0)
word_of_two called.Same x y = Some (of_formula (1 + max x y) 0)
word_of_two _ x y = None

abbrev pub word_of : CallWord → List ℕ → Option Depths
word_of w (x ∷ []) = word_of_one w x
word_of w (x ∷ y ∷ []) = word_of_two w x y
word_of w _ = None

-- # Calls, with the depths of keys and arguments

abbrev pub variable_with : ℕ → List ℕ → Option Depths
variable_with d [] = Some (of_term d)
variable_with d (x ∷ xs) = None

abbrev pub outcome_with : List ℕ → Option Depths
outcome_with [] = Some (of_term 1)
outcome_with (x ∷ []) = Some (of_term (1 + x))
outcome_with (x ∷ y ∷ xs) = None

abbrev pub given : Callee ℕ → List ℕ → Option Depths
given (variable d) xs = variable_with d xs
given (constructor k) xs = Some (of_term (1 + greatest xs))
given (use_of k q) xs = None
given (procedure k) xs = Some (of_term (1 + greatest xs))
given (outcome k) xs = outcome_with xs
given (operation k) xs = Some (of_term (1 + greatest xs))
given (question k) xs = Some (of_formula (1 + (1 + greatest xs)) 0)
given (value k) xs = Some (of_term (1 + greatest xs))

-- # Variables with the depths of what they stand for

abbrev pub Shades : Type 0
Shades = List (Stand ℕ)

-- of variables that stand for terms
abbrev pub shade_of : Stand Ex → Stand ℕ
shade_of s = stand s.name s.kind (ex_depth s.known)

abbrev pub shades : Vars → Shades
shades vs = map shade_of vs

-- of a variable that a binder binds
abbrev pub shade : Name → Kind → Shades
shade x k = stand x k 1 ∷ []

abbrev pub under_all : Shades → List Ident → List Kind → Shades
under_all vs [] ks = vs
under_all vs (x ∷ xs) ks = under_all (vs ++ shade (text_of x) (first_kind ks)) xs (other_kinds ks)

abbrev pub under_quantifier : Names → Shades → ParamTree → Shades
under_quantifier n vs p = vs ++ shade (text_of (param_name p)) (kind_of n (param_type p))

abbrev pub under_pattern : Names → Shades → Kind → PatternTree → Shades
under_pattern n vs k p = under_all vs (pattern_vars p) (pattern_kinds n k (pattern_name p))

abbrev pub with_args : Names → List ParamTree → List ℕ → Shades
with_args n [] xs = []
with_args n (p ∷ params) [] = []
with_args n (p ∷ params) (x ∷ xs) = stand (text_of (param_name p)) (kind_of n (param_type p)) x ∷ with_args n params xs

-- # Expressions

abbrev pub Uses : Type 0
Uses = ℕ → QueryTree → List ℕ → Option Depths

abbrev pub called_with : Uses → Callee ℕ → List ℕ → List ℕ → Option Depths
called_with uses (use_of k q) keys xs = uses k q xs
called_with uses what keys xs = given what (keys ++ xs)

abbrev pub applied : Uses → Callee ℕ → Option (List ℕ) → Option (List ℕ) → Option Depths
applied uses what keys xs = option_and_then (λ ks. option_and_then (called_with uses what ks) xs) keys

abbrev pub depth_in : Option Depths → Option ℕ
depth_in d = option_and_then depth_of_term d

abbrev mutual
  pub depths : Tables → Uses → Shades → Option Kind → ExprTree → Option Depths
  depths t uses vs asked (ExprTree.node at form) = form_depths t uses vs asked form

  pub form_depths : Tables → Uses → Shades → Option Kind → ExprForm → Option Depths
  form_depths t uses vs asked (ExprForm.implies a b) =
      both implied (depths t uses vs (Some bool_kind) a) (depths t uses vs (Some bool_kind) b)
  form_depths t uses vs asked (ExprForm.or es) = option_map of_each (formulas t uses vs es)
  form_depths t uses vs asked (ExprForm.and es) = option_map of_each (formulas t uses vs es)
  form_depths t uses vs asked (ExprForm.not e) = option_map negated (depths t uses vs (Some bool_kind) e)
  form_depths t uses vs asked (ExprForm.forall p e) =
      both (λ ty x. quantified x) (ty_of t (kind_of t.names (param_type p)))
      (depths t uses (under_quantifier t.names vs p) (Some bool_kind) e)
  form_depths t uses vs asked (ExprForm.exists p e) =
      both (λ ty x. quantified x) (ty_of t (kind_of t.names (param_type p)))
      (depths t uses (under_quantifier t.names vs p) (Some bool_kind) e)
  form_depths t uses vs asked (ExprForm.compare c a b) =
      both (compared c)
      (depth_in (depths t uses vs (left_want t.names (vars_of vs) c a b).asked a))
      (depth_in (depths t uses vs (right_want t.names (vars_of vs) c a b).asked b))
  form_depths t uses vs asked (ExprForm.plus a b) =
      both sum (depth_in (depths t uses vs (Some int_kind) a)) (depth_in (depths t uses vs (Some int_kind) b))
  form_depths t uses vs asked (ExprForm.minus a b) =
      both sum (depth_in (depths t uses vs (Some int_kind) a)) (depth_in (depths t uses vs (Some int_kind) b))
  form_depths t uses vs asked (ExprForm.int n) = Some (of_term 1)
  form_depths t uses vs asked (ExprForm.str bytes) = Some (of_term 1)
  form_depths t uses vs asked (ExprForm.truth b) = Some (of_term 1)
  form_depths t uses vs asked ExprForm.none_word = option_map (λ con. of_term 1) (con_number t (none_kind asked) word_none)
  form_depths t uses vs asked (ExprForm.some_of e) =
      both (λ con x. of_term (1 + x)) (con_number t (form_type t.names (vars_of vs) asked (ExprForm.some_of e)) word_some)
      (depth_in (depths t uses vs (asked_inside asked) e))
  form_depths t uses vs asked ExprForm.unreturned = Some (of_term 1)
  form_depths t uses vs asked ExprForm.tx = Some (of_term 1)
  form_depths t uses vs asked (ExprForm.call w es) =
      option_and_then (word_of w) (terms t uses vs (word_args t.names (vars_of vs) w es) es)
  form_depths t uses vs asked (ExprForm.match e arms) =
      both matched (depth_in (depths t uses vs None e)) (arms_reach t uses vs (type_of t.names (vars_of vs) None e) arms)
  form_depths t uses vs asked (ExprForm.access (AccessTree.path x steps args)) =
      option_and_then (λ c. applied uses c.what (key_terms t uses vs c.keys steps) (arg_terms t uses vs c.args args))
      (callee.called t vs (AccessTree.path x steps args))

  -- operands that are true or not
  pub formulas : Tables → Uses → Shades → ExprTrees → Option Reach
  formulas t uses vs ExprTrees.no_exprs = Some (reach 0 0)
  formulas t uses vs (ExprTrees.more_exprs e es) =
      both with_formula (depths t uses vs (Some bool_kind) e) (formulas t uses vs es)

  -- plain terms of these types
  pub terms : Tables → Uses → Shades → List Kind → ExprTrees → Option (List ℕ)
  terms t uses vs [] ExprTrees.no_exprs = Some []
  terms t uses vs (k ∷ ks) (ExprTrees.more_exprs e es) =
      both ◌∷◌ (depth_in (depths t uses vs (Some k) e)) (terms t uses vs ks es)
  terms t uses vs _ _ = None

  pub arg_terms : Tables → Uses → Shades → List Kind → ArgTrees → Option (List ℕ)
  arg_terms t uses vs [] ArgTrees.absent = Some []
  arg_terms t uses vs (k ∷ ks) ArgTrees.absent = None
  arg_terms t uses vs ks (ArgTrees.given es) = terms t uses vs ks es

  -- the keys on a path
  pub key_terms : Tables → Uses → Shades → List Kind → StepTrees → Option (List ℕ)
  key_terms t uses vs [] StepTrees.no_steps = Some []
  key_terms t uses vs (k ∷ ks) (StepTrees.more_steps (StepTree.key e) steps) =
      both ◌∷◌ (depth_in (depths t uses vs (Some k) e)) (key_terms t uses vs ks steps)
  key_terms t uses vs ks (StepTrees.more_steps (StepTree.dot x) steps) = key_terms t uses vs ks steps
  key_terms t uses vs ks (StepTrees.more_steps (StepTree.returned at) steps) = key_terms t uses vs ks steps
  key_terms t uses vs _ _ = None

  -- arms of a match on a term of this type
  pub arms_reach : Tables → Uses → Shades → Kind → ExprArmTrees → Option Reach
  arms_reach t uses vs k ExprArmTrees.no_expr_arms = Some (reach 0 0)
  arms_reach t uses vs k (ExprArmTrees.more_expr_arms (ExprArmTree.arm p e) arms) =
      all_three (λ con. with_arm (length (pattern_vars p))) (arm_number t k p)
      (depths t uses (under_pattern t.names vs k p) (Some bool_kind) e) (arms_reach t uses vs k arms)

-- # Uses of queries

abbrev pub body_depths : Tables → Uses → QueryTree → List ℕ → Option Depths
body_depths t uses (QueryTree.query x params result body) xs =
    depths t uses (with_args t.names params xs) (Some (kind_of t.names result)) body

-- of the queries among the first declarations, so many
abbrev pub depths_before : Tables → ℕ → Uses
depths_before t zero k q xs = None
depths_before t (suc n) k q xs = if k == n then body_depths t (depths_before t n) q xs else depths_before t n k q xs
