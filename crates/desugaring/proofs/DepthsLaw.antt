-- The depths that are told by a tree are those of what it becomes, whatever queries it uses.
use Rattle.std.proofs.Common.{◌≡◌, ◌+◌, ◌==◌, ℕ, zero, suc, max, Bool, true, false, cond, List, [], ◌∷◌, length, Option, Some, None, refl, ap, ap₂, subst, sym, ◌∙◌, arith}
use Rattle.std.specs.Prelude.{option_map, option_and_then}
use Rattle.rp_value.specs.declared.tables.Ty.{Ty}
use Rattle.rp_value.specs.declared.tables.ConTable.{ConTable}
use Rattle.rp_grammar.specs.Trees.{ExprTree, ExprForm, ExprTrees, ExprArmTree, ExprArmTrees, AccessTree, StepTree, StepTrees, ArgTrees, QueryTree}
use Rattle.rp_lang.specs.Exprs.{Ex, Con, Exs, no_ex, also_ex}
use Rattle.rp_lang.specs.Formulas.{Fos, Arms}
use Rattle.rp_lang.specs.Types.{fields_of}
use Rattle.rp_lang.specs.Sizes.{ex_depth, fo_depth, fos_depth, arms_depth}
use Rattle.rp_lang.specs.Bounds.{fo_binders, fos_binders, arms_binders}
use Rattle.type_rules.specs.declared.kind.Kind.{Kind}
use Rattle.type_rules.specs.Names.{param_type}
use Rattle.type_rules.specs.Kinds.{bool_kind, kind_of}
use Rattle.type_rules.specs.Typing.{asked_inside}
use Rattle.type_rules.specs.Matches.{pattern_vars, pattern_name, pattern_kinds}
use Rattle.desugaring.specs.Parts.{all_three}
use Rattle.desugaring.specs.Tables.{Tables, ty_of, con_table, arm_number}
use Rattle.desugaring.specs.Values.{Value, term, formula, as_formula, one_ex, append, sum, difference}
use Rattle.desugaring.specs.Values as values
use Rattle.desugaring.specs.Callees.{Vars, Callee, variable, constructor, use_of, procedure, outcome, operation, question, value}
use Rattle.desugaring.specs.Expressions as expressions
use Rattle.desugaring.specs.Expressions.{uses_before, body_value, term_in}
use Rattle.desugaring.specs.Depths.{Depths, shades, of_term, of_formula, depths_of, Reach, reach, reach_of, depth_in, depths_before, body_depths}
use Rattle.desugaring.specs.Depths as depths
use Rattle.desugaring.proofs.Fields.{arm_fields}
use Rattle.desugaring.proofs.Depths.{map_goes, then_goes, both_goes, sum_depth, difference_depth, depths_in, append_depths, vars_same, under_all_shades, quantifier_shades, args_shades, callee_depths, called_depths, same_option, called_goes, given_goes, word_goes, compared_goes}

-- # Nodes, from their parts

abbrev fos_reach : ConTable → Fos → Reach
fos_reach table fs = reach (fos_depth fs) (fos_binders table fs)

abbrev arms_reach : ConTable → Arms → Reach
arms_reach table arms = reach (arms_depth arms) (arms_binders table arms)

reach_goes : (table : ConTable) (v : Value)
    → reach_of (depths_of table v) ≡ reach (fo_depth (as_formula v)) (fo_binders table (as_formula v))
reach_goes table (term e) = refl
reach_goes table (formula f) = refl

implied_goes : (table : ConTable) (v w : Value)
    → depths_of table (expressions.implied v w) ≡ depths.implied (depths_of table v) (depths_of table w)
implied_goes table v w =
    ap₂ (λ x y. of_formula (1 + max x.depth y.depth) (max x.binders y.binders)) (sym (reach_goes table v))
    (sym (reach_goes table w))

negated_goes : (table : ConTable) (v : Value) → depths_of table (expressions.negated v) ≡ depths.negated (depths_of table v)
negated_goes table v = ap (λ x. of_formula (1 + x.depth) x.binders) (sym (reach_goes table v))

all_goes : (table : ConTable) (ty : Ty) (v : Value)
    → depths_of table (expressions.for_all ty v) ≡ depths.quantified (depths_of table v)
all_goes table ty v = ap (λ x. of_formula (1 + x.depth) (1 + x.binders)) (sym (reach_goes table v))

any_goes : (table : ConTable) (ty : Ty) (v : Value)
    → depths_of table (expressions.for_some ty v) ≡ depths.quantified (depths_of table v)
any_goes table ty v = ap (λ x. of_formula (1 + x.depth) (1 + x.binders)) (sym (reach_goes table v))

with_formula_goes : (table : ConTable) (v : Value) (fs : Fos)
    → fos_reach table (expressions.with_formula v fs) ≡ depths.with_formula (depths_of table v) (fos_reach table fs)
with_formula_goes table v fs =
    ap (λ x. reach (max x.depth (fos_depth fs)) (max x.binders (fos_binders table fs))) (sym (reach_goes table v))

with_arm_goes : (table : ConTable) (vars con : ℕ) (v : Value) (arms : Arms) → length (fields_of table con) ≡ vars
    → arms_reach table (expressions.with_arm con v arms) ≡ depths.with_arm vars (depths_of table v) (arms_reach table arms)
with_arm_goes table vars con v arms fields =
    ap₂ (λ x n. reach (max x.depth (arms_depth arms)) (max (n + x.binders) (arms_binders table arms)))
    (sym (reach_goes table v)) fields

some_goes : (con : ℕ) (x : Ex) → of_term (ex_depth (Con con (one_ex x))) ≡ of_term (1 + ex_depth x)
some_goes con x = ap of_term (omega arith)

term_goes : (table : ConTable) (o : Option Value) (p : Option Depths) → option_map (depths_of table) o ≡ p
    → option_map ex_depth (term_in o) ≡ depth_in p
term_goes table None p e = subst (λ q. None ≡ depth_in q) e refl
term_goes table (Some (term x)) p e = subst (λ q. Some (ex_depth x) ≡ depth_in q) e refl
term_goes table (Some (formula f)) p e = subst (λ q. None ≡ depth_in q) e refl

-- where the first part is known to be there
arms_go : {A B C D E F : Type 0} (g : D → F) (h : B → E) (j : C → F) (f : A → B → C → D) (f2 : A → E → F → F)
    (o : Option A) (p : Option B) (q : Option C) (p2 : Option E) (q2 : Option F) → option_map h p ≡ p2 → option_map j q ≡ q2
    → ((w : A) (x : B) (y : C) → o ≡ Some w → g (f w x y) ≡ f2 w (h x) (j y))
    → option_map g (all_three f o p q) ≡ all_three f2 o p2 q2
arms_go g h j f f2 None p q p2 q2 a b k = refl
arms_go g h j f f2 (Some w) None q p2 q2 a b k = subst (λ z. None ≡ all_three f2 (Some w) z q2) a refl
arms_go g h j f f2 (Some w) (Some x) None p2 q2 a b k =
    subst (λ z. None ≡ all_three f2 (Some w) z q2) a (subst (λ z. None ≡ all_three f2 (Some w) (Some (h x)) z) b refl)
arms_go g h j f f2 (Some w) (Some x) (Some y) p2 q2 a b k =
    subst (λ z. Some (g (f w x y)) ≡ all_three f2 (Some w) z q2) a
    (subst (λ z. Some (g (f w x y)) ≡ all_three f2 (Some w) (Some (h x)) z) b (ap Some (k w x y refl)))

-- # Calls

abbrev UsesGo : Tables → ConTable → ℕ → Type 0
UsesGo t table b =
    (k : ℕ) (q : QueryTree) (es : Exs) → option_map (depths_of table) (uses_before t b k q es)
    ≡ depths_before t b k q (depths_in es)

with_goes : (t : Tables) (table : ConTable) (b : ℕ) → UsesGo t table b → (w : Callee Ex) (keys es : Exs)
    → option_map (depths_of table) (expressions.called_with (uses_before t b) w keys es)
    ≡ depths.called_with (depths_before t b) (callee_depths w) (depths_in keys) (depths_in es)
with_goes t table b uses (use_of k q) keys es = uses k q es
with_goes t table b uses (variable e) keys es =
    given_goes table (variable e) (append keys es) ∙ ap (depths.given (variable (ex_depth e))) (append_depths keys es)
with_goes t table b uses (constructor k) keys es =
    given_goes table (constructor k) (append keys es) ∙ ap (depths.given (constructor k)) (append_depths keys es)
with_goes t table b uses (procedure k) keys es =
    given_goes table (procedure k) (append keys es) ∙ ap (depths.given (procedure k)) (append_depths keys es)
with_goes t table b uses (outcome k) keys es =
    given_goes table (outcome k) (append keys es) ∙ ap (depths.given (outcome k)) (append_depths keys es)
with_goes t table b uses (operation k) keys es =
    given_goes table (operation k) (append keys es) ∙ ap (depths.given (operation k)) (append_depths keys es)
with_goes t table b uses (question k) keys es =
    given_goes table (question k) (append keys es) ∙ ap (depths.given (question k)) (append_depths keys es)
with_goes t table b uses (value k) keys es =
    given_goes table (value k) (append keys es) ∙ ap (depths.given (value k)) (append_depths keys es)

applied_goes : (t : Tables) (table : ConTable) (b : ℕ) → UsesGo t table b
    → (w : Callee Ex) (keys es : Option Exs) (ks xs : Option (List ℕ))
    → option_map depths_in keys ≡ ks → option_map depths_in es ≡ xs
    → option_map (depths_of table) (expressions.applied (uses_before t b) w keys es)
    ≡ depths.applied (depths_before t b) (callee_depths w) ks xs
applied_goes t table b uses w keys es ks xs e h =
    then_goes (depths_of table) depths_in (λ k. option_and_then (expressions.called_with (uses_before t b) w k) es)
    (λ k. option_and_then (depths.called_with (depths_before t b) (callee_depths w) k) xs) keys ks e
    (λ k. then_goes (depths_of table) depths_in (expressions.called_with (uses_before t b) w k)
    (depths.called_with (depths_before t b) (callee_depths w) (depths_in k)) es xs h (with_goes t table b uses w k))

-- # Expressions

mutual
  goes : (t : Tables) (table : ConTable) → con_table t ≡ Some table → (b : ℕ) → UsesGo t table b
      → (vs : Vars) (asked : Option Kind) (e : ExprTree)
      → option_map (depths_of table) (expressions.value t (uses_before t b) vs asked e)
      ≡ depths.depths t (depths_before t b) (shades vs) asked e
  goes t table is b uses vs asked (ExprTree.node at form) = form_goes t table is b uses vs asked form

  form_goes : (t : Tables) (table : ConTable) → con_table t ≡ Some table → (b : ℕ) → UsesGo t table b
      → (vs : Vars) (asked : Option Kind) (form : ExprForm)
      → option_map (depths_of table) (expressions.form_value t (uses_before t b) vs asked form)
      ≡ depths.form_depths t (depths_before t b) (shades vs) asked form
  form_goes t table is b uses vs asked (ExprForm.implies d e) =
      both_goes (depths_of table) (depths_of table) (depths_of table) expressions.implied depths.implied _ _ _ _
      (goes t table is b uses vs (Some bool_kind) d) (goes t table is b uses vs (Some bool_kind) e) (implied_goes table)
  form_goes t table is b uses vs asked (ExprForm.or es) =
      map_goes (depths_of table) (fos_reach table) expressions.one_of depths.of_each _ _ (formulas_go t table is b uses vs es)
      (λ fs. refl)
  form_goes t table is b uses vs asked (ExprForm.and es) =
      map_goes (depths_of table) (fos_reach table) expressions.each_of depths.of_each _ _ (formulas_go t table is b uses vs es)
      (λ fs. refl)
  form_goes t table is b uses vs asked (ExprForm.not e) =
      map_goes (depths_of table) (depths_of table) expressions.negated depths.negated _ _
      (goes t table is b uses vs (Some bool_kind) e) (negated_goes table)
  form_goes t table is b uses vs asked (ExprForm.forall p e) =
      both_goes (depths_of table) (λ ty. ty) (depths_of table) expressions.for_all (λ ty x. depths.quantified x) _ _ _ _
      (same_option (ty_of t (kind_of t.names (param_type p))))
      (goes t table is b uses (expressions.under_quantifier t.names vs p) (Some bool_kind) e
      ∙ ap (λ z. depths.depths t (depths_before t b) z (Some bool_kind) e) (quantifier_shades t.names vs p)) (all_goes table)
  form_goes t table is b uses vs asked (ExprForm.exists p e) =
      both_goes (depths_of table) (λ ty. ty) (depths_of table) expressions.for_some (λ ty x. depths.quantified x) _ _ _ _
      (same_option (ty_of t (kind_of t.names (param_type p))))
      (goes t table is b uses (expressions.under_quantifier t.names vs p) (Some bool_kind) e
      ∙ ap (λ z. depths.depths t (depths_before t b) z (Some bool_kind) e) (quantifier_shades t.names vs p)) (any_goes table)
  form_goes t table is b uses vs asked (ExprForm.compare c d e) =
      rw (vars_same vs) (both_goes (depths_of table) ex_depth ex_depth (λ x y. formula (values.compared c x y))
      (depths.compared c) _ _ _ _
      (term_goes table _ _ (goes t table is b uses vs _ d)) (term_goes table _ _ (goes t table is b uses vs _ e))
      (compared_goes table c))
  form_goes t table is b uses vs asked (ExprForm.plus d e) =
      both_goes (depths_of table) ex_depth ex_depth (λ x y. term (sum x y)) depths.sum _ _ _ _
      (term_goes table _ _ (goes t table is b uses vs _ d)) (term_goes table _ _ (goes t table is b uses vs _ e))
      (λ x y. ap of_term (sum_depth x y))
  form_goes t table is b uses vs asked (ExprForm.minus d e) =
      both_goes (depths_of table) ex_depth ex_depth (λ x y. term (difference x y)) depths.sum _ _ _ _
      (term_goes table _ _ (goes t table is b uses vs _ d)) (term_goes table _ _ (goes t table is b uses vs _ e))
      (λ x y. ap of_term (difference_depth x y))
  form_goes t table is b uses vs asked (ExprForm.int n) = refl
  form_goes t table is b uses vs asked (ExprForm.str bytes) = refl
  form_goes t table is b uses vs asked (ExprForm.truth true) = refl
  form_goes t table is b uses vs asked (ExprForm.truth false) = refl
  form_goes t table is b uses vs asked ExprForm.none_word =
      map_goes (depths_of table) (λ con. con) (λ con. term (Con con no_ex)) (λ con. of_term 1) _ _ (same_option _) (λ con. refl)
  form_goes t table is b uses vs asked (ExprForm.some_of e) =
      rw (vars_same vs) (both_goes (depths_of table) (λ con. con) ex_depth expressions.constructed
      (λ con x. of_term (1 + x)) _ _ _ _
      (same_option _) (term_goes table _ _ (goes t table is b uses vs (asked_inside asked) e)) some_goes)
  form_goes t table is b uses vs asked ExprForm.unreturned = refl
  form_goes t table is b uses vs asked ExprForm.tx = refl
  form_goes t table is b uses vs asked (ExprForm.call w es) =
      rw (vars_same vs) (then_goes (depths_of table) depths_in (values.word_of w) (depths.word_of w) _ _
      (terms_go t table is b uses vs _ es) (word_goes table w))
  form_goes t table is b uses vs asked (ExprForm.match e arms) =
      rw (vars_same vs) (both_goes (depths_of table) ex_depth (arms_reach table) expressions.matched depths.matched _ _ _ _
      (term_goes table _ _ (goes t table is b uses vs None e)) (all_arms_go t table is b uses vs _ arms) (λ x made. refl))
  form_goes t table is b uses vs asked (ExprForm.access (AccessTree.path x steps args)) =
      then_goes (depths_of table) called_depths
      (λ c. expressions.applied (uses_before t b) c.what (expressions.key_terms t (uses_before t b) vs c.keys steps)
      (expressions.arg_terms t (uses_before t b) vs c.args args))
      (λ c. depths.applied (depths_before t b) c.what (depths.key_terms t (depths_before t b) (shades vs) c.keys steps)
      (depths.arg_terms t (depths_before t b) (shades vs) c.args args))
      _ _ (called_goes t vs (AccessTree.path x steps args))
      (λ c. applied_goes t table b uses c.what _ _ _ _ (keys_go t table is b uses vs c.keys steps)
      (args_go t table is b uses vs c.args args))

  formulas_go : (t : Tables) (table : ConTable) → con_table t ≡ Some table → (b : ℕ) → UsesGo t table b
      → (vs : Vars) (es : ExprTrees)
      → option_map (fos_reach table) (expressions.formulas t (uses_before t b) vs es)
      ≡ depths.formulas t (depths_before t b) (shades vs) es
  formulas_go t table is b uses vs ExprTrees.no_exprs = refl
  formulas_go t table is b uses vs (ExprTrees.more_exprs e es) =
      both_goes (fos_reach table) (depths_of table) (fos_reach table) expressions.with_formula depths.with_formula _ _ _ _
      (goes t table is b uses vs (Some bool_kind) e) (formulas_go t table is b uses vs es) (with_formula_goes table)

  terms_go : (t : Tables) (table : ConTable) → con_table t ≡ Some table → (b : ℕ) → UsesGo t table b
      → (vs : Vars) (ks : List Kind) (es : ExprTrees)
      → option_map depths_in (expressions.terms t (uses_before t b) vs ks es)
      ≡ depths.terms t (depths_before t b) (shades vs) ks es
  terms_go t table is b uses vs [] ExprTrees.no_exprs = refl
  terms_go t table is b uses vs [] (ExprTrees.more_exprs e es) = refl
  terms_go t table is b uses vs (k ∷ ks) ExprTrees.no_exprs = refl
  terms_go t table is b uses vs (k ∷ ks) (ExprTrees.more_exprs e es) =
      both_goes depths_in ex_depth depths_in also_ex ◌∷◌ _ _ _ _
      (term_goes table _ _ (goes t table is b uses vs (Some k) e)) (terms_go t table is b uses vs ks es) (λ x xs. refl)

  args_go : (t : Tables) (table : ConTable) → con_table t ≡ Some table → (b : ℕ) → UsesGo t table b
      → (vs : Vars) (ks : List Kind) (args : ArgTrees)
      → option_map depths_in (expressions.arg_terms t (uses_before t b) vs ks args)
      ≡ depths.arg_terms t (depths_before t b) (shades vs) ks args
  args_go t table is b uses vs [] ArgTrees.absent = refl
  args_go t table is b uses vs (k ∷ ks) ArgTrees.absent = refl
  args_go t table is b uses vs [] (ArgTrees.given es) = terms_go t table is b uses vs [] es
  args_go t table is b uses vs (k ∷ ks) (ArgTrees.given es) = terms_go t table is b uses vs (k ∷ ks) es

  keys_go : (t : Tables) (table : ConTable) → con_table t ≡ Some table → (b : ℕ) → UsesGo t table b
      → (vs : Vars) (ks : List Kind) (steps : StepTrees)
      → option_map depths_in (expressions.key_terms t (uses_before t b) vs ks steps)
      ≡ depths.key_terms t (depths_before t b) (shades vs) ks steps
  keys_go t table is b uses vs [] StepTrees.no_steps = refl
  keys_go t table is b uses vs (k ∷ ks) StepTrees.no_steps = refl
  keys_go t table is b uses vs [] (StepTrees.more_steps (StepTree.key e) steps) = refl
  keys_go t table is b uses vs (k ∷ ks) (StepTrees.more_steps (StepTree.key e) steps) =
      both_goes depths_in ex_depth depths_in also_ex ◌∷◌ _ _ _ _
      (term_goes table _ _ (goes t table is b uses vs (Some k) e)) (keys_go t table is b uses vs ks steps) (λ x xs. refl)
  keys_go t table is b uses vs [] (StepTrees.more_steps (StepTree.dot x) steps) = keys_go t table is b uses vs [] steps
  keys_go t table is b uses vs (k ∷ ks) (StepTrees.more_steps (StepTree.dot x) steps) =
      keys_go t table is b uses vs (k ∷ ks) steps
  keys_go t table is b uses vs [] (StepTrees.more_steps (StepTree.returned at) steps) = keys_go t table is b uses vs [] steps
  keys_go t table is b uses vs (k ∷ ks) (StepTrees.more_steps (StepTree.returned at) steps) =
      keys_go t table is b uses vs (k ∷ ks) steps

  all_arms_go : (t : Tables) (table : ConTable) → con_table t ≡ Some table → (b : ℕ) → UsesGo t table b
      → (vs : Vars) (k : Kind) (arms : ExprArmTrees)
      → option_map (arms_reach table) (expressions.arm_formulas t (uses_before t b) vs k arms)
      ≡ depths.arms_reach t (depths_before t b) (shades vs) k arms
  all_arms_go t table is b uses vs k ExprArmTrees.no_expr_arms = refl
  all_arms_go t table is b uses vs k (ExprArmTrees.more_expr_arms (ExprArmTree.arm p e) arms) =
      arms_go (arms_reach table) (depths_of table) (arms_reach table) expressions.with_arm
      (λ con. depths.with_arm (length (pattern_vars p))) (arm_number t k p) _ _ _ _
      (goes t table is b uses (expressions.under_pattern t.names vs k p) (Some bool_kind) e
      ∙ ap (λ z. depths.depths t (depths_before t b) z (Some bool_kind) e)
      (under_all_shades vs (pattern_vars p) (pattern_kinds t.names k (pattern_name p))))
      (all_arms_go t table is b uses vs k arms)
      (λ con v made found. with_arm_goes table (length (pattern_vars p)) con v made (arm_fields t table k p con is found))

-- # Uses of queries

body_goes : (t : Tables) (table : ConTable) → con_table t ≡ Some table → (b : ℕ) → UsesGo t table b → (q : QueryTree) (es : Exs)
    → option_map (depths_of table) (body_value t (uses_before t b) q es) ≡ body_depths t (depths_before t b) q (depths_in es)
body_goes t table is b uses (QueryTree.query x params result body) es =
    goes t table is b uses (expressions.with_args t.names params es) (Some (kind_of t.names result)) body
    ∙ ap (λ z. depths.depths t (depths_before t b) z (Some (kind_of t.names result)) body) (args_shades t.names params es)

either_goes : {A B : Type 0} (g : A → B) (same : Bool) (o p : Option A) (o2 p2 : Option B) → option_map g o ≡ o2
    → option_map g p ≡ p2
    → option_map g (cond same o p) ≡ cond same o2 p2
either_goes g true o p o2 p2 a b = a
either_goes g false o p o2 p2 a b = b

uses_go : (t : Tables) (table : ConTable) → con_table t ≡ Some table → (b : ℕ) → UsesGo t table b
uses_go t table is zero = λ k q es. refl
uses_go t table is (suc n) = λ k q es.
    either_goes (depths_of table) (k == n) _ _ _ _ (body_goes t table is n (uses_go t table is n) q es)
    (uses_go t table is n k q es)

pub depths_go : (t : Tables) (table : ConTable) (b : ℕ) (vs : Vars) (asked : Option Kind) (e : ExprTree)
    → con_table t ≡ Some table
    → option_map (depths_of table) (expressions.value t (uses_before t b) vs asked e)
    ≡ depths.depths t (depths_before t b) (shades vs) asked e
depths_go t table b vs asked e is = goes t table is b (uses_go t table is b) vs asked e
