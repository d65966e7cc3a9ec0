-- Where uses of queries become more, so does what uses them.
use Rattle.std.proofs.Common.{◌≡◌, ◌+◌, ℕ, suc, List, [], ◌∷◌, length, Option, Some, None, refl, ap, subst, ◌∙◌}
use Rattle.std.proofs.lemmas.List.{length-map}
use Rattle.rp_span.specs.declared.Span.{Span}
use Rattle.rp_grammar.specs.Trees.{Ident, TypeTree, ExprTree, ExprForm, ExprTrees, ExprArmTree, ExprArmTrees, AccessTree, StepTree, StepTrees, ArgTrees, QueryTree, BlockTree, StmtTree, StmtForm, StmtTrees, ElseTree, BlockArmTree, BlockArmTrees}
use Rattle.rp_lang.specs.Exprs.{Ex, Exs, no_ex, also_ex}
use Rattle.type_rules.specs.declared.kind.Kind.{Kind}
use Rattle.type_rules.specs.Names.{param_type}
use Rattle.type_rules.specs.Kinds.{bool_kind, int_kind, kind_of}
use Rattle.type_rules.specs.Typing.{asked_inside, type_of}
use Rattle.type_rules.specs.Accesses.{access_of, query_params}
use Rattle.type_rules.specs.ExprSites.{left_want, right_want, word_args}
use Rattle.type_rules.specs.Matches.{pattern_vars}
use Rattle.desugaring.specs.Tables.{Tables, ty_of, arm_number}
use Rattle.desugaring.specs.Values as values
use Rattle.desugaring.specs.Values.{Value, term, formula}
use Rattle.desugaring.specs.Callees.{Vars, vars_of, Callee, variable, constructor, use_of, procedure, outcome, operation, question, value, Called, called}
use Rattle.desugaring.specs.Expressions as spec
use Rattle.desugaring.specs.Expressions.{term_in, called_with, applied}
use Rattle.desugaring.specs.Statements as st
use Rattle.desugaring.specs.Statements.{Place, inside, is_apart, past_hidden}
use Rattle.std.specs.Prelude.{option_and_then}
use Rattle.desugaring.proofs.Options.{both_there}
use Rattle.query_bodies.specs.Expanded.{given_of}
use Rattle.query_laws.specs.Sight.{Follows}
use Rattle.query_laws.specs.Whole.{IsNamed, AreEnough}
use Rattle.query_laws.proofs.Follows.{itself, map_follows, both_follows, three_follow, then_follows, term_follows}
use Rattle.query_laws.proofs.Calls.{IsPlain, access_there, use_named}

-- the second become as much as the first, of the queries that are named, with as many arguments as they take
abbrev pub AreMore : Tables → spec.Uses → spec.Uses → Type 0
AreMore t u w = (k : ℕ) (q : QueryTree) (es : Exs) → IsNamed t.names k q → AreEnough q es → Follows (u k q es) (w k q es)

-- # Counts of arguments

pub terms_count : (t : Tables) (u : spec.Uses) (vs : Vars) (ks : List Kind) (es : ExprTrees) (xs : Exs)
    → spec.terms t u vs ks es ≡ Some xs → length (given_of xs) ≡ length ks
terms_count t u vs [] ExprTrees.no_exprs xs h = subst (λ zs. length (given_of zs) ≡ 0) {x = no_ex} (cc) refl
terms_count t u vs [] (ExprTrees.more_exprs e es) xs h = absurd cc
terms_count t u vs (k ∷ ks) ExprTrees.no_exprs xs h = absurd cc
terms_count t u vs (k ∷ ks) (ExprTrees.more_exprs e es) xs h =
    both_there (λ zs. length (given_of zs) ≡ length (k ∷ ks)) also_ex _ _ xs h
    (λ y ys a b. ap suc (terms_count t u vs ks es ys b))

pub args_count : (t : Tables) (u : spec.Uses) (vs : Vars) (ks : List Kind) (args : ArgTrees) (xs : Exs)
    → spec.arg_terms t u vs ks args ≡ Some xs → length (given_of xs) ≡ length ks
args_count t u vs [] ArgTrees.absent xs h = subst (λ zs. length (given_of zs) ≡ 0) {x = no_ex} (cc) refl
args_count t u vs (k ∷ ks) ArgTrees.absent xs h = absurd cc
args_count t u vs [] (ArgTrees.given es) xs h = terms_count t u vs [] es xs h
args_count t u vs (k ∷ ks) (ArgTrees.given es) xs h = terms_count t u vs (k ∷ ks) es xs h

-- # Calls

plain_same : (u w : spec.Uses) (what : Callee Ex) → IsPlain what → (keys es : Exs)
    → Follows (called_with u what keys es) (called_with w what keys es)
plain_same u w (variable x) plain keys es = absurd plain
plain_same u w (constructor k) plain keys es = itself _
plain_same u w (use_of k q) plain keys es = absurd plain
plain_same u w (procedure k) plain keys es = itself _
plain_same u w (outcome k) plain keys es = itself _
plain_same u w (operation k) plain keys es = itself _
plain_same u w (question k) plain keys es = itself _
plain_same u w (value k) plain keys es = itself _

abbrev IsMoreWith : spec.Uses → spec.Uses → Called Ex → Type 0
IsMoreWith u w c =
    (keys es : Exs) → length (given_of es) ≡ length c.args → Follows (called_with u c.what keys es) (called_with w c.what keys es)

call_more : (t : Tables) (u w : spec.Uses) → AreMore t u w → (vs : Vars) (a : AccessTree) (c : Called Ex) → called t vs a ≡ Some c
    → IsMoreWith u w c
call_more t u w more vs (AccessTree.path x steps args) c is =
    access_there (IsMoreWith u w) t vs x steps (λ s e keys es many. itself _)
    (λ p plain keys es many. plain_same u w p.what plain keys es)
    (access_of t.names (vars_of vs) (AccessTree.path x steps args)) c
    (λ k q e keys es many.
    more k q es (use_named t.names (vars_of vs) x steps args k q e) (many
    ∙ length-map (query_params q) (λ p. kind_of t.names (param_type p))))
    is

applied_more : (u w : spec.Uses) (what : Callee Ex) (k1 k2 e1 e2 : Option Exs) → Follows k1 k2 → Follows e1 e2
    → ((keys es : Exs) → e1 ≡ Some es → Follows (called_with u what keys es) (called_with w what keys es))
    → Follows (applied u what k1 e1) (applied w what k2 e2)
applied_more u w what k1 k2 e1 e2 f g h =
    then_follows (λ keys. option_and_then (called_with u what keys) e1) (λ keys. option_and_then (called_with w what keys) e2)
    k1 k2
    (λ keys there. then_follows (called_with u what keys) (called_with w what keys) e1 e2 (λ es is. h keys es is) g) f

-- # Expressions

mutual
  pub value_more : (t : Tables) (u w : spec.Uses) (m : AreMore t u w) (vs : Vars) (asked : Option Kind) (e : ExprTree)
      → Follows (spec.value t u vs asked e) (spec.value t w vs asked e)
  value_more t u w m vs asked (ExprTree.node at form) = form_more t u w m vs asked form

  form_more : (t : Tables) (u w : spec.Uses) (m : AreMore t u w) (vs : Vars) (asked : Option Kind) (form : ExprForm)
      → Follows (spec.form_value t u vs asked form) (spec.form_value t w vs asked form)
  form_more t u w m vs asked (ExprForm.implies a b) =
      both_follows spec.implied _ _ _ _ (value_more t u w m vs (Some bool_kind) a) (value_more t u w m vs (Some bool_kind) b)
  form_more t u w m vs asked (ExprForm.or es) = map_follows spec.one_of _ _ (formulas_more t u w m vs es)
  form_more t u w m vs asked (ExprForm.and es) = map_follows spec.each_of _ _ (formulas_more t u w m vs es)
  form_more t u w m vs asked (ExprForm.not e) = map_follows spec.negated _ _ (value_more t u w m vs (Some bool_kind) e)
  form_more t u w m vs asked (ExprForm.forall p e) =
      both_follows spec.for_all _ _ _ _ (itself (ty_of t (kind_of t.names (param_type p))))
      (value_more t u w m (spec.under_quantifier t.names vs p) (Some bool_kind) e)
  form_more t u w m vs asked (ExprForm.exists p e) =
      both_follows spec.for_some _ _ _ _ (itself (ty_of t (kind_of t.names (param_type p))))
      (value_more t u w m (spec.under_quantifier t.names vs p) (Some bool_kind) e)
  form_more t u w m vs asked (ExprForm.compare c a b) =
      both_follows (λ x y. formula (values.compared c x y)) _ _ _ _
      (term_follows _ _ (value_more t u w m vs (left_want t.names (vars_of vs) c a b).asked a))
      (term_follows _ _ (value_more t u w m vs (right_want t.names (vars_of vs) c a b).asked b))
  form_more t u w m vs asked (ExprForm.plus a b) =
      both_follows (λ x y. term (values.sum x y)) _ _ _ _ (term_follows _ _ (value_more t u w m vs (Some int_kind) a))
      (term_follows _ _ (value_more t u w m vs (Some int_kind) b))
  form_more t u w m vs asked (ExprForm.minus a b) =
      both_follows (λ x y. term (values.difference x y)) _ _ _ _ (term_follows _ _ (value_more t u w m vs (Some int_kind) a))
      (term_follows _ _ (value_more t u w m vs (Some int_kind) b))
  form_more t u w m vs asked (ExprForm.int n) = itself _
  form_more t u w m vs asked (ExprForm.str bytes) = itself _
  form_more t u w m vs asked (ExprForm.truth b) = itself _
  form_more t u w m vs asked ExprForm.none_word = itself _
  form_more t u w m vs asked (ExprForm.some_of e) =
      both_follows spec.constructed _ _ _ _ (itself _) (term_follows _ _ (value_more t u w m vs (asked_inside asked) e))
  form_more t u w m vs asked ExprForm.unreturned = itself _
  form_more t u w m vs asked ExprForm.tx = itself _
  form_more t u w m vs asked (ExprForm.call word es) =
      then_follows (values.word_of word) (values.word_of word) _ _ (λ xs is. itself _)
      (terms_more t u w m vs (word_args t.names (vars_of vs) word es) es)
  form_more t u w m vs asked (ExprForm.match e arms) =
      both_follows spec.matched _ _ _ _ (term_follows _ _ (value_more t u w m vs None e))
      (arms_more t u w m vs (type_of t.names (vars_of vs) None e) arms)
  form_more t u w m vs asked (ExprForm.access (AccessTree.path x steps args)) =
      then_follows _ _ _ _ (λ c is. applied_more u w c.what _ _ _ _ (keys_more t u w m vs c.keys steps) (args_more t u w m vs
      c.args args)
      (λ keys es there.
      call_more t u w m vs (AccessTree.path x steps args) c is keys es (args_count t u vs c.args args es there)))
      (itself (called t vs (AccessTree.path x steps args)))

  formulas_more : (t : Tables) (u w : spec.Uses) (m : AreMore t u w) (vs : Vars) (es : ExprTrees)
      → Follows (spec.formulas t u vs es) (spec.formulas t w vs es)
  formulas_more t u w m vs ExprTrees.no_exprs = itself _
  formulas_more t u w m vs (ExprTrees.more_exprs e es) =
      both_follows spec.with_formula _ _ _ _ (value_more t u w m vs (Some bool_kind) e) (formulas_more t u w m vs es)

  terms_more : (t : Tables) (u w : spec.Uses) (m : AreMore t u w) (vs : Vars) (ks : List Kind) (es : ExprTrees)
      → Follows (spec.terms t u vs ks es) (spec.terms t w vs ks es)
  terms_more t u w m vs [] ExprTrees.no_exprs = itself _
  terms_more t u w m vs [] (ExprTrees.more_exprs e es) = itself _
  terms_more t u w m vs (k ∷ ks) ExprTrees.no_exprs = itself _
  terms_more t u w m vs (k ∷ ks) (ExprTrees.more_exprs e es) =
      both_follows also_ex _ _ _ _ (term_follows _ _ (value_more t u w m vs (Some k) e)) (terms_more t u w m vs ks es)

  args_more : (t : Tables) (u w : spec.Uses) (m : AreMore t u w) (vs : Vars) (ks : List Kind) (args : ArgTrees)
      → Follows (spec.arg_terms t u vs ks args) (spec.arg_terms t w vs ks args)
  args_more t u w m vs [] ArgTrees.absent = itself _
  args_more t u w m vs (k ∷ ks) ArgTrees.absent = itself _
  args_more t u w m vs [] (ArgTrees.given es) = terms_more t u w m vs [] es
  args_more t u w m vs (k ∷ ks) (ArgTrees.given es) = terms_more t u w m vs (k ∷ ks) es

  keys_more : (t : Tables) (u w : spec.Uses) (m : AreMore t u w) (vs : Vars) (ks : List Kind) (steps : StepTrees)
      → Follows (spec.key_terms t u vs ks steps) (spec.key_terms t w vs ks steps)
  keys_more t u w m vs [] StepTrees.no_steps = itself _
  keys_more t u w m vs (k ∷ ks) StepTrees.no_steps = itself _
  keys_more t u w m vs [] (StepTrees.more_steps (StepTree.key e) steps) = itself _
  keys_more t u w m vs (k ∷ ks) (StepTrees.more_steps (StepTree.key e) steps) =
      both_follows also_ex _ _ _ _ (term_follows _ _ (value_more t u w m vs (Some k) e)) (keys_more t u w m vs ks steps)
  keys_more t u w m vs [] (StepTrees.more_steps (StepTree.dot x) steps) = keys_more t u w m vs [] steps
  keys_more t u w m vs (k ∷ ks) (StepTrees.more_steps (StepTree.dot x) steps) = keys_more t u w m vs (k ∷ ks) steps
  keys_more t u w m vs [] (StepTrees.more_steps (StepTree.returned at) steps) = keys_more t u w m vs [] steps
  keys_more t u w m vs (k ∷ ks) (StepTrees.more_steps (StepTree.returned at) steps) = keys_more t u w m vs (k ∷ ks) steps

  arms_more : (t : Tables) (u w : spec.Uses) (m : AreMore t u w) (vs : Vars) (k : Kind) (arms : ExprArmTrees)
      → Follows (spec.arm_formulas t u vs k arms) (spec.arm_formulas t w vs k arms)
  arms_more t u w m vs k ExprArmTrees.no_expr_arms = itself _
  arms_more t u w m vs k (ExprArmTrees.more_expr_arms (ExprArmTree.arm p e) arms) =
      three_follow spec.with_arm (arm_number t k p) _ _ _ _
      (value_more t u w m (spec.under_pattern t.names vs k p) (Some bool_kind) e) (arms_more t u w m vs k arms)

-- # Statements

assignment_more : (t : Tables) (u w : spec.Uses) → AreMore t u w → (p : Place) (vs : Vars) (at : Span) (x : Ident) (e : ExprTree)
    → Follows (st.assignment t u p vs at x e) (st.assignment t w p vs at x e)
assignment_more t u w m p vs at x e =
    then_follows (st.assignment_to t u p vs at e) (st.assignment_to t w p vs at e) _ _
    (λ s is. both_follows (st.assigned_to p at) _ _ _ _ (itself (st.slot_for s)) (value_more t u w m vs (Some s.kind) e))
    (itself _)

declaration_more : (t : Tables) (u w : spec.Uses) → AreMore t u w
    → (p : Place) (vs : Vars) (at : Span) (x : Ident) (ty : TypeTree)
    (e : Option ExprTree) → Follows (st.declaration t u p vs at x ty e) (st.declaration t w p vs at x ty e)
declaration_more t u w m p vs at x ty None = itself _
declaration_more t u w m p vs at x ty (Some e) = assignment_more t u w m p vs at x e

return_more : (t : Tables) (u w : spec.Uses) → AreMore t u w
    → (p : Place) (vs : Vars) (next : ℕ) (at : Span) (e : Option ExprTree)
    → Follows (st.return t u p vs next at e) (st.return t w p vs next at e)
return_more t u w m p vs next at None = itself _
return_more t u w m p vs next at (Some e) =
    then_follows _ _ p.result p.result (λ k is. map_follows (st.returning at next k) _ _ (value_more t u w m vs (Some k) e))
    (itself p.result)

mutual
  stmt_more : (t : Tables) (u w : spec.Uses) (m : AreMore t u w) (p : Place) (vs : Vars) (next : ℕ) (s : StmtTree)
      → Follows (st.stmt t u p vs next s) (st.stmt t w p vs next s)
  stmt_more t u w m p vs next (StmtTree.node at form) = stmt_form_more t u w m p vs next at form

  stmt_form_more : (t : Tables) (u w : spec.Uses) (m : AreMore t u w) (p : Place) (vs : Vars) (next : ℕ) (at : Span) (form :
      StmtForm)
      → Follows (st.stmt_form t u p vs next at form) (st.stmt_form t w p vs next at form)
  stmt_form_more t u w m p vs next at (StmtForm.var x ty e) =
      map_follows (st.with_kind (kind_of t.names ty)) _ _
      (declaration_more t u w m p (st.with_slot t.names vs next x ty) at x ty e)
  stmt_form_more t u w m p vs next at (StmtForm.new x id) = itself _
  stmt_form_more t u w m p vs next at (StmtForm.assign x e) = assignment_more t u w m p vs at x e
  stmt_form_more t u w m p vs next at (StmtForm.access a) =
      then_follows (st.operating p at) (st.operating p at) _ _ (λ v is. itself _)
      (value_more t u w m vs None (ExprTree.node at (ExprForm.access a)))
  stmt_form_more t u w m p vs next at (StmtForm.if_ e b other) =
      then_follows _ _ _ _ (λ v is. then_follows _ _ _ _ (λ left there.
      map_follows (st.branching (is_apart p v) at next v left) _ _
      (else_more t u w m p vs (past_hidden (is_apart p v) next + length left.slots) other))
      (block_more t u w m p vs (past_hidden (is_apart p v) next) b))
      (value_more t u w m vs (Some bool_kind) e)
  stmt_form_more t u w m p vs next at (StmtForm.match e arms) =
      then_follows _ _ _ _ (λ x is.
      map_follows (st.matching (is_apart p (term x)) at next (type_of t.names (vars_of vs) None e) x) _ _
      (stmt_arms_more t u w m p vs (past_hidden (is_apart p (term x)) next) (type_of t.names (vars_of vs) None e) arms))
      (term_follows _ _ (value_more t u w m vs None e))
  stmt_form_more t u w m p vs next at (StmtForm.atomic b) = map_follows (st.atomic at) _ _ (block_more t u w m (inside p) vs
      next b)
  stmt_form_more t u w m p vs next at (StmtForm.assert e) =
      map_follows (st.asserted p at) _ _ (value_more t u w m vs (Some bool_kind) e)
  stmt_form_more t u w m p vs next at (StmtForm.return e) = return_more t u w m p vs next at e

  pub block_more : (t : Tables) (u w : spec.Uses) (m : AreMore t u w) (p : Place) (vs : Vars) (next : ℕ) (b : BlockTree)
      → Follows (st.block t u p vs next b) (st.block t w p vs next b)
  block_more t u w m p vs next (BlockTree.block at stmts) = stmts_more t u w m p vs next stmts

  stmts_more : (t : Tables) (u w : spec.Uses) (m : AreMore t u w) (p : Place) (vs : Vars) (next : ℕ) (stmts : StmtTrees)
      → Follows (st.stmts_made t u p vs next stmts) (st.stmts_made t w p vs next stmts)
  stmts_more t u w m p vs next StmtTrees.no_stmts = itself _
  stmts_more t u w m p vs next (StmtTrees.more_stmts s stmts) =
      then_follows _ _ _ _ (λ first is. map_follows (st.before first) _ _
      (stmts_more t u w m p (st.behind t.names vs next s) (next + length first.slots) stmts))
      (stmt_more t u w m p vs next s)

  else_more : (t : Tables) (u w : spec.Uses) (m : AreMore t u w) (p : Place) (vs : Vars) (next : ℕ) (other : ElseTree)
      → Follows (st.else_made t u p vs next other) (st.else_made t w p vs next other)
  else_more t u w m p vs next ElseTree.no_else = itself _
  else_more t u w m p vs next (ElseTree.else_block b) = block_more t u w m p vs next b
  else_more t u w m p vs next (ElseTree.else_if s) = stmt_more t u w m p vs next s

  stmt_arms_more : (t : Tables) (u w : spec.Uses) (m : AreMore t u w) (p : Place) (vs : Vars) (next : ℕ) (k : Kind) (arms :
      BlockArmTrees)
      → Follows (st.arms_made t u p vs next k arms) (st.arms_made t w p vs next k arms)
  stmt_arms_more t u w m p vs next k BlockArmTrees.no_block_arms = itself _
  stmt_arms_more t u w m p vs next k (BlockArmTrees.more_block_arms (BlockArmTree.arm shape b) arms) =
      then_follows _ _ _ _ (λ con is. then_follows _ _ _ _ (λ body there.
      map_follows (st.arm_with shape next (st.pattern_slots t.names k shape) con body) _ _
      (stmt_arms_more t u w m p vs (next + length (pattern_vars shape) + length body.slots) k arms))
      (block_more t u w m p (st.in_pattern t.names vs next k shape) (next + length (pattern_vars shape)) b))
      (itself (arm_number t k shape))
