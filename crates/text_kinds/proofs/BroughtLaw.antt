-- What the places of a text bring is what its expressions, statements and declarations bring.
use Rattle.std.proofs.Common.{◌≡◌, ℕ, ◌+◌, Bool, true, false, List, [], ◌∷◌, ◌++◌, length, map, codes, Option, Some, None, refl, sym, ap, ◌∙◌}
use Rattle.std.specs.Prelude.{flat_map}
use Rattle.std.specs.Option.{option_map}
use Rattle.std.proofs.lemmas.Grind.{flat_map-append}
use Rattle.std.proofs.lemmas.List.{append-nil, append_assoc}
use Rattle.rp_span.specs.declared.Span.{Span}
use Rattle.rp_grammar.specs.Trees.{Ident, TypeTree, ParamTree, ExprTree, ExprForm, ExprTrees, ExprArmTree, ExprArmTrees, AccessTree, StepTree, StepTrees, ArgTrees, BlockTree, StmtTree, StmtForm, StmtTrees, ElseTree, BlockArmTree, BlockArmTrees, QueryTree, ProcTree, DeclForm, DeclTree}
use Rattle.type_rules.specs.declared.kind.Kind.{Kind}
use Rattle.type_rules.specs.declared.role.Role.{Role}
use Rattle.type_rules.specs.declared.role.Role.TheVariants as role
use Rattle.type_rules.specs.Names.{Name, Names, param_name, param_type, text_of, types_in}
use Rattle.type_rules.specs.Kinds.{bool_kind, kind_of}
use Rattle.type_rules.specs.Paths.{Way, key_kind, stepped}
use Rattle.type_rules.specs.Accesses.{Var, access_of, args_of, find_var}
use Rattle.type_rules.specs.Typing.{form_type, type_of}
use Rattle.type_rules.specs.Sites.{Scope, Site, Want}
use Rattle.type_rules.specs.Starts.{brace_of, word_at}
use Rattle.type_rules.specs.Matches.{bound_sites, bound_var, first_kind, other_kinds, pattern_kinds, pattern_name, pattern_vars}
use Rattle.type_rules.specs.ExprSites.{access_sites, arg_sites, argument, arm_names, arm_sites, asks, bool_operand, bool_whole, expr_sites, form_sites, given_sites, held, int_operand, key_sites, left_want, matched, operand_sites, pattern_sites, quantified_sites, quantified_var, right_want, step_sites, way_from, with_pattern, with_var, word_args}
use Rattle.type_rules.specs.StmtSites as stmt_sites
use Rattle.type_rules.specs.StmtSites.{Frame, before_stmts, is_last, is_there, result_kind, scope_in, value_for, value_sites, var_kind}
use Rattle.type_rules.specs.Flow.{Sight, after, after_arm, after_arms, after_block, after_else, after_stmts, in_pattern, with_declared}
use Rattle.type_rules.specs.Queries.{param_var, param_vars}
use Rattle.type_rules.specs.DeclSites.{declares_all, frame_for, named_all, param_sites, result_sites, scope_for, sight_for, written_all}
use Rattle.desugaring.specs.Appearances.{decl_kinds, kinds_from, parts, site_kinds}
use Rattle.text_kinds.specs.means.Brought.{access_brings, args_bring, arms_bring, block_arms_bring, block_brings, decl_brings, decls_bring, else_brings, expr_brings, form_brings, given_brings, key_brings, operands_bring, params_bring, proc_brings, result_brings, steps_bring, stmt_brings, stmts_behind, stmts_bring, type_count, value_brings, vars_behind, with_variable}
use Rattle.text_kinds.proofs.Bare.{args_bare, bares, bares_both, bares_bound, bares_dead, bares_given, bares_left, bares_more, behind_more, bound_more, form_bare, left_bare, one_more, right_bare, type_bare, var_bare, way_bare, word_bare}

abbrev Brings : Names → List Site → List Kind → Type 0
Brings n ss ks = flat_map (site_kinds n) ss ≡ ks

join : (n : Names) (ss rs : List Site) (ks js : List Kind) → Brings n ss ks → Brings n rs js → Brings n (ss ++ rs) (ks ++ js)
join n ss rs ks js a b =
    flat_map-append (site_kinds n) ss rs ∙ ap (λ z. z ++ flat_map (site_kinds n) rs) a ∙ ap (λ z. ks ++ z) b

bound_nothing : (n : Names) (vs : List Var) (xs : List Ident) (ks : List Kind) → Brings n (bound_sites vs xs ks) []
bound_nothing n vs [] ks = refl
bound_nothing n vs (x ∷ xs) ks = bound_nothing n (vs ++ bound_var x (first_kind ks) ∷ []) xs (other_kinds ks)

-- # Expressions

quantified_is : (n : Names) (sc : Scope) (q : ParamTree) (e : ExprTree)
    → Brings n (expr_sites n (with_var sc (quantified_var n q)) bool_operand e)
    (expr_brings n (bares (with_var sc (quantified_var n q)).vars) (Some bool_kind) e)
    → Brings n (quantified_sites sc q ++ expr_sites n (with_var sc (quantified_var n q)) bool_operand e)
    (parts n (kind_of n (param_type q)) ++ expr_brings n (bares sc.vars ++ quantified_var n q ∷ []) (Some bool_kind) e)
quantified_is n sc q e body =
    ap (λ z. parts n (kind_of n (param_type q)) ++ z)
    (body ∙ ap (λ vs. expr_brings n vs (Some bool_kind) e) (bares_more sc.vars (quantified_var n q)))

two_law : (n : Names) (sc : Scope) (w : Want) (a b : ExprTree) → Brings n (expr_sites n sc w a)
    (expr_brings n (bares sc.vars) w.asked a)
    → Brings n (expr_sites n sc w b) (expr_brings n (bares sc.vars) w.asked b)
    → Brings n (expr_sites n sc w a ++ expr_sites n sc w b) (expr_brings n (bares sc.vars) w.asked a
    ++ expr_brings n (bares sc.vars) w.asked b)
two_law n sc w a b one other = join n (expr_sites n sc w a) (expr_sites n sc w b) _ _ one other

mutual
  pub expr_law : (n : Names) (sc : Scope) (w : Want) (e : ExprTree) → Brings n (expr_sites n sc w e)
      (expr_brings n (bares sc.vars) w.asked e)
  expr_law n sc w (ExprTree.node at form) = form_law n sc w at form

  -- with the expression's own place
  form_law : (n : Names) (sc : Scope) (w : Want) (at : Span) (form : ExprForm)
      → Brings n (Site.place sc w (ExprTree.node at form) ∷ form_sites n sc w at form)
      (form_brings n (bares sc.vars) w.asked form)
  form_law n sc w at (ExprForm.implies a b) = two_law n sc bool_operand a b (expr_law n sc bool_operand a)
      (expr_law n sc bool_operand b)
  form_law n sc w at (ExprForm.or es) = operands_law n sc es
  form_law n sc w at (ExprForm.and es) = operands_law n sc es
  form_law n sc w at (ExprForm.not e) = expr_law n sc bool_operand e
  form_law n sc w at (ExprForm.forall q e) = quantified_is n sc q e
      (expr_law n (with_var sc (quantified_var n q)) bool_operand e)
  form_law n sc w at (ExprForm.exists q e) = quantified_is n sc q e
      (expr_law n (with_var sc (quantified_var n q)) bool_operand e)
  form_law n sc w at (ExprForm.compare c a b) =
      join n (expr_sites n sc (left_want n sc.vars c a b) a) (expr_sites n sc (right_want n sc.vars c a b) b) _ _
      (expr_law n sc (left_want n sc.vars c a b) a ∙ ap (λ asked. expr_brings n (bares sc.vars) asked a)
      (sym (left_bare n sc.vars c a b)))
      (expr_law n sc (right_want n sc.vars c a b) b ∙ ap (λ asked. expr_brings n (bares sc.vars) asked b)
      (sym (right_bare n sc.vars c a b)))
  form_law n sc w at (ExprForm.plus a b) = two_law n sc int_operand a b (expr_law n sc int_operand a)
      (expr_law n sc int_operand b)
  form_law n sc w at (ExprForm.minus a b) = two_law n sc int_operand a b (expr_law n sc int_operand a)
      (expr_law n sc int_operand b)
  form_law n sc w at (ExprForm.int i) = refl
  form_law n sc w at (ExprForm.str bytes) = refl
  form_law n sc w at (ExprForm.truth b) = refl
  form_law n sc w at ExprForm.none_word = refl
  form_law n sc w at (ExprForm.some_of e) =
      ap (λ k. parts n k ++ flat_map (site_kinds n) (form_sites n sc w at (ExprForm.some_of e)))
      (sym (form_bare n sc.vars w.asked (ExprForm.some_of e)))
      ∙ ap (λ z. parts n (form_type n (bares sc.vars) w.asked (ExprForm.some_of e)) ++ z) (expr_law n sc (held w.asked) e)
  form_law n sc w at ExprForm.unreturned = refl
  form_law n sc w at ExprForm.tx = refl
  form_law n sc w at (ExprForm.call word es) =
      args_law n sc false (word_args n sc.vars word es) es ∙ ap (λ ks. args_bring n (bares sc.vars) ks es)
      (sym (word_bare n sc.vars word es))
  form_law n sc w at (ExprForm.match e arms) =
      join n (expr_sites n sc matched e)
      (Site.arms (word_at (codes "match") at) (type_of n sc.vars None e) (arm_names arms)
      ∷ arm_sites n sc (type_of n sc.vars None e) [] arms) _ _
      (expr_law n sc matched e)
      (arms_law n sc (type_of n sc.vars None e) [] arms ∙ ap (λ k. arms_bring n (bares sc.vars) k arms)
      (sym (type_bare n sc.vars None e)))
  form_law n sc w at (ExprForm.access a) = access_law n sc a

  operands_law : (n : Names) (sc : Scope) (es : ExprTrees) → Brings n (operand_sites n sc es)
      (operands_bring n (bares sc.vars) es)
  operands_law n sc ExprTrees.no_exprs = refl
  operands_law n sc (ExprTrees.more_exprs e es) =
      join n (expr_sites n sc bool_operand e) (operand_sites n sc es) _ _ (expr_law n sc bool_operand e) (operands_law n sc es)

  args_law : (n : Names) (sc : Scope) (plain : Bool) (ks : List Kind) (es : ExprTrees)
      → Brings n (arg_sites n sc plain ks es) (args_bring n (bares sc.vars) ks es)
  args_law n sc plain ks ExprTrees.no_exprs = refl
  args_law n sc plain ks (ExprTrees.more_exprs e es) =
      join n (expr_sites n sc (argument plain (first_kind ks)) e) (arg_sites n sc plain (other_kinds ks) es) _ _
      (expr_law n sc (argument plain (first_kind ks)) e) (args_law n sc plain (other_kinds ks) es)

  arms_law : (n : Names) (sc : Scope) (k : Kind) (before : List Name) (arms : ExprArmTrees)
      → Brings n (arm_sites n sc k before arms) (arms_bring n (bares sc.vars) k arms)
  arms_law n sc k before ExprArmTrees.no_expr_arms = refl
  arms_law n sc k before (ExprArmTrees.more_expr_arms (ExprArmTree.arm q e) arms) =
      join n (pattern_sites n sc.vars k before q ++ expr_sites n (with_pattern n sc k q) bool_whole e)
      (arm_sites n sc k (pattern_name q ∷ before) arms) _ _
      (join n (pattern_sites n sc.vars k before q) (expr_sites n (with_pattern n sc k q) bool_whole e) [] _
      (bound_nothing n sc.vars (pattern_vars q) (pattern_kinds n k (pattern_name q)))
      (expr_law n (with_pattern n sc k q) bool_whole e
      ∙ ap (λ vs. expr_brings n vs bool_whole.asked e)
      (bares_bound sc.vars (pattern_vars q) (pattern_kinds n k (pattern_name q)))))
      (arms_law n sc k (pattern_name q ∷ before) arms)

  access_law : (n : Names) (sc : Scope) (a : AccessTree) → Brings n (access_sites n sc a) (access_brings n (bares sc.vars) a)
  access_law n sc (AccessTree.path x steps args) =
      join n (step_sites n sc (way_from n (find_var sc.vars (text_of x)) x) steps)
      (given_sites n sc (args_of n (access_of n sc.vars (AccessTree.path x steps args))) args) _ _
      (steps_law n sc (way_from n (find_var sc.vars (text_of x)) x) steps
      ∙ ap (λ way. steps_bring n (bares sc.vars) way steps) (sym (way_bare n sc.vars x)))
      (given_law n sc (args_of n (access_of n sc.vars (AccessTree.path x steps args))) args
      ∙ ap (λ ks. given_brings n (bares sc.vars) ks args) (sym (args_bare n sc.vars (AccessTree.path x steps args))))

  steps_law : (n : Names) (sc : Scope) (way : Way) (steps : StepTrees) → Brings n (step_sites n sc way steps)
      (steps_bring n (bares sc.vars) way steps)
  steps_law n sc way StepTrees.no_steps = refl
  steps_law n sc way (StepTrees.more_steps s steps) =
      join n (key_sites n sc way s) (step_sites n sc (stepped n way s) steps) _ _ (key_law n sc way s)
      (steps_law n sc (stepped n way s) steps)

  key_law : (n : Names) (sc : Scope) (way : Way) (s : StepTree) → Brings n (key_sites n sc way s)
      (key_brings n (bares sc.vars) way s)
  key_law n sc way (StepTree.dot x) = refl
  key_law n sc way (StepTree.returned at) = refl
  key_law n sc way (StepTree.key e) = expr_law n sc (argument true (key_kind n way)) e

  given_law : (n : Names) (sc : Scope) (ks : List Kind) (args : ArgTrees) → Brings n (given_sites n sc ks args)
      (given_brings n (bares sc.vars) ks args)
  given_law n sc ks ArgTrees.absent = refl
  given_law n sc ks (ArgTrees.given es) = args_law n sc true ks es

-- # Variables behind statements

abbrev vars_in : Sight → List Var
vars_in g = bares g.vars

mutual
  behind_law : (n : Names) (g : Sight) (s : StmtTree) → vars_in (after n g s) ≡ vars_behind n (vars_in g) s
  behind_law n g (StmtTree.node at (StmtForm.var x t e)) = bares_more g.vars _
  behind_law n g (StmtTree.node at (StmtForm.new x t)) = bares_given (text_of x) g.vars
  behind_law n g (StmtTree.node at (StmtForm.assign x e)) = bares_given (text_of x) g.vars
  behind_law n g (StmtTree.node at (StmtForm.access a)) = refl
  behind_law n g (StmtTree.node at (StmtForm.if_ e b other)) =
      let rest = else_behind n g other in bares_both _ _ _ rest.0 (block_behind n g b) rest.1
  behind_law n g (StmtTree.node at (StmtForm.match e arms)) = arms_behind n g _ arms
  behind_law n g (StmtTree.node at (StmtForm.atomic b)) = block_behind n g b
  behind_law n g (StmtTree.node at (StmtForm.assert e)) = refl
  behind_law n g (StmtTree.node at (StmtForm.return e)) = bares_dead g.vars

  stmts_behind_law : (n : Names) (g : Sight) (stmts : StmtTrees) → vars_in (after_stmts n g stmts)
      ≡ stmts_behind n (vars_in g) stmts
  stmts_behind_law n g StmtTrees.no_stmts = refl
  stmts_behind_law n g (StmtTrees.more_stmts s stmts) =
      stmts_behind_law n (after n g s) stmts ∙ ap (λ vs. stmts_behind n vs stmts) (behind_law n g s)

  block_behind : (n : Names) (g : Sight) (b : BlockTree) → vars_in (after_block n g b) ≡ vars_in g
  block_behind n g (BlockTree.block at stmts) =
      let more = behind_more n (vars_in g) stmts in
      bares_left g.vars (after_stmts n g stmts).vars more.0 (stmts_behind_law n g stmts ∙ more.1)

  else_behind : (n : Names) (g : Sight) (other : ElseTree) → (more : List Var) × (vars_in (after_else n g other) ≡ vars_in g
      ++ more)
  else_behind n g ElseTree.no_else = ([], sym (append-nil (vars_in g)))
  else_behind n g (ElseTree.else_block b) = ([], block_behind n g b ∙ sym (append-nil (vars_in g)))
  else_behind n g (ElseTree.else_if s) = let more = one_more n (vars_in g) s in (more.0, behind_law n g s ∙ more.1)

  arms_behind : (n : Names) (g : Sight) (k : Kind) (arms : BlockArmTrees) → vars_in (after_arms n g k arms) ≡ vars_in g
  arms_behind n g k BlockArmTrees.no_block_arms = bares_dead g.vars
  arms_behind n g k (BlockArmTrees.more_block_arms one arms) =
      bares_both _ _ _ [] (arm_behind n g k one) (arms_behind n g k arms ∙ sym (append-nil (vars_in g)))

  arm_behind : (n : Names) (g : Sight) (k : Kind) (arm : BlockArmTree) → vars_in (after_arm n g k arm) ≡ vars_in g
  arm_behind n g k (BlockArmTree.arm q b) =
      let more = bound_more (bares g.vars) (pattern_vars q) (pattern_kinds n k (pattern_name q)) in
      bares_left g.vars (after_block n (in_pattern n g k q) b).vars more.0
      (block_behind n (in_pattern n g k q) b
      ∙ bares_bound g.vars (pattern_vars q) (pattern_kinds n k (pattern_name q)) ∙ more.1)

-- # Statements

value_law : (n : Names) (sc : Scope) (w : Want) (k : Kind) (e : Option ExprTree) → w.asked ≡ Some k
    → Brings n (value_sites n sc w e) (value_brings n (bares sc.vars) k e)
value_law n sc w k None asked = refl
value_law n sc w k (Some e) asked = expr_law n sc w e ∙ ap (λ o. expr_brings n (bares sc.vars) o e) asked

variable_law : (n : Names) (f : Frame) (g : Sight) (x : Ident) (t : TypeTree) (e : Option ExprTree)
    → Brings n (stmt_sites.var_sites n f g x t e) (parts n (kind_of n t) ++ value_brings n (with_variable n (bares g.vars) x t)
    (kind_of n t) e)
variable_law n f g x t e =
    ap (λ z. parts n (kind_of n t) ++ z)
    (value_law n (scope_in f (with_declared n g false x t)) (asks 23 (kind_of n t)) (kind_of n t) e refl
    ∙ ap (λ vs. value_brings n vs (kind_of n t) e) (bares_more g.vars _))

mutual
  pub stmt_law : (n : Names) (f : Frame) (g : Sight) (last : Bool) (s : StmtTree)
      → Brings n (stmt_sites.stmt_sites n f g last s) (stmt_brings n (bares g.vars) (result_kind f.result) s)
  stmt_law n f g last (StmtTree.node at (StmtForm.var x t e)) = variable_law n f g x t e
  stmt_law n f g last (StmtTree.node at (StmtForm.new x t)) = refl
  stmt_law n f g last (StmtTree.node at (StmtForm.assign x e)) =
      expr_law n (scope_in f g) (value_for (find_var g.vars (text_of x))) e ∙ ap (λ k. expr_brings n (bares g.vars) (Some k) e)
      (sym (var_bare g.vars (text_of x)))
  stmt_law n f g last (StmtTree.node at (StmtForm.access a)) = access_law n (scope_in f g) a
  stmt_law n f g last (StmtTree.node at (StmtForm.if_ e b other)) =
      join n (expr_sites n (scope_in f g) bool_whole e ++ stmt_sites.block_sites n f g b) (stmt_sites.else_sites n f g other) _ _
      (join n (expr_sites n (scope_in f g) bool_whole e) (stmt_sites.block_sites n f g b) _ _
      (expr_law n (scope_in f g) bool_whole e) (block_law n f g b))
      (else_law n f g other)
  stmt_law n f g last (StmtTree.node at (StmtForm.match e arms)) =
      join n (expr_sites n (scope_in f g) matched e)
      (Site.arms (word_at (codes "match") at) (type_of n g.vars None e) (stmt_sites.arm_names arms)
      ∷ stmt_sites.arm_sites n f g (type_of n g.vars None e) [] arms) _ _
      (expr_law n (scope_in f g) matched e)
      (block_arms_law n f g (type_of n g.vars None e) [] arms
      ∙ ap (λ k. block_arms_bring n (bares g.vars) (result_kind f.result) k arms) (sym (type_bare n g.vars None e)))
  stmt_law n f g last (StmtTree.node at (StmtForm.atomic b)) = block_law n (record f { inside_atomic = true }) g b
  stmt_law n f g last (StmtTree.node at (StmtForm.assert e)) = expr_law n (scope_in f g) bool_whole e
  stmt_law n f g last (StmtTree.node at (StmtForm.return e)) =
      value_law n (scope_in f g) (asks 23 (result_kind f.result)) (result_kind f.result) e refl

  stmts_law : (n : Names) (f : Frame) (g : Sight) (stmts : StmtTrees)
      → Brings n (stmt_sites.stmts_sites n f g stmts) (stmts_bring n (bares g.vars) (result_kind f.result) stmts)
  stmts_law n f g StmtTrees.no_stmts = refl
  stmts_law n f g (StmtTrees.more_stmts s stmts) =
      join n (stmt_sites.stmt_sites n (before_stmts f stmts) g (is_last stmts) s)
      (stmt_sites.stmts_sites n f (after n g s) stmts) _ _
      (stmt_law n (before_stmts f stmts) g (is_last stmts) s)
      (stmts_law n f (after n g s) stmts
      ∙ ap (λ vs. stmts_bring n vs (result_kind f.result) stmts) (behind_law n g s))

  pub block_law : (n : Names) (f : Frame) (g : Sight) (b : BlockTree)
      → Brings n (stmt_sites.block_sites n f g b) (block_brings n (bares g.vars) (result_kind f.result) b)
  block_law n f g (BlockTree.block at stmts) = stmts_law n f g stmts

  else_law : (n : Names) (f : Frame) (g : Sight) (other : ElseTree)
      → Brings n (stmt_sites.else_sites n f g other) (else_brings n (bares g.vars) (result_kind f.result) other)
  else_law n f g ElseTree.no_else = refl
  else_law n f g (ElseTree.else_block b) = block_law n f g b
  else_law n f g (ElseTree.else_if s) = stmt_law n f g true s

  block_arms_law : (n : Names) (f : Frame) (g : Sight) (k : Kind) (before : List Name) (arms : BlockArmTrees)
      → Brings n (stmt_sites.arm_sites n f g k before arms) (block_arms_bring n (bares g.vars) (result_kind f.result) k arms)
  block_arms_law n f g k before BlockArmTrees.no_block_arms = refl
  block_arms_law n f g k before (BlockArmTrees.more_block_arms (BlockArmTree.arm q b) arms) =
      join n (pattern_sites n g.vars k before q ++ stmt_sites.block_sites n f (in_pattern n g k q) b)
      (stmt_sites.arm_sites n f g k (pattern_name q ∷ before) arms) _ _
      (join n (pattern_sites n g.vars k before q) (stmt_sites.block_sites n f (in_pattern n g k q) b) [] _
      (bound_nothing n g.vars (pattern_vars q) (pattern_kinds n k (pattern_name q)))
      (block_law n f (in_pattern n g k q) b
      ∙ ap (λ vs. block_brings n vs (result_kind f.result) b)
      (bares_bound g.vars (pattern_vars q) (pattern_kinds n k (pattern_name q)))))
      (block_arms_law n f g k (pattern_name q ∷ before) arms)

-- # Declarations

named_nothing : (n : Names) (before : List Name) (xs : List Ident) → Brings n (named_all before xs) []
named_nothing n before [] = refl
named_nothing n before (x ∷ xs) = named_nothing n (text_of x ∷ before) xs

declares_nothing : (n : Names) (vs : List Var) (params : List ParamTree) → Brings n (declares_all n vs params) []
declares_nothing n vs [] = refl
declares_nothing n vs (p ∷ params) = declares_nothing n (vs ++ param_var n p ∷ []) params

written_law : (n : Names) (k : ℕ) (r : Role) (params : List ParamTree) → Brings n (written_all k r params)
    (params_bring n params)
written_law n k r [] = refl
written_law n k r (p ∷ params) = ap (λ z. parts n (kind_of n (param_type p)) ++ z) (written_law n k r params)

params_law : (n : Names) (k : ℕ) (r : Role) (params : List ParamTree) → Brings n (param_sites n k r params)
    (params_bring n params)
params_law n k r params =
    join n (named_all [] (map param_name params) ++ declares_all n [] params) (written_all k r params) [] (params_bring n params)
    (join n (named_all [] (map param_name params)) (declares_all n [] params) [] [] (named_nothing n [] (map param_name params))
    (declares_nothing n [] params))
    (written_law n k r params)

params_bare : (n : Names) (params : List ParamTree) → bares (param_vars n params) ≡ param_vars n params
params_bare n [] = refl
params_bare n (p ∷ params) = ap (λ vs. param_var n p ∷ vs) (params_bare n params)

result_law : (n : Names) (k : ℕ) (t : Option TypeTree) → Brings n (result_sites k t) (result_brings n t)
result_law n k None = refl
result_law n k (Some t) = append-nil (parts n (kind_of n t))

decl_law : (n : Names) (k type : ℕ) (form : DeclForm) → decl_kinds n k type form ≡ decl_brings n type form
decl_law n k type (DeclForm.id_type x) = refl
decl_law n k type (DeclForm.opaque x) = refl
decl_law n k type (DeclForm.datatype x cons) = refl
decl_law n k type (DeclForm.crdt x c) = refl
decl_law n k type (DeclForm.invariant x e) = expr_law n (scope_for n k true []) bool_whole e
decl_law n k type (DeclForm.query (QueryTree.query x params result body)) =
    join n (param_sites n k role.QueryParam params)
    (Site.written k role.QueryResult result ∷ expr_sites n (scope_for n k true params) (asks 21 (kind_of n result)) body) _ _
    (params_law n k role.QueryParam params)
    (ap (λ z. parts n (kind_of n result) ++ z)
    (expr_law n (scope_for n k true params) (asks 21 (kind_of n result)) body
    ∙ ap (λ vs. expr_brings n vs (Some (kind_of n result)) body) (params_bare n params)))
    ∙ sym (append_assoc (params_bring n params) (parts n (kind_of n result)) _)
decl_law n k type (DeclForm.proc (ProcTree.proc x params result body)) =
    join n (param_sites n k role.Variable params ++ result_sites k result ++ stmt_sites.block_sites n (frame_for n k result)
    (sight_for n params) body)
    (Site.closes (after_block n (sight_for n params) body).live (is_there result) (brace_of body) ∷ []) _ []
    (join n (param_sites n k role.Variable params ++ result_sites k result)
    (stmt_sites.block_sites n (frame_for n k result) (sight_for n params) body) _ _
    (join n (param_sites n k role.Variable params) (result_sites k result) _ _ (params_law n k role.Variable params)
    (result_law n k result))
    (block_law n (frame_for n k result) (sight_for n params) body
    ∙ ap (λ vs. block_brings n vs (result_kind (option_map (kind_of n) result)) body) (params_bare n params)))
    refl
    ∙ append-nil (proc_brings n (ProcTree.proc x params result body))

counted : (k : ℕ) (at : Span) (form : DeclForm) → length (types_in k (DeclTree.node at form)) ≡ type_count form
counted k at (DeclForm.id_type x) = refl
counted k at (DeclForm.opaque x) = refl
counted k at (DeclForm.datatype x cons) = refl
counted k at (DeclForm.crdt x c) = refl
counted k at (DeclForm.query q) = refl
counted k at (DeclForm.invariant x e) = refl
counted k at (DeclForm.proc q) = refl

pub from_law : (n : Names) (k type : ℕ) (ds : List DeclTree) → kinds_from n k type ds ≡ decls_bring n type ds
from_law n k type [] = refl
from_law n k type (DeclTree.node at form ∷ ds) =
    ap (λ z. z ++ kinds_from n (k + 1) (type + length (types_in k (DeclTree.node at form))) ds) (decl_law n k type form)
    ∙ ap (λ many. decl_brings n type form ++ kinds_from n (k + 1) (type + many) ds) (counted k at form)
    ∙ ap (λ z. decl_brings n type form ++ z) (from_law n (k + 1) (type + type_count form) ds)
