-- The places of an expression are the same ones, whether or not calls may be spoken of there.
use Rattle.std.proofs.Common.{◌≡◌, Bool, true, List, [], ◌∷◌, ◌++◌, map, length, codes, None, refl, ap, ◌∙◌}
use Rattle.std.proofs.lemmas.List.{map-append}
use Rattle.rp_span.specs.declared.Span.{Span}
use Rattle.rp_grammar.specs.Trees.{Ident, ExprTree, ExprForm, ExprTrees, ExprArmTree, ExprArmTrees, AccessTree, StepTree, StepTrees, ArgTrees}
use Rattle.type_rules.specs.declared.kind.Kind.{Kind}
use Rattle.type_rules.specs.declared.role.Role.TheVariants as role
use Rattle.type_rules.specs.Names.{Name, Names, param_name, param_type}
use Rattle.type_rules.specs.Starts.{word_at}
use Rattle.type_rules.specs.Typing.{type_of}
use Rattle.type_rules.specs.Accesses.{Var}
use Rattle.type_rules.specs.Paths.{Way, stepped}
use Rattle.type_rules.specs.Sites.{Scope, Want, Site}
use Rattle.type_rules.specs.Matches.{pattern_con, pattern_name, pattern_vars, pattern_kinds, bound_sites, bound_var, first_kind, other_kinds}
use Rattle.type_rules.specs.ExprSites.{arm_names, expr_sites, form_sites, operand_sites, arg_sites, arm_sites, step_sites, key_sites, given_sites, with_pattern, with_var, quantified_var}

abbrev pub speaks : Scope → Scope
speaks sc = record sc { words = true }

-- the place, where calls may be spoken of
abbrev pub speaking : Site → Site
speaking (Site.place sc w e) = Site.place (speaks sc) w e
speaking s = s

abbrev pub Spoken : List Site → List Site → Type 0
Spoken ss rs = map speaking ss ≡ rs

join : (ss ts rs us : List Site) → Spoken ss rs → Spoken ts us → Spoken (ss ++ ts) (rs ++ us)
join ss ts rs us a b = map-append speaking ss ts ∙ ap (λ z. z ++ map speaking ts) a ∙ ap (λ z. rs ++ z) b

after : (r : Site) (ss rs : List Site) → Spoken ss rs → (r ∷ map speaking ss) ≡ r ∷ rs
after r ss rs is = ap (λ z. r ∷ z) is

bound_spoken : (vs : List Var) (xs : List Ident) (ks : List Kind) → Spoken (bound_sites vs xs ks) (bound_sites vs xs ks)
bound_spoken vs [] ks = refl
bound_spoken vs (x ∷ xs) ks = after (Site.declares vs x) _ _ (bound_spoken (vs ++ bound_var x (first_kind ks) ∷ []) xs (other_kinds ks))

mutual
  pub spoken : (n : Names) (sc : Scope) (w : Want) (e : ExprTree) → Spoken (expr_sites n sc w e) (expr_sites n (speaks sc) w e)
  spoken n sc w (ExprTree.node at form) = after (Site.place (speaks sc) w (ExprTree.node at form)) _ _ (form_spoken n sc w at form)

  form_spoken : (n : Names) (sc : Scope) (w : Want) (at : Span) (form : ExprForm) → Spoken (form_sites n sc w at form) (form_sites n (speaks sc) w at form)
  form_spoken n sc w at (ExprForm.implies a b) = join _ _ _ _ (spoken n sc _ a) (spoken n sc _ b)
  form_spoken n sc w at (ExprForm.or es) = operands_spoken n sc es
  form_spoken n sc w at (ExprForm.and es) = operands_spoken n sc es
  form_spoken n sc w at (ExprForm.not e) = spoken n sc _ e
  form_spoken n sc w at (ExprForm.forall q e) =
      ap (λ z. Site.declares sc.vars (param_name q) ∷ Site.written sc.decl role.Quantified (param_type q) ∷ z)
      (spoken n (with_var sc (quantified_var n q)) _ e)
  form_spoken n sc w at (ExprForm.exists q e) =
      ap (λ z. Site.declares sc.vars (param_name q) ∷ Site.written sc.decl role.Quantified (param_type q) ∷ z)
      (spoken n (with_var sc (quantified_var n q)) _ e)
  form_spoken n sc w at (ExprForm.compare c a b) = join _ _ _ _ (spoken n sc _ a) (spoken n sc _ b)
  form_spoken n sc w at (ExprForm.plus a b) = join _ _ _ _ (spoken n sc _ a) (spoken n sc _ b)
  form_spoken n sc w at (ExprForm.minus a b) = join _ _ _ _ (spoken n sc _ a) (spoken n sc _ b)
  form_spoken n sc w at (ExprForm.int i) = refl
  form_spoken n sc w at (ExprForm.str bytes) = refl
  form_spoken n sc w at (ExprForm.truth b) = refl
  form_spoken n sc w at ExprForm.none_word = refl
  form_spoken n sc w at (ExprForm.some_of e) = spoken n sc _ e
  form_spoken n sc w at ExprForm.unreturned = refl
  form_spoken n sc w at ExprForm.tx = refl
  form_spoken n sc w at (ExprForm.call word es) = args_spoken n sc _ _ es
  form_spoken n sc w at (ExprForm.match e arms) = join _ _ _ _ (spoken n sc _ e) (after (Site.arms (word_at (codes "match") at) (type_of n sc.vars None e) (arm_names arms)) _ _ (arms_spoken n sc _ _ arms))
  form_spoken n sc w at (ExprForm.access (AccessTree.path x steps args)) = join _ _ _ _ (steps_spoken n sc _ steps) (given_spoken n sc _ args)

  operands_spoken : (n : Names) (sc : Scope) (es : ExprTrees) → Spoken (operand_sites n sc es) (operand_sites n (speaks sc) es)
  operands_spoken n sc ExprTrees.no_exprs = refl
  operands_spoken n sc (ExprTrees.more_exprs e es) = join _ _ _ _ (spoken n sc _ e) (operands_spoken n sc es)

  args_spoken : (n : Names) (sc : Scope) (plain : Bool) (ks : List Kind) (es : ExprTrees) → Spoken (arg_sites n sc plain ks es) (arg_sites n (speaks sc) plain ks es)
  args_spoken n sc plain ks ExprTrees.no_exprs = refl
  args_spoken n sc plain ks (ExprTrees.more_exprs e es) = join _ _ _ _ (spoken n sc _ e) (args_spoken n sc plain _ es)

  arms_spoken : (n : Names) (sc : Scope) (k : Kind) (before : List Name) (arms : ExprArmTrees) → Spoken (arm_sites n sc k before arms) (arm_sites n (speaks sc) k before arms)
  arms_spoken n sc k before ExprArmTrees.no_expr_arms = refl
  arms_spoken n sc k before (ExprArmTrees.more_expr_arms (ExprArmTree.arm q e) arms) =
      after (Site.pattern k before (pattern_con q) (length (pattern_vars q))) _ _
      (join _ _ _ _ (join _ _ _ _ (bound_spoken sc.vars (pattern_vars q) (pattern_kinds n k (pattern_name q))) (spoken n (with_pattern n sc k q) _ e))
      (arms_spoken n sc k _ arms))

  steps_spoken : (n : Names) (sc : Scope) (way : Way) (steps : StepTrees) → Spoken (step_sites n sc way steps) (step_sites n (speaks sc) way steps)
  steps_spoken n sc way StepTrees.no_steps = refl
  steps_spoken n sc way (StepTrees.more_steps s steps) = join _ _ _ _ (key_spoken n sc way s) (steps_spoken n sc (stepped n way s) steps)

  key_spoken : (n : Names) (sc : Scope) (way : Way) (s : StepTree) → Spoken (key_sites n sc way s) (key_sites n (speaks sc) way s)
  key_spoken n sc way (StepTree.dot x) = refl
  key_spoken n sc way (StepTree.returned at) = refl
  key_spoken n sc way (StepTree.key e) = spoken n sc _ e

  given_spoken : (n : Names) (sc : Scope) (ks : List Kind) (args : ArgTrees) → Spoken (given_sites n sc ks args) (given_sites n (speaks sc) ks args)
  given_spoken n sc ks ArgTrees.absent = refl
  given_spoken n sc ks (ArgTrees.given es) = args_spoken n sc _ _ es
