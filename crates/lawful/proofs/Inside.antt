-- The places of an expression stand in its declaration, and calls may be spoken of at all of them or at none.
use Rattle.std.proofs.Common.{◌≡◌, ℕ, Bool, List, [], ◌∷◌, ◌++◌}
use Rattle.std.specs.List.{AllByRecursion}
use Rattle.rp_span.specs.declared.Span.{Span}
use Rattle.rp_grammar.specs.Trees.{Ident, ExprTree, ExprForm, ExprTrees, ExprArmTree, ExprArmTrees, AccessTree, StepTree, StepTrees, ArgTrees}
use Rattle.type_rules.specs.declared.kind.Kind.{Kind}
use Rattle.type_rules.specs.Names.{Name, Names}
use Rattle.type_rules.specs.Paths.{Way, stepped}
use Rattle.type_rules.specs.Accesses.{Var}
use Rattle.type_rules.specs.Sites.{Scope, Want, Site}
use Rattle.type_rules.specs.Matches.{bound_sites}
use Rattle.type_rules.specs.ExprSites.{expr_sites, operand_sites, arg_sites, arm_sites, step_sites, key_sites, given_sites, with_var, quantified_var, with_pattern}
use Rattle.lawful.proofs.Places.{all_both}

abbrev pub IsInside : ℕ → Bool → Scope → Type 0
IsInside decl speaks sc = (sc.decl ≡ decl) × (sc.words ≡ speaks)

abbrev pub Inside : ℕ → Bool → Site → Type 0
Inside decl speaks (Site.place sc w e) = IsInside decl speaks sc
Inside decl speaks (Site.statement sc a) = IsInside decl speaks sc
Inside decl speaks _ = Unit {0}

abbrev pub AllInside : ℕ → Bool → List Site → Type 0
AllInside decl speaks ss = AllByRecursion (Inside decl speaks) ss

pub join : (decl : ℕ) (speaks : Bool) (ss rs : List Site) → AllInside decl speaks ss → AllInside decl speaks rs → AllInside decl speaks (ss ++ rs)
join decl speaks ss rs a b = all_both (Inside decl speaks) ss rs a b

pub bound_inside : (decl : ℕ) (speaks : Bool) (vs : List Var) (xs : List Ident) (ks : List Kind) → AllInside decl speaks (bound_sites vs xs ks)
bound_inside decl speaks vs [] ks = tt
bound_inside decl speaks vs (x ∷ xs) ks = (tt, bound_inside decl speaks _ xs _)

module _ (decl : ℕ) (speaks : Bool) where
  mutual
    pub inside : (n : Names) (sc : Scope) (w : Want) (e : ExprTree) → IsInside decl speaks sc → AllInside decl speaks (expr_sites n sc w e)
    inside n sc w (ExprTree.node at form) h = form_inside n sc w at form h

    form_inside : (n : Names) (sc : Scope) (w : Want) (at : Span) (form : ExprForm) → IsInside decl speaks sc
        → AllInside decl speaks (expr_sites n sc w (ExprTree.node at form))
    form_inside n sc w at (ExprForm.implies a b) h = (h, join decl speaks _ _ (inside n sc _ a h) (inside n sc _ b h))
    form_inside n sc w at (ExprForm.or es) h = (h, operands_inside n sc es h)
    form_inside n sc w at (ExprForm.and es) h = (h, operands_inside n sc es h)
    form_inside n sc w at (ExprForm.not e) h = (h, inside n sc _ e h)
    form_inside n sc w at (ExprForm.forall q e) h = (h, (tt, (tt, inside n (with_var sc (quantified_var n q)) _ e h)))
    form_inside n sc w at (ExprForm.exists q e) h = (h, (tt, (tt, inside n (with_var sc (quantified_var n q)) _ e h)))
    form_inside n sc w at (ExprForm.compare c a b) h = (h, join decl speaks _ _ (inside n sc _ a h) (inside n sc _ b h))
    form_inside n sc w at (ExprForm.plus a b) h = (h, join decl speaks _ _ (inside n sc _ a h) (inside n sc _ b h))
    form_inside n sc w at (ExprForm.minus a b) h = (h, join decl speaks _ _ (inside n sc _ a h) (inside n sc _ b h))
    form_inside n sc w at (ExprForm.int i) h = (h, tt)
    form_inside n sc w at (ExprForm.str bytes) h = (h, tt)
    form_inside n sc w at (ExprForm.truth b) h = (h, tt)
    form_inside n sc w at ExprForm.none_word h = (h, tt)
    form_inside n sc w at (ExprForm.some_of e) h = (h, inside n sc _ e h)
    form_inside n sc w at ExprForm.unreturned h = (h, tt)
    form_inside n sc w at ExprForm.tx h = (h, tt)
    form_inside n sc w at (ExprForm.call word es) h = (h, args_inside n sc _ _ es h)
    form_inside n sc w at (ExprForm.match e arms) h = (h, join decl speaks _ _ (inside n sc _ e h) (tt, arms_inside n sc _ _ arms h))
    form_inside n sc w at (ExprForm.access (AccessTree.path x steps args)) h =
        (h, join decl speaks _ _ (steps_inside n sc _ steps h) (given_inside n sc _ args h))

    operands_inside : (n : Names) (sc : Scope) (es : ExprTrees) → IsInside decl speaks sc → AllInside decl speaks (operand_sites n sc es)
    operands_inside n sc ExprTrees.no_exprs h = tt
    operands_inside n sc (ExprTrees.more_exprs e es) h = join decl speaks _ _ (inside n sc _ e h) (operands_inside n sc es h)

    args_inside : (n : Names) (sc : Scope) (plain : Bool) (ks : List Kind) (es : ExprTrees) → IsInside decl speaks sc
        → AllInside decl speaks (arg_sites n sc plain ks es)
    args_inside n sc plain ks ExprTrees.no_exprs h = tt
    args_inside n sc plain ks (ExprTrees.more_exprs e es) h = join decl speaks _ _ (inside n sc _ e h) (args_inside n sc plain _ es h)

    arms_inside : (n : Names) (sc : Scope) (k : Kind) (before : List Name) (arms : ExprArmTrees) → IsInside decl speaks sc
        → AllInside decl speaks (arm_sites n sc k before arms)
    arms_inside n sc k before ExprArmTrees.no_expr_arms h = tt
    arms_inside n sc k before (ExprArmTrees.more_expr_arms (ExprArmTree.arm q e) arms) h = (
      tt,
      join decl speaks _ _ (join decl speaks _ _ (bound_inside decl speaks _ _ _) (inside n (with_pattern n sc k q) _ e h))
          (arms_inside n sc k _ arms h),
    )

    pub steps_inside : (n : Names) (sc : Scope) (way : Way) (steps : StepTrees) → IsInside decl speaks sc → AllInside decl speaks (step_sites n sc way steps)
    steps_inside n sc way StepTrees.no_steps h = tt
    steps_inside n sc way (StepTrees.more_steps s steps) h =
        join decl speaks _ _ (key_inside n sc way s h) (steps_inside n sc (stepped n way s) steps h)

    key_inside : (n : Names) (sc : Scope) (way : Way) (s : StepTree) → IsInside decl speaks sc → AllInside decl speaks (key_sites n sc way s)
    key_inside n sc way (StepTree.dot x) h = tt
    key_inside n sc way (StepTree.returned at) h = tt
    key_inside n sc way (StepTree.key e) h = inside n sc _ e h

    pub given_inside : (n : Names) (sc : Scope) (ks : List Kind) (args : ArgTrees) → IsInside decl speaks sc → AllInside decl speaks (given_sites n sc ks args)
    given_inside n sc ks ArgTrees.absent h = tt
    given_inside n sc ks (ArgTrees.given es) h = args_inside n sc _ _ es h
