-- The numbers at the places of an expression fit, where those of its tree do. What holds of the terminals of a text holds of the parts of its tree.
use Rattle.std.proofs.Common.{◌≡◌, ◌≤◌, ℕ, suc, pos, negsuc, Bool, true, List, [], ◌∷◌, ◌++◌, refl, arith}
use Rattle.std.specs.List.{AllByRecursion}
use Rattle.rp_span.specs.declared.Span.{Span}
use Rattle.rp_grammar.specs.Bytes.{greatest}
use Rattle.rp_grammar.specs.Terminals.{Terminal, int}
use Rattle.rp_grammar.specs.Trees.{Ident, ExprTree, ExprForm, ExprTrees, ExprArmTree, ExprArmTrees, AccessTree, StepTree, StepTrees, ArgTrees}
use Rattle.rp_lang.specs.Typing.{is_word}
use Rattle.rp_grammar.proofs.Formed.{FormedExpr, FormedForm, FormedChain, FormedExprs, FormedArms, FormedSteps, FormedStep, FormedArgs}
use Rattle.type_rules.specs.declared.kind.Kind.{Kind}
use Rattle.type_rules.specs.Names.{Name, Names}
use Rattle.type_rules.specs.Paths.{Way}
use Rattle.type_rules.specs.Accesses.{Var}
use Rattle.type_rules.specs.Sites.{Scope, Want, Site}
use Rattle.type_rules.specs.Matches.{bound_sites}
use Rattle.type_rules.specs.ExprSites.{expr_sites, operand_sites, arg_sites, arm_sites, step_sites, key_sites, given_sites}
use Rattle.lawful.specs.Kept.{has_number}
use Rattle.lawful.proofs.Places.{all_both}

-- # Numbers

plain_fits : (i : ℕ) → i ≤ greatest → is_word (pos i) ≡ true
plain_fits i e = grind arith

negative_fits : (i : ℕ) → suc i ≤ greatest → is_word (negsuc i) ≡ true
negative_fits i e = grind arith

-- # Places

abbrev pub AllNumbers : List Site → Type 0
AllNumbers ss = AllByRecursion (λ s. has_number s ≡ true) ss

pub join : (ss rs : List Site) → AllNumbers ss → AllNumbers rs → AllNumbers (ss ++ rs)
join ss rs a b = all_both (λ s. has_number s ≡ true) ss rs a b

pub bound_numbers : (vs : List Var) (xs : List Ident) (ks : List Kind) → AllNumbers (bound_sites vs xs ks)
bound_numbers vs [] ks = tt
bound_numbers vs (x ∷ xs) ks = (refl, bound_numbers _ xs _)

-- # Expressions whose terminals are of a kind

module _ (L : Terminal → Type 0) (fit : (i : ℕ) → L (int i) → i ≤ greatest) where
  mutual
    pub numbers : (n : Names) (sc : Scope) (w : Want) (e : ExprTree) → FormedExpr L e → AllNumbers (expr_sites n sc w e)
    numbers n sc w (ExprTree.node at form) h = form_numbers n sc w at form h

    form_numbers : (n : Names) (sc : Scope) (w : Want) (at : Span) (form : ExprForm) → FormedForm L form
        → AllNumbers (expr_sites n sc w (ExprTree.node at form))
    form_numbers n sc w at (ExprForm.implies a b) h = (refl, join _ _ (numbers n _ _ a h.0) (numbers n _ _ b h.1))
    form_numbers n sc w at (ExprForm.or es) h = (refl, chain_numbers n sc es h)
    form_numbers n sc w at (ExprForm.and es) h = (refl, chain_numbers n sc es h)
    form_numbers n sc w at (ExprForm.not e) h = (refl, numbers n _ _ e h)
    form_numbers n sc w at (ExprForm.forall q e) h = (refl, (refl, (refl, numbers n _ _ e h.1)))
    form_numbers n sc w at (ExprForm.exists q e) h = (refl, (refl, (refl, numbers n _ _ e h.1)))
    form_numbers n sc w at (ExprForm.compare c a b) h = (refl, join _ _ (numbers n _ _ a h.0) (numbers n _ _ b h.1))
    form_numbers n sc w at (ExprForm.plus a b) h = (refl, join _ _ (numbers n _ _ a h.0) (numbers n _ _ b h.1))
    form_numbers n sc w at (ExprForm.minus a b) h = (refl, join _ _ (numbers n _ _ a h.0) (numbers n _ _ b h.1))
    form_numbers n sc w at (ExprForm.int (pos i)) h = (plain_fits i (fit i h), tt)
    form_numbers n sc w at (ExprForm.int (negsuc i)) h = (negative_fits i (fit (suc i) h), tt)
    form_numbers n sc w at (ExprForm.str bytes) h = (refl, tt)
    form_numbers n sc w at (ExprForm.truth b) h = (refl, tt)
    form_numbers n sc w at ExprForm.none_word h = (refl, tt)
    form_numbers n sc w at (ExprForm.some_of e) h = (refl, numbers n _ _ e h)
    form_numbers n sc w at ExprForm.unreturned h = (refl, tt)
    form_numbers n sc w at ExprForm.tx h = (refl, tt)
    form_numbers n sc w at (ExprForm.call word ExprTrees.no_exprs) h = absurd h
    form_numbers n sc w at (ExprForm.call word (ExprTrees.more_exprs e es)) h =
        (refl, join _ _ (numbers n _ _ e h.0) (arg_numbers n sc _ _ es h.1))
    form_numbers n sc w at (ExprForm.match e ExprArmTrees.no_expr_arms) h = absurd h
    form_numbers n sc w at (ExprForm.match e (ExprArmTrees.more_expr_arms (ExprArmTree.arm q first) arms)) h = (
      refl,
      join _ _ (numbers n _ _ e h.0)
          (refl, (refl, join _ _ (join _ _ (bound_numbers _ _ _) (numbers n _ _ first h.1.1)) (arm_numbers n sc _ _ arms h.2))),
    )
    form_numbers n sc w at (ExprForm.access (AccessTree.path x steps args)) h =
        (refl, join _ _ (step_numbers n sc _ steps h.1) (given_numbers n sc _ args h.2))

    chain_numbers : (n : Names) (sc : Scope) (es : ExprTrees) → FormedChain L es → AllNumbers (operand_sites n sc es)
    chain_numbers n sc ExprTrees.no_exprs h = absurd h
    chain_numbers n sc (ExprTrees.more_exprs e ExprTrees.no_exprs) h = absurd h.1
    chain_numbers n sc (ExprTrees.more_exprs e (ExprTrees.more_exprs d es)) h =
        join _ _ (numbers n _ _ e h.0) (join _ _ (numbers n _ _ d h.1.0) (operand_numbers n sc es h.1.1))

    operand_numbers : (n : Names) (sc : Scope) (es : ExprTrees) → FormedExprs L es → AllNumbers (operand_sites n sc es)
    operand_numbers n sc ExprTrees.no_exprs h = tt
    operand_numbers n sc (ExprTrees.more_exprs e es) h = join _ _ (numbers n _ _ e h.0) (operand_numbers n sc es h.1)

    arg_numbers : (n : Names) (sc : Scope) (plain : Bool) (ks : List Kind) (es : ExprTrees) → FormedExprs L es → AllNumbers (arg_sites n sc plain ks es)
    arg_numbers n sc plain ks ExprTrees.no_exprs h = tt
    arg_numbers n sc plain ks (ExprTrees.more_exprs e es) h = join _ _ (numbers n _ _ e h.0) (arg_numbers n sc plain _ es h.1)

    arm_numbers : (n : Names) (sc : Scope) (k : Kind) (before : List Name) (arms : ExprArmTrees) → FormedArms L arms → AllNumbers (arm_sites n sc k before arms)
    arm_numbers n sc k before ExprArmTrees.no_expr_arms h = tt
    arm_numbers n sc k before (ExprArmTrees.more_expr_arms (ExprArmTree.arm q e) arms) h =
        (refl, join _ _ (join _ _ (bound_numbers _ _ _) (numbers n _ _ e h.0.1)) (arm_numbers n sc k _ arms h.1))

    pub step_numbers : (n : Names) (sc : Scope) (way : Way) (steps : StepTrees) → FormedSteps L steps → AllNumbers (step_sites n sc way steps)
    step_numbers n sc way StepTrees.no_steps h = tt
    step_numbers n sc way (StepTrees.more_steps s steps) h = join _ _ (key_numbers n sc way s h.0) (step_numbers n sc _ steps h.1)

    key_numbers : (n : Names) (sc : Scope) (way : Way) (s : StepTree) → FormedStep L s → AllNumbers (key_sites n sc way s)
    key_numbers n sc way (StepTree.dot x) h = tt
    key_numbers n sc way (StepTree.returned at) h = tt
    key_numbers n sc way (StepTree.key e) h = numbers n _ _ e h

    pub given_numbers : (n : Names) (sc : Scope) (ks : List Kind) (args : ArgTrees) → FormedArgs L args → AllNumbers (given_sites n sc ks args)
    given_numbers n sc ks ArgTrees.absent h = tt
    given_numbers n sc ks (ArgTrees.given es) h = arg_numbers n sc _ _ es h
