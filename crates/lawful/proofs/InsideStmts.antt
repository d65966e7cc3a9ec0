-- The places of a procedure stand in its declaration, and calls may be spoken of at none of them.
use Rattle.std.proofs.Common.{◌≡◌, ℕ, Bool, true, false, List, [], ◌∷◌, ◌++◌, Option, Some, None, refl}
use Rattle.rp_span.specs.declared.Span.{Span}
use Rattle.rp_grammar.specs.Trees.{Ident, TypeTree, ParamTree, ExprTree, AccessTree, BlockTree, StmtTree, StmtForm, StmtTrees, ElseTree, BlockArmTree, BlockArmTrees, ProcTree}
use Rattle.type_rules.specs.declared.kind.Kind.{Kind}
use Rattle.type_rules.specs.declared.role.Role.{Role}
use Rattle.type_rules.specs.Names.{Name, Names}
use Rattle.type_rules.specs.Accesses.{Var}
use Rattle.type_rules.specs.Queries.{param_var}
use Rattle.type_rules.specs.Sites.{Scope, Want}
use Rattle.type_rules.specs.ExprSites.{access_sites}
use Rattle.type_rules.specs.Flow.{Sight, after, with_declared, in_pattern}
use Rattle.type_rules.specs.StmtSites.{Frame, scope_in, before_stmts, is_last, value_sites, stmt_sites, stmt_form_sites, stmts_sites, block_sites, else_sites, arm_sites}
use Rattle.type_rules.specs.DeclSites.{named_all, written_all, declares_all, param_sites, result_sites, frame_for, sight_for, proc_sites}
use Rattle.lawful.proofs.Inside.{IsInside, AllInside, join, bound_inside, inside, steps_inside, given_inside}

module _ (decl : ℕ) where
  -- # Places that are no expressions

  named_inside : (before : List Name) (xs : List Ident) → AllInside decl false (named_all before xs)
  named_inside before [] = tt
  named_inside before (x ∷ xs) = (tt, named_inside _ xs)

  written_inside : (k : ℕ) (r : Role) (params : List ParamTree) → AllInside decl false (written_all k r params)
  written_inside k r [] = tt
  written_inside k r (p ∷ params) = (tt, written_inside k r params)

  declares_inside : (n : Names) (vs : List Var) (params : List ParamTree) → AllInside decl false (declares_all n vs params)
  declares_inside n vs [] = tt
  declares_inside n vs (p ∷ params) = (tt, declares_inside n (vs ++ param_var n p ∷ []) params)

  params_inside : (n : Names) (k : ℕ) (r : Role) (params : List ParamTree) → AllInside decl false (param_sites n k r params)
  params_inside n k r params = join decl false _ _ (join decl false _ _ (named_inside [] _) (declares_inside n [] params)) (written_inside k r params)

  result_inside : (k : ℕ) (t : Option TypeTree) → AllInside decl false (result_sites k t)
  result_inside k None = tt
  result_inside k (Some t) = (tt, tt)

  -- # Statements

  value_inside : (n : Names) (sc : Scope) (w : Want) (e : Option ExprTree) → IsInside decl false sc → AllInside decl false (value_sites n sc w e)
  value_inside n sc w None h = tt
  value_inside n sc w (Some e) h = inside decl false n sc w e h

  access_inside : (n : Names) (sc : Scope) (a : AccessTree) → IsInside decl false sc → AllInside decl false (access_sites n sc a)
  access_inside n sc (AccessTree.path x steps args) h =
      join decl false _ _ (steps_inside decl false n sc _ steps h) (given_inside decl false n sc _ args h)

  mutual
    stmt_inside : (n : Names) (f : Frame) (g : Sight) (last : Bool) (s : StmtTree) → f.decl ≡ decl → AllInside decl false (stmt_sites n f g last s)
    stmt_inside n f g last (StmtTree.node at form) h = form_inside n f g last at form h

    form_inside : (n : Names) (f : Frame) (g : Sight) (last : Bool) (at : Span) (form : StmtForm) → f.decl ≡ decl
        → AllInside decl false (stmt_form_sites n f g last at form)
    form_inside n f g last at (StmtForm.var x t e) h = (tt, (tt, value_inside n (scope_in f (with_declared n g false x t)) _ e (h, refl)))
    form_inside n f g last at (StmtForm.new x t) h = (tt, (tt, tt))
    form_inside n f g last at (StmtForm.assign x e) h = (tt, inside decl false n (scope_in f g) _ e (h, refl))
    form_inside n f g last at (StmtForm.access a) h = ((h, refl), access_inside n (scope_in f g) a (h, refl))
    form_inside n f g last at (StmtForm.if_ e b other) h =
        join decl false _ _ (join decl false _ _ (inside decl false n (scope_in f g) _ e (h, refl)) (block_inside n f g b h)) (else_inside n f g other h)
    form_inside n f g last at (StmtForm.match e arms) h =
        join decl false _ _ (inside decl false n (scope_in f g) _ e (h, refl)) (tt, arms_inside n f g _ [] arms h)
    form_inside n f g last at (StmtForm.atomic b) h = (tt, block_inside n (record f { inside_atomic = true }) g b h)
    form_inside n f g last at (StmtForm.assert e) h = inside decl false n (scope_in f g) _ e (h, refl)
    form_inside n f g last at (StmtForm.return e) h = (tt, value_inside n (scope_in f g) _ e (h, refl))

    stmts_inside : (n : Names) (f : Frame) (g : Sight) (stmts : StmtTrees) → f.decl ≡ decl → AllInside decl false (stmts_sites n f g stmts)
    stmts_inside n f g StmtTrees.no_stmts h = tt
    stmts_inside n f g (StmtTrees.more_stmts s stmts) h =
        join decl false _ _ (stmt_inside n (before_stmts f stmts) g (is_last stmts) s h) (stmts_inside n f (after n g s) stmts h)

    block_inside : (n : Names) (f : Frame) (g : Sight) (b : BlockTree) → f.decl ≡ decl → AllInside decl false (block_sites n f g b)
    block_inside n f g (BlockTree.block at stmts) h = stmts_inside n f g stmts h

    else_inside : (n : Names) (f : Frame) (g : Sight) (other : ElseTree) → f.decl ≡ decl → AllInside decl false (else_sites n f g other)
    else_inside n f g ElseTree.no_else h = tt
    else_inside n f g (ElseTree.else_block b) h = block_inside n f g b h
    else_inside n f g (ElseTree.else_if s) h = stmt_inside n f g true s h

    arms_inside : (n : Names) (f : Frame) (g : Sight) (k : Kind) (before : List Name) (arms : BlockArmTrees) → f.decl ≡ decl
        → AllInside decl false (arm_sites n f g k before arms)
    arms_inside n f g k before BlockArmTrees.no_block_arms h = tt
    arms_inside n f g k before (BlockArmTrees.more_block_arms (BlockArmTree.arm q b) arms) h = (
      tt,
      join decl false _ _ (join decl false _ _ (bound_inside decl false _ _ _) (block_inside n f (in_pattern n g k q) b h))
          (arms_inside n f g k _ arms h),
    )

  -- # Procedures

  pub proc_inside : (n : Names) (q : ProcTree) → AllInside decl false (proc_sites n decl q)
  proc_inside n (ProcTree.proc x params result body) =
      join decl false _ _ (join decl false _ _ (join decl false _ _ (params_inside n decl _ params) (result_inside decl result))
      (block_inside n (frame_for n decl result) (sight_for n params) body refl)) (tt, tt)
