-- Nor has one in a statement of a lawful text.
use Rattle.std.proofs.Common.{ℕ, zero, suc, Bool, true, false, cond, List, [], ◌∷◌, ◌++◌, map, length, take, Option, Some, None}
use Rattle.std.specs.List.{AllByRecursion}
use Rattle.rp_grammar.specs.Trees.{Ident, TypeTree, ParamTree, ExprTree, AccessTree, BlockTree, StmtTree, StmtForm, StmtTrees, ElseTree, BlockArmTree, BlockArmTrees, ProcTree, QueryTree}
use Rattle.type_rules.specs.declared.kind.Kind.{Kind}
use Rattle.type_rules.specs.declared.role.Role.{Role}
use Rattle.type_rules.specs.declared.role.Role.TheVariants as role
use Rattle.type_rules.specs.Names.{Name, Names, param_name, param_type, same_name}
use Rattle.type_rules.specs.Kinds.{kind_of}
use Rattle.type_rules.specs.Accesses.{Var}
use Rattle.type_rules.specs.Queries.{param_var, param_vars}
use Rattle.type_rules.specs.Typing.{type_of}
use Rattle.type_rules.specs.Sites.{Site}
use Rattle.type_rules.specs.Matches.{pattern_kinds, pattern_name, pattern_vars}
use Rattle.type_rules.specs.ExprSites.{asks, bool_whole, expr_sites, matched, pattern_sites}
use Rattle.type_rules.specs.Flow as flow
use Rattle.type_rules.specs.Flow.{Sight, after, after_arms, after_block, after_else, after_stmts, both, declared_var, give, with_declared, with_value}
use Rattle.type_rules.specs.StmtSites.{Frame, arm_sites, before_stmts, block_sites, else_sites, is_last, is_there, scope_in, stmt_sites, stmts_sites}
use Rattle.type_rules.specs.DeclSites.{declares_all, frame_for, invariant_sites, named_all, param_sites, proc_sites, query_sites, result_sites, scope_for, sight_for, written_all}
use Rattle.type_rules.specs.Starts.{brace_of}
use Rattle.lawful.proofs.Closed.{AllTypes, IsClosed, VarClosed, VarsClosed, bound_closed, given_types, join_types, pattern_closed, pattern_types, step_types, type_closed, types_closed, written_closed}
use Rattle.lawful.proofs.Places.{Lawfully, all_both, all_parts}

abbrev Laws : Names → List Site → Type 0
Laws n ss = AllByRecursion (Lawfully n) ss

-- # Variables in sight

give_closed : (x : Name) (vs : List Var) → VarsClosed vs → VarsClosed (give x vs)
give_closed x [] vars = tt
give_closed x (v ∷ vs) vars = by_name x v vs (same_name v.name x) vars (give_closed x vs vars.1) where
  by_name : (x : Name) (v : Var) (vs : List Var) (same : Bool) → VarsClosed (v ∷ vs) → VarsClosed (give x vs)
      → VarsClosed (cond same (with_value v ∷ vs) (v ∷ give x vs))
  by_name x v vs true vars rest = (vars.0, vars.1)
  by_name x v vs false vars rest = (vars.0, rest)

both_closed : (vs ws : List Var) → VarsClosed vs → VarsClosed (both vs ws)
both_closed [] ws vars = tt
both_closed (v ∷ vs) [] vars = tt
both_closed (v ∷ vs) (w ∷ ws) vars = (vars.0, both_closed vs ws vars.1)

dead_closed : (vs : List Var) → VarsClosed vs → VarsClosed (map with_value vs)
dead_closed [] vars = tt
dead_closed (v ∷ vs) vars = (vars.0, dead_closed vs vars.1)

take_closed : (m : ℕ) (vs : List Var) → VarsClosed vs → VarsClosed (take m vs)
take_closed zero vs vars = tt
take_closed (suc m) [] vars = tt
take_closed (suc m) (v ∷ vs) vars = (vars.0, take_closed m vs vars.1)

declared_there : (n : Names) (g : Sight) (set : Bool) (x : Ident) (t : TypeTree) → VarsClosed g.vars → VarsClosed (with_declared n g set x t).vars
declared_there n g set x t vars = all_both VarClosed g.vars _ vars (written_closed n t, tt)

-- # Statements

-- the places of a statement, and the variables behind it
abbrev Behind : Names → List Site → List Var → Type 0
Behind n ss vs = AllTypes n ss × VarsClosed vs

mutual
  stmt_types : (n : Names) (f : Frame) (g : Sight) (last : Bool) (s : StmtTree) → VarsClosed g.vars → Laws n (stmt_sites n f g last s)
      → Behind n (stmt_sites n f g last s) (after n g s).vars
  stmt_types n f g last (StmtTree.node at (StmtForm.var x t None)) vars laws = ((tt, (tt, tt)), declared_there n g false x t vars)
  stmt_types n f g last (StmtTree.node at (StmtForm.var x t (Some e))) vars laws =
      ((tt, (tt, types_closed n (scope_in f (with_declared n g false x t)) _ e (declared_there n g false x t vars) laws.1.1)), declared_there n g true x t vars)
  stmt_types n f g last (StmtTree.node at (StmtForm.new x t)) vars laws = ((tt, (tt, tt)), give_closed _ g.vars vars)
  stmt_types n f g last (StmtTree.node at (StmtForm.assign x e)) vars laws = ((tt, types_closed n (scope_in f g) _ e vars laws.1), give_closed _ g.vars vars)
  stmt_types n f g last (StmtTree.node at (StmtForm.access (AccessTree.path x steps args))) vars laws =
      let p = all_parts (Lawfully n) _ _ laws.1 in
      ((tt, join_types n _ _ (step_types n (scope_in f g) _ steps vars p.0) (given_types n (scope_in f g) _ args vars p.1)), vars)
  stmt_types n f g last (StmtTree.node at (StmtForm.if_ e b other)) vars laws =
      let first = expr_sites n (scope_in f g) bool_whole e in
      let outer = all_parts (Lawfully n) (first ++ block_sites n f g b) (else_sites n f g other) laws in
      let inner = all_parts (Lawfully n) first (block_sites n f g b) outer.0 in
      let then_ = block_types n f g b vars inner.1 in
      let else_ = else_types n f g other vars outer.1 in (
        join_types n (first ++ block_sites n f g b) (else_sites n f g other)
            (join_types n first (block_sites n f g b) (types_closed n (scope_in f g) bool_whole e vars inner.0) then_.0) else_.0,
        both_closed (after_block n g b).vars (after_else n g other).vars then_.1,
      )
  stmt_types n f g last (StmtTree.node at (StmtForm.match e arms)) vars laws =
      let first = expr_sites n (scope_in f g) matched e in
      let p = all_parts (Lawfully n) first _ laws in
      let k = type_of n g.vars None e in
      let there = arms_types n f g k [] arms vars (type_closed n (scope_in f g) matched e vars p.0) p.1.1 in
      (join_types n first _ (types_closed n (scope_in f g) matched e vars p.0) (tt, there.0), there.1)
  stmt_types n f g last (StmtTree.node at (StmtForm.atomic b)) vars laws =
      let inner = block_types n (record f { inside_atomic = true }) g b vars laws.1 in ((tt, inner.0), inner.1)
  stmt_types n f g last (StmtTree.node at (StmtForm.assert e)) vars laws = (types_closed n (scope_in f g) bool_whole e vars laws, vars)
  stmt_types n f g last (StmtTree.node at (StmtForm.return None)) vars laws = ((tt, tt), dead_closed g.vars vars)
  stmt_types n f g last (StmtTree.node at (StmtForm.return (Some e))) vars laws =
      ((tt, types_closed n (scope_in f g) _ e vars laws.1), dead_closed g.vars vars)

  stmts_types : (n : Names) (f : Frame) (g : Sight) (stmts : StmtTrees) → VarsClosed g.vars → Laws n (stmts_sites n f g stmts)
      → Behind n (stmts_sites n f g stmts) (after_stmts n g stmts).vars
  stmts_types n f g StmtTrees.no_stmts vars laws = (tt, vars)
  stmts_types n f g (StmtTrees.more_stmts s stmts) vars laws =
      let own = stmt_sites n (before_stmts f stmts) g (is_last stmts) s in
      let p = all_parts (Lawfully n) own (stmts_sites n f (after n g s) stmts) laws in
      let first = stmt_types n (before_stmts f stmts) g (is_last stmts) s vars p.0 in
      let rest = stmts_types n f (after n g s) stmts first.1 p.1 in
      (join_types n own _ first.0 rest.0, rest.1)

  block_types : (n : Names) (f : Frame) (g : Sight) (b : BlockTree) → VarsClosed g.vars → Laws n (block_sites n f g b)
      → Behind n (block_sites n f g b) (after_block n g b).vars
  block_types n f g (BlockTree.block at stmts) vars laws =
      let r = stmts_types n f g stmts vars laws in (r.0, take_closed (length g.vars) (after_stmts n g stmts).vars r.1)

  else_types : (n : Names) (f : Frame) (g : Sight) (other : ElseTree) → VarsClosed g.vars → Laws n (else_sites n f g other)
      → Behind n (else_sites n f g other) (after_else n g other).vars
  else_types n f g ElseTree.no_else vars laws = (tt, vars)
  else_types n f g (ElseTree.else_block b) vars laws = block_types n f g b vars laws
  else_types n f g (ElseTree.else_if s) vars laws = stmt_types n f g true s vars laws

  arms_types : (n : Names) (f : Frame) (g : Sight) (k : Kind) (before : List Name) (arms : BlockArmTrees) → VarsClosed g.vars → IsClosed k
      → Laws n (arm_sites n f g k before arms) → Behind n (arm_sites n f g k before arms) (after_arms n g k arms).vars
  arms_types n f g k before BlockArmTrees.no_block_arms vars h laws = (tt, dead_closed g.vars vars)
  arms_types n f g k before (BlockArmTrees.more_block_arms (BlockArmTree.arm q b) arms) vars h laws =
      let front = pattern_sites n g.vars k before q in
      let inner_sight = flow.in_pattern n g k q in
      let outer = all_parts (Lawfully n) (front ++ block_sites n f inner_sight b) _ laws in
      let inner = all_parts (Lawfully n) front (block_sites n f inner_sight b) outer.0 in
      let below = bound_closed g.vars (pattern_vars q) (pattern_kinds n k (pattern_name q)) vars (pattern_closed n k (pattern_name q) h) in
      let own = block_types n f inner_sight b below inner.1 in
      let rest = arms_types n f g k _ arms vars h outer.1 in (
        join_types n (front ++ block_sites n f inner_sight b) _ (join_types n front (block_sites n f inner_sight b) (pattern_types n g.vars k before q) own.0) rest.0,
        both_closed _ (after_arms n g k arms).vars (take_closed (length g.vars) (after_block n inner_sight b).vars own.1),
      )

-- # Declarations

params_there : (n : Names) (params : List ParamTree) → VarsClosed (param_vars n params)
params_there n [] = tt
params_there n (q ∷ params) = (written_closed n (param_type q), params_there n params)

named_types : (n : Names) (before : List Name) (xs : List Ident) → AllTypes n (named_all before xs)
named_types n before [] = tt
named_types n before (x ∷ xs) = (tt, named_types n _ xs)

declares_types : (n : Names) (vs : List Var) (params : List ParamTree) → AllTypes n (declares_all n vs params)
declares_types n vs [] = tt
declares_types n vs (q ∷ params) = (tt, declares_types n (vs ++ param_var n q ∷ []) params)

written_types : (n : Names) (k : ℕ) (r : Role) (params : List ParamTree) → AllTypes n (written_all k r params)
written_types n k r [] = tt
written_types n k r (q ∷ params) = (tt, written_types n k r params)

params_types : (n : Names) (k : ℕ) (r : Role) (params : List ParamTree) → AllTypes n (param_sites n k r params)
params_types n k r params =
    join_types n (named_all [] (map param_name params) ++ declares_all n [] params) (written_all k r params)
    (join_types n (named_all [] (map param_name params)) (declares_all n [] params) (named_types n [] (map param_name params)) (declares_types n [] params))
    (written_types n k r params)

pub query_types : (n : Names) (k : ℕ) (words : Bool) (q : QueryTree) → Laws n (query_sites n k words q) → AllTypes n (query_sites n k words q)
query_types n k words (QueryTree.query x params result body) laws =
    let front = param_sites n k role.QueryParam params in
    let p = all_parts (Lawfully n) front _ laws in
    join_types n front _ (params_types n k role.QueryParam params)
    (tt, types_closed n (scope_for n k words params) (asks 21 (kind_of n result)) body (params_there n params) p.1.1)

pub invariant_types : (n : Names) (k : ℕ) (e : ExprTree) → Laws n (invariant_sites n k e) → AllTypes n (invariant_sites n k e)
invariant_types n k e laws = types_closed n (scope_for n k true []) bool_whole e tt laws

pub proc_types : (n : Names) (k : ℕ) (q : ProcTree) → Laws n (proc_sites n k q) → AllTypes n (proc_sites n k q)
proc_types n k (ProcTree.proc x params result body) laws =
    let g = sight_for n params in
    let front = param_sites n k role.Variable params ++ result_sites k result in
    let here = block_sites n (frame_for n k result) g body in
    let close = Site.closes (after_block n g body).live (is_there result) (brace_of body) in
    let own = (all_parts (Lawfully n) front here (all_parts (Lawfully n) (front ++ here) (close ∷ []) laws).0).1 in
    join_types n (front ++ here) (close ∷ [])
    (join_types n front here (join_types n (param_sites n k role.Variable params) (result_sites k result) (params_types n k role.Variable params) (result_types n k result))
    (block_types n (frame_for n k result) g body (params_there n params) own).0) (tt, tt) where
      result_types : (n : Names) (k : ℕ) (result : Option TypeTree) → AllTypes n (result_sites k result)
      result_types n k None = tt
      result_types n k (Some t) = (tt, tt)
