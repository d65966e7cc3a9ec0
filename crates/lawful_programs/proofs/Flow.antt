-- The variables in sight behind statements, by the type rules and by their slots.
use Rattle.std.proofs.Common.{◌≡◌, ◌≤◌, ◌+◌, ℕ, zero, suc, Bool, true, false, not, ◌||◌, cond, List, [], ◌∷◌, ◌++◌, map, take, length, None, refl, ap, subst, sym, ◌∙◌, arith}
use Rattle.rp_grammar.specs.Trees.{Ident, TypeTree, BlockTree, StmtTree, StmtForm, StmtTrees, ElseTree, BlockArmTree, BlockArmTrees}
use Rattle.rp_lang.specs.Exprs.{Ex, Slot}
use Rattle.type_rules.specs.declared.kind.Kind.{Kind}
use Rattle.type_rules.specs.Names.{Name, Names, same_name, text_of}
use Rattle.type_rules.specs.Kinds.{kind_of}
use Rattle.type_rules.specs.Accesses.{Var}
use Rattle.type_rules.specs.Typing.{type_of}
use Rattle.type_rules.specs.Matches.{bound_var, first_kind, other_kinds, pattern_kinds, pattern_name, pattern_vars, with_bound}
use Rattle.type_rules.specs.Flow as flow
use Rattle.type_rules.specs.Flow.{Sight, after, after_arms, after_block, after_else, after_stmts, both, dead, declared_var, give, has_value, leave, with_value}
use Rattle.desugaring.specs.Callees.{Stand, Vars, stand}
use Rattle.desugaring.specs.Statements.{behind, slotted, with_slot}
use Rattle.lawful_programs.specs.Valued.{Seen, nothing, another}

-- # The first variables

-- the first variables have these names and types
abbrev pub Begins : List Var → Vars → Type 0
Begins ws [] = Unit {0}
Begins [] (s ∷ vs) = ⊥
Begins (w ∷ ws) (s ∷ vs) = (w.name ≡ s.name) × (w.kind ≡ s.kind) × Begins ws vs

-- and there are no more
pub record Exact (ws : List Var) (vs : Vars) : Type 0 where
  pub begins : Begins ws vs
  pub many : length ws ≡ length vs

pub exact_seen : (ws : List Var) (vs : Vars) → Begins ws vs → length ws ≡ length vs → Seen ws vs
exact_seen [] [] b many = nothing
exact_seen (w ∷ ws) [] b many = absurd (omega (arith, many))
exact_seen [] (s ∷ vs) b many = absurd b
exact_seen (w ∷ ws) (s ∷ vs) b many =
    let rest = exact_seen ws vs b.2 (omega (arith, many)) in
    let one_ : Seen (record { name = s.name; kind = s.kind; set = w.set; fixed = w.fixed } ∷ ws) (stand s.name s.kind s.known ∷ vs) = another rest in
    let two_ : Seen (record { name = s.name; kind = w.kind; set = w.set; fixed = w.fixed } ∷ ws) (stand s.name s.kind s.known ∷ vs) =
    subst (λ k. Seen (record { name = s.name; kind = k; set = w.set; fixed = w.fixed } ∷ ws) (stand s.name s.kind s.known ∷ vs)) (sym b.1) one_ in
    subst (λ n. Seen (record { name = n; kind = w.kind; set = w.set; fixed = w.fixed } ∷ ws) (stand s.name s.kind s.known ∷ vs)) (sym b.0) two_

pub long : (ws : List Var) (vs : Vars) → Begins ws vs → length vs ≤ length ws
long ws [] b = omega arith
long [] (s ∷ vs) b = absurd b
long (w ∷ ws) (s ∷ vs) b = let r = long ws vs b.2 in omega (arith, r)

-- # What statements do

begins_give : (x : Name) (ws : List Var) (vs : Vars) → Begins ws vs → Begins (give x ws) vs
begins_give x ws [] b = tt
begins_give x [] (s ∷ vs) b = absurd b
begins_give x (w ∷ ws) (s ∷ vs) b = by_name x w ws s vs (same_name w.name x) b (begins_give x ws vs b.2) where
  by_name : (x : Name) (w : Var) (ws : List Var) (s : Stand Ex) (vs : Vars) (same : Bool) → Begins (w ∷ ws) (s ∷ vs) → Begins (give x ws) vs
      → Begins (cond same (with_value w ∷ ws) (w ∷ give x ws)) (s ∷ vs)
  by_name x w ws s vs true b rest = b
  by_name x w ws s vs false b rest = (b.0, b.1, rest)

long_give : (x : Name) (ws : List Var) → length (give x ws) ≡ length ws
long_give x [] = refl
long_give x (w ∷ ws) = by_name x w ws (same_name w.name x) (long_give x ws) where
  by_name : (x : Name) (w : Var) (ws : List Var) (same : Bool) → length (give x ws) ≡ length ws
      → length (cond same (with_value w ∷ ws) (w ∷ give x ws)) ≡ length (w ∷ ws)
  by_name x w ws true rest = refl
  by_name x w ws false rest = ap suc rest

exact_give : (x : Name) (ws : List Var) (vs : Vars) → Exact ws vs → Exact (give x ws) vs
exact_give x ws vs e = record { begins = begins_give x ws vs e.begins; many = long_give x ws ∙ e.many }

begins_dead : (ws : List Var) (vs : Vars) → Begins ws vs → Begins (map with_value ws) vs
begins_dead ws [] b = tt
begins_dead [] (s ∷ vs) b = absurd b
begins_dead (w ∷ ws) (s ∷ vs) b = (b.0, b.1, begins_dead ws vs b.2)

long_dead : (ws : List Var) → length (map with_value ws) ≡ length ws
long_dead [] = refl
long_dead (w ∷ ws) = ap suc (long_dead ws)

exact_dead : (ws : List Var) (vs : Vars) → Exact ws vs → Exact (map with_value ws) vs
exact_dead ws vs e = record { begins = begins_dead ws vs e.begins; many = long_dead ws ∙ e.many }

begins_both : (as_ bs : List Var) (vs : Vars) → Begins as_ vs → Begins bs vs → Begins (both as_ bs) vs
begins_both as_ bs [] a b = tt
begins_both [] bs (s ∷ vs) a b = absurd a
begins_both (w ∷ as_) [] (s ∷ vs) a b = absurd b
begins_both (w ∷ as_) (u ∷ bs) (s ∷ vs) a b = (a.0, a.1, begins_both as_ bs vs a.2 b.2)

long_both : (as_ bs : List Var) → length as_ ≤ length bs → length (both as_ bs) ≡ length as_
long_both [] bs e = refl
long_both (w ∷ as_) [] e = absurd (omega (arith, e))
long_both (w ∷ as_) (u ∷ bs) e = ap suc (long_both as_ bs (omega (arith, e)))

exact_both : (as_ bs : List Var) (vs : Vars) → Exact as_ vs → Begins bs vs → Exact (both as_ bs) vs
exact_both as_ bs vs a b =
    let enough = long bs vs b in
    record { begins = begins_both as_ bs vs a.begins b; many = long_both as_ bs (omega (arith, enough, a.many)) ∙ a.many }

begins_take : (ws : List Var) (vs : Vars) (m : ℕ) → m ≡ length vs → Begins ws vs → Begins (take m ws) vs
begins_take ws [] m e b = tt
begins_take [] (s ∷ vs) m e b = absurd b
begins_take (w ∷ ws) (s ∷ vs) zero e b = absurd (omega (arith, e))
begins_take (w ∷ ws) (s ∷ vs) (suc m) e b = (b.0, b.1, begins_take ws vs m (omega (arith, e)) b.2)

long_take : (ws : List Var) (m : ℕ) → m ≤ length ws → length (take m ws) ≡ m
long_take ws zero e = refl
long_take [] (suc m) e = absurd (omega (arith, e))
long_take (w ∷ ws) (suc m) e = ap suc (long_take ws m (omega (arith, e)))

exact_take : (ws : List Var) (vs : Vars) (m : ℕ) → m ≡ length vs → Begins ws vs → Exact (take m ws) vs
exact_take ws vs m e b =
    let enough = long ws vs b in
    record { begins = begins_take ws vs m e b; many = long_take ws m (omega (arith, enough, e)) ∙ e }

begins_less : (ws : List Var) (vs xs : Vars) → Begins ws (vs ++ xs) → Begins ws vs
begins_less ws [] xs b = tt
begins_less [] (s ∷ vs) xs b = absurd b
begins_less (w ∷ ws) (s ∷ vs) xs b = (b.0, b.1, begins_less ws vs xs b.2)

pub exact_also : (ws : List Var) (vs : Vars) (w : Var) (s : Stand Ex) → w.name ≡ s.name → w.kind ≡ s.kind → Exact ws vs → Exact (ws ++ w ∷ []) (vs ++ s ∷ [])
exact_also [] [] w s name kind e = record { begins = (name, kind, tt); many = refl }
exact_also (v ∷ ws) [] w s name kind e = let m = e.many in absurd (omega (arith, m))
exact_also [] (z ∷ vs) w s name kind e = absurd e.begins
exact_also (v ∷ ws) (z ∷ vs) w s name kind e =
    let m = e.many in
    let r = exact_also ws vs w s name kind (record { begins = e.begins.2; many = omega (arith, m) }) in
    record { begins = (e.begins.0, e.begins.1, r.begins); many = ap suc r.many }

-- # Behind statements

begins_behind : (n : Names) (ws : List Var) (vs : Vars) (next : ℕ) (s : StmtTree) → Begins ws (behind n vs next s) → Begins ws vs
begins_behind n ws vs next (StmtTree.node at (StmtForm.var x t e)) b = begins_less ws vs _ b
begins_behind n ws vs next (StmtTree.node at (StmtForm.new x t)) b = b
begins_behind n ws vs next (StmtTree.node at (StmtForm.assign x e)) b = b
begins_behind n ws vs next (StmtTree.node at (StmtForm.access a)) b = b
begins_behind n ws vs next (StmtTree.node at (StmtForm.if_ e c other)) b = b
begins_behind n ws vs next (StmtTree.node at (StmtForm.match e arms)) b = b
begins_behind n ws vs next (StmtTree.node at (StmtForm.atomic c)) b = b
begins_behind n ws vs next (StmtTree.node at (StmtForm.assert e)) b = b
begins_behind n ws vs next (StmtTree.node at (StmtForm.return e)) b = b

pub exact_slotted : (ws : List Var) (vs : Vars) (next : ℕ) (xs : List Ident) (ks : List Kind) → Exact ws vs → Exact (with_bound ws xs ks) (slotted vs next xs ks)
exact_slotted ws vs next [] ks e = e
exact_slotted ws vs next (x ∷ xs) ks e =
    exact_slotted (ws ++ bound_var x (first_kind ks) ∷ []) (vs ++ stand (text_of x) (first_kind ks) (Slot next) ∷ []) (next + 1) xs (other_kinds ks)
    (exact_also ws vs (bound_var x (first_kind ks)) (stand (text_of x) (first_kind ks) (Slot next)) refl refl e)

begins_slotted : (ws : List Var) (vs : Vars) (next : ℕ) (xs : List Ident) (ks : List Kind) → Begins ws (slotted vs next xs ks) → Begins ws vs
begins_slotted ws vs next [] ks b = b
begins_slotted ws vs next (x ∷ xs) ks b =
    begins_less ws vs _ (begins_slotted ws (vs ++ stand (text_of x) (first_kind ks) (Slot next) ∷ []) (next + 1) xs (other_kinds ks) b)

pub exact_declared : (n : Names) (g : Sight) (set : Bool) (vs : Vars) (next : ℕ) (x : Ident) (t : TypeTree) → Exact g.vars vs
    → Exact (flow.with_declared n g set x t).vars (with_slot n vs next x t)
exact_declared n g set vs next x t e =
    exact_also g.vars vs (declared_var n (set || not g.live) x t) (stand (text_of x) (kind_of n t) (Slot next)) refl refl e

mutual
  pub stmt_after : (n : Names) (g : Sight) (vs : Vars) (next : ℕ) (s : StmtTree) → Exact g.vars vs → Exact (after n g s).vars (behind n vs next s)
  stmt_after n g vs next (StmtTree.node at (StmtForm.var x t e)) exact = exact_declared n g (has_value e) vs next x t exact
  stmt_after n g vs next (StmtTree.node at (StmtForm.new x t)) exact = exact_give (text_of x) g.vars vs exact
  stmt_after n g vs next (StmtTree.node at (StmtForm.assign x e)) exact = exact_give (text_of x) g.vars vs exact
  stmt_after n g vs next (StmtTree.node at (StmtForm.access a)) exact = exact
  stmt_after n g vs next (StmtTree.node at (StmtForm.if_ e b other)) exact =
      exact_both (after_block n g b).vars (after_else n g other).vars vs (block_after n g vs next b exact) (else_after n g vs next other exact)
  stmt_after n g vs next (StmtTree.node at (StmtForm.match e arms)) exact = arms_after n g vs next (type_of n g.vars None e) arms exact
  stmt_after n g vs next (StmtTree.node at (StmtForm.atomic b)) exact = block_after n g vs next b exact
  stmt_after n g vs next (StmtTree.node at (StmtForm.assert e)) exact = exact
  stmt_after n g vs next (StmtTree.node at (StmtForm.return e)) exact = exact_dead g.vars vs exact

  stmts_after : (n : Names) (g : Sight) (vs : Vars) (next : ℕ) (stmts : StmtTrees) → Exact g.vars vs → Begins (after_stmts n g stmts).vars vs
  stmts_after n g vs next StmtTrees.no_stmts exact = exact.begins
  stmts_after n g vs next (StmtTrees.more_stmts s stmts) exact =
      begins_behind n (after_stmts n (after n g s) stmts).vars vs next s
      (stmts_after n (after n g s) (behind n vs next s) next stmts (stmt_after n g vs next s exact))

  pub block_after : (n : Names) (g : Sight) (vs : Vars) (next : ℕ) (b : BlockTree) → Exact g.vars vs → Exact (after_block n g b).vars vs
  block_after n g vs next (BlockTree.block at stmts) exact =
      exact_take (after_stmts n g stmts).vars vs (length g.vars) exact.many (stmts_after n g vs next stmts exact)

  else_after : (n : Names) (g : Sight) (vs : Vars) (next : ℕ) (other : ElseTree) → Exact g.vars vs → Begins (after_else n g other).vars vs
  else_after n g vs next ElseTree.no_else exact = exact.begins
  else_after n g vs next (ElseTree.else_block b) exact = (block_after n g vs next b exact).begins
  else_after n g vs next (ElseTree.else_if s) exact = begins_behind n (after n g s).vars vs next s (stmt_after n g vs next s exact).begins

  arms_after : (n : Names) (g : Sight) (vs : Vars) (next : ℕ) (k : Kind) (arms : BlockArmTrees) → Exact g.vars vs → Exact (after_arms n g k arms).vars vs
  arms_after n g vs next k BlockArmTrees.no_block_arms exact = exact_dead g.vars vs exact
  arms_after n g vs next k (BlockArmTrees.more_block_arms (BlockArmTree.arm q b) arms) exact =
      let kinds = pattern_kinds n k (pattern_name q) in
      let inner = block_after n (flow.in_pattern n g k q) (slotted vs next (pattern_vars q) kinds) next b
      (exact_slotted g.vars vs next (pattern_vars q) kinds exact) in
      let out = exact_take (after_block n (flow.in_pattern n g k q) b).vars vs (length g.vars) exact.many
      (begins_slotted (after_block n (flow.in_pattern n g k q) b).vars vs next (pattern_vars q) kinds inner.begins) in
      exact_both _ (after_arms n g k arms).vars vs out (arms_after n g vs next k arms exact).begins
