-- What is computed of a statement is what it becomes.
use Rattle.std.proofs.Common.{◌≡◌, ◌+◌, ℕ, Bool, true, false, not, [], length, Option, Some, None, refl, subst}
use Rattle.rp_span.specs.declared.Span.{Span}
use Rattle.rp_grammar.specs.Trees.{Ident, TypeTree, ExprTree, ExprForm, AccessTree, BlockTree, StmtTree, StmtForm, StmtTrees, ElseTree, BlockArmTree, BlockArmTrees}
use Rattle.rp_lang.specs.Exprs.{Ex, OpTerm}
use Rattle.rp_lang.specs.Formulas.{Fo}
use Rattle.rp_lang.specs.Stmts.{St, New, Operate, Decide, Assert, Sts}
use Rattle.type_rules.specs.declared.kind.Kind.{Kind}
use Rattle.type_rules.specs.Kinds.{bool_kind, kind_of}
use Rattle.type_rules.specs.Typing.{type_of}
use Rattle.desugaring.specs.Tables.{Tables}
use Rattle.desugaring.specs.Values.{Value, term, formula, as_formula, reads}
use Rattle.desugaring.specs.Callees.{Vars, vars_of}
use Rattle.desugaring.specs.Expressions.{uses_before}
use Rattle.desugaring.specs.Meanings.{Means}
use Rattle.desugaring.specs.Statements.{Place, inside, Made, MadeArms, made, just, before, with_kind, block_of_one, assigned, is_apart, set_apart, branching, matching, past_hidden, returning, returning_term, through_slot, arm_with, assigned_to, assignment, declaration, operating, asserted, return, atomic, stmt, stmt_form, block, stmts_made, else_made, arms_made, with_slot, pattern_slots}
use Rattle.desugaring.specs.Runs.{Assigns, Returns, Runs, BlockRuns, AllRun, ElseRuns, ArmsRun}
use Rattle.desugaring.proofs.Options.{then_there, map_there, both_there, term_there}
use Rattle.desugaring.proofs.Sound.{sound}

-- # What is made

abbrev RunsTo : Tables → ℕ → Place → Vars → ℕ → StmtTree → Made → Type 0
RunsTo t b p vs next s m = Runs t b p vs next s m.body m.slots

abbrev BlockRunsTo : Tables → ℕ → Place → Vars → ℕ → BlockTree → Made → Type 0
BlockRunsTo t b p vs next x m = BlockRuns t b p vs next x m.body m.slots

abbrev AllRunTo : Tables → ℕ → Place → Vars → ℕ → StmtTrees → Made → Type 0
AllRunTo t b p vs next xs m = AllRun t b p vs next xs m.body m.slots

abbrev ElseRunsTo : Tables → ℕ → Place → Vars → ℕ → ElseTree → Made → Type 0
ElseRunsTo t b p vs next x m = ElseRuns t b p vs next x m.body m.slots

abbrev ArmsRunTo : Tables → ℕ → Place → Vars → ℕ → Kind → BlockArmTrees → MadeArms → Type 0
ArmsRunTo t b p vs next k arms m = ArmsRun t b p vs next k arms m.arms m.slots

-- # In place, or apart

set_case : (P : Made → Type 0) (apart : Bool) (at : Span) (st : St) → (apart ≡ false → P (just st))
    → (apart ≡ true → P (just (block_of_one at st)))
    → P (just (set_apart apart at st))
set_case P false at st f g = f refl
set_case P true at st f g = g refl

assigns_there : (t : Tables) (b : ℕ) (p : Place) (vs : Vars) (at : Span) (x : Ident) (e : ExprTree) (P : Made → Type 0)
    (m : Made)
    → assignment t (uses_before t b) p vs at x e ≡ Some m → ((sts : Sts) → Assigns t b p vs at x e sts → P (made sts [])) → P m
assigns_there t b p vs at x e P m h k =
    then_there _ _ m h (λ s named i. both_there P (assigned_to p at) _ _ m i (λ slot v is means.
    set_case P (is_apart p v) at (assigned at slot v)
    (λ there. k _ (Assigns.in_place named is (sound t b vs (Some s.kind) e v means) there))
    (λ there. k _ (Assigns.apart named is (sound t b vs (Some s.kind) e v means) there))))

declares_there : (t : Tables) (b : ℕ) (p : Place) (vs : Vars) (next : ℕ) (at : Span) (x : Ident) (ty : TypeTree)
    (e : Option ExprTree) (m : Made)
    → declaration t (uses_before t b) p (with_slot t.names vs next x ty) at x ty e ≡ Some m
    → RunsTo t b p vs next (StmtTree.node at (StmtForm.var x ty e)) (with_kind (kind_of t.names ty) m)
declares_there t b p vs next at x ty None m h =
    subst (λ w. RunsTo t b p vs next (StmtTree.node at (StmtForm.var x ty None)) (with_kind (kind_of t.names ty) w))
    (cc) Runs.declares
declares_there t b p vs next at x ty (Some e) m h =
    assigns_there t b p (with_slot t.names vs next x ty) at x e
    (λ w. RunsTo t b p vs next (StmtTree.node at (StmtForm.var x ty (Some e))) (with_kind (kind_of t.names ty) w)) m h
    (λ sts assigns. Runs.declares_with assigns)

inside_there : (inside : Bool) → not inside ≡ false → inside ≡ true
inside_there true e = refl
inside_there false e = absurd cc

outside_there : (inside : Bool) → not inside ≡ true → inside ≡ false
outside_there false e = refl
outside_there true e = absurd cc

operates_there : (t : Tables) (b : ℕ) (p : Place) (vs : Vars) (next : ℕ) (at : Span) (a : AccessTree) (m : Made)
    (v : Value)
    → Means t b vs None (ExprTree.node at (ExprForm.access a)) v → operating p at v ≡ Some m
    → RunsTo t b p vs next (StmtTree.node at (StmtForm.access a)) m
operates_there t b p vs next at a m (term (OpTerm op args)) means h =
    subst (λ w. RunsTo t b p vs next (StmtTree.node at (StmtForm.access a)) w) (cc)
    (set_case (λ w. RunsTo t b p vs next (StmtTree.node at (StmtForm.access a)) w) (not p.inside_atomic) at (Operate at op args)
    (λ there. Runs.operates means (inside_there p.inside_atomic there))
    (λ there. Runs.operates_apart means (outside_there p.inside_atomic there)))
operates_there t b p vs next at a m _ means h = absurd (cc)

branches_there : (t : Tables) (b : ℕ) (p : Place) (vs : Vars) (next : ℕ) (at : Span) (e : ExprTree) (x : BlockTree)
    (other : ElseTree)
    (v : Value) (left right : Made) (apart : Bool) → is_apart p v ≡ apart → Means t b vs (Some bool_kind) e v
    → BlockRunsTo t b p vs (past_hidden apart next) x left
    → ElseRunsTo t b p vs (past_hidden apart next + length left.slots) other right
    → RunsTo t b p vs next (StmtTree.node at (StmtForm.if_ e x other)) (branching apart at next v left right)
branches_there t b p vs next at e x other v left right false is means l r = Runs.branches means is l r
branches_there t b p vs next at e x other v left right true is means l r = Runs.branches_apart means is l r

matches_there : (t : Tables) (b : ℕ) (p : Place) (vs : Vars) (next : ℕ) (at : Span) (e : ExprTree) (arms : BlockArmTrees)
    (x : Ex) (m : MadeArms) (apart : Bool) → is_apart p (term x) ≡ apart → Means t b vs None e (term x)
    → ArmsRunTo t b p vs (past_hidden apart next) (type_of t.names (vars_of vs) None e) arms m
    → RunsTo t b p vs next (StmtTree.node at (StmtForm.match e arms))
    (matching apart at next (type_of t.names (vars_of vs) None e) x m)
matches_there t b p vs next at e arms x m false is means a = Runs.matches means is a
matches_there t b p vs next at e arms x m true is means a = Runs.matches_apart means is a

abbrev ReturnsTo : Tables → ℕ → Vars → ℕ → Span → Kind → ExprTree → Made → Type 0
ReturnsTo t b vs next at k e m = Returns t b vs next at k e m.body m.slots

returns_term : (t : Tables) (b : ℕ) (vs : Vars) (next : ℕ) (at : Span) (k : Kind) (e : ExprTree) (x : Ex) (reading : Bool)
    → reads (term x) ≡ reading → Means t b vs (Some k) e (term x)
    → ReturnsTo t b vs next at k e (returning_term reading at next k x)
returns_term t b vs next at k e x false is means = Returns.of_term means is
returns_term t b vs next at k e x true is means = Returns.of_reading_term means is

returns_formula : (t : Tables) (b : ℕ) (vs : Vars) (next : ℕ) (at : Span) (k : Kind) (e : ExprTree) (f : Fo)
    (reading : Bool)
    → reads (formula f) ≡ reading → Means t b vs (Some k) e (formula f)
    → ReturnsTo t b vs next at k e (through_slot at next k (set_apart reading at (Decide at next f)))
returns_formula t b vs next at k e f false is means = Returns.of_formula means is
returns_formula t b vs next at k e f true is means = Returns.of_reading_formula means is

returns_there : (t : Tables) (b : ℕ) (vs : Vars) (next : ℕ) (at : Span) (k : Kind) (e : ExprTree) (v : Value)
    → Means t b vs (Some k) e v → ReturnsTo t b vs next at k e (returning at next k v)
returns_there t b vs next at k e (term x) means = returns_term t b vs next at k e x (reads (term x)) refl means
returns_there t b vs next at k e (formula f) means = returns_formula t b vs next at k e f (reads (formula f)) refl means

leaves_there : (t : Tables) (b : ℕ) (p : Place) (vs : Vars) (next : ℕ) (at : Span) (e : Option ExprTree) (m : Made)
    → return t (uses_before t b) p vs next at e ≡ Some m → RunsTo t b p vs next (StmtTree.node at (StmtForm.return e)) m
leaves_there t b p vs next at None m h =
    subst (λ w. RunsTo t b p vs next (StmtTree.node at (StmtForm.return None)) w) (cc) Runs.returns
leaves_there t b p vs next at (Some e) m h =
    then_there _ _ m h (λ k is i. map_there (RunsTo t b p vs next (StmtTree.node at (StmtForm.return (Some e))))
    (returning at next k) _ m i (λ v means.
    Runs.returns_with is (returns_there t b vs next at k e v (sound t b vs (Some k) e v means))))

-- # Statements

mutual
  stmt_sound : (t : Tables) (b : ℕ) (p : Place) (vs : Vars) (next : ℕ) (s : StmtTree) (m : Made)
      → stmt t (uses_before t b) p vs next s ≡ Some m → RunsTo t b p vs next s m
  stmt_sound t b p vs next (StmtTree.node at form) m h = form_sound t b p vs next at form m h

  form_sound : (t : Tables) (b : ℕ) (p : Place) (vs : Vars) (next : ℕ) (at : Span) (form : StmtForm) (m : Made)
      → stmt_form t (uses_before t b) p vs next at form ≡ Some m → RunsTo t b p vs next (StmtTree.node at form) m
  form_sound t b p vs next at (StmtForm.var x ty e) m h =
      map_there (RunsTo t b p vs next (StmtTree.node at (StmtForm.var x ty e))) (with_kind (kind_of t.names ty)) _ m h
      (λ w i. declares_there t b p vs next at x ty e w i)
  form_sound t b p vs next at (StmtForm.new x id) m h =
      both_there (RunsTo t b p vs next (StmtTree.node at (StmtForm.new x id))) (λ slot n. just (New at slot n)) _ _ m h
      (λ slot n i j. Runs.news i j)
  form_sound t b p vs next at (StmtForm.assign x e) m h =
      assigns_there t b p vs at x e (RunsTo t b p vs next (StmtTree.node at (StmtForm.assign x e))) m h
      (λ sts assigns. Runs.assigns assigns)
  form_sound t b p vs next at (StmtForm.access a) m h =
      then_there _ _ m h (λ v means i. operates_there t b p vs next at a m v
      (sound t b vs None (ExprTree.node at (ExprForm.access a)) v means) i)
  form_sound t b p vs next at (StmtForm.if_ e x other) m h =
      then_there _ _ m h (λ v means i. then_there _ _ m i (λ left l j.
      map_there (RunsTo t b p vs next (StmtTree.node at (StmtForm.if_ e x other)))
      (branching (is_apart p v) at next v left) _ m j (λ right r.
      branches_there t b p vs next at e x other v left right (is_apart p v) refl (sound t b vs (Some bool_kind) e v means)
      (block_sound t b p vs _ x left l) (else_sound t b p vs _ other right r))))
  form_sound t b p vs next at (StmtForm.match e arms) m h =
      then_there _ _ m h (λ x means i.
      map_there (RunsTo t b p vs next (StmtTree.node at (StmtForm.match e arms)))
      (matching (is_apart p (term x)) at next (type_of t.names (vars_of vs) None e) x) _ m i (λ made a.
      matches_there t b p vs next at e arms x made (is_apart p (term x)) refl
      (sound t b vs None e (term x) (term_there _ x means))
      (arms_sound t b p vs _ _ arms made a)))
  form_sound t b p vs next at (StmtForm.atomic x) m h =
      map_there (RunsTo t b p vs next (StmtTree.node at (StmtForm.atomic x))) (atomic at) _ m h
      (λ body i. Runs.is_atomic (block_sound t b (inside p) vs next x body i))
  form_sound t b p vs next at (StmtForm.assert e) m h =
      map_there (RunsTo t b p vs next (StmtTree.node at (StmtForm.assert e))) (asserted p at) _ m h (λ v i.
      set_case (RunsTo t b p vs next (StmtTree.node at (StmtForm.assert e))) (is_apart p v) at (Assert at (as_formula v))
      (λ there. Runs.asserts (sound t b vs (Some bool_kind) e v i) there)
      (λ there. Runs.asserts_apart (sound t b vs (Some bool_kind) e v i) there))
  form_sound t b p vs next at (StmtForm.return e) m h = leaves_there t b p vs next at e m h

  block_sound : (t : Tables) (b : ℕ) (p : Place) (vs : Vars) (next : ℕ) (x : BlockTree) (m : Made)
      → block t (uses_before t b) p vs next x ≡ Some m → BlockRunsTo t b p vs next x m
  block_sound t b p vs next (BlockTree.block at stmts) m h = BlockRuns.block (all_sound t b p vs next stmts m h)

  all_sound : (t : Tables) (b : ℕ) (p : Place) (vs : Vars) (next : ℕ) (stmts : StmtTrees) (m : Made)
      → stmts_made t (uses_before t b) p vs next stmts ≡ Some m → AllRunTo t b p vs next stmts m
  all_sound t b p vs next StmtTrees.no_stmts m h = subst (λ w. AllRunTo t b p vs next StmtTrees.no_stmts w) (cc) AllRun.no_stmt
  all_sound t b p vs next (StmtTrees.more_stmts s stmts) m h =
      then_there _ _ m h (λ first i j. map_there (AllRunTo t b p vs next (StmtTrees.more_stmts s stmts)) (before first) _ m j
      (λ rest r.
      AllRun.more_stmts (stmt_sound t b p vs next s first i) (all_sound t b p _ _ stmts rest r)))

  else_sound : (t : Tables) (b : ℕ) (p : Place) (vs : Vars) (next : ℕ) (x : ElseTree) (m : Made)
      → else_made t (uses_before t b) p vs next x ≡ Some m → ElseRunsTo t b p vs next x m
  else_sound t b p vs next ElseTree.no_else m h = subst (λ w. ElseRunsTo t b p vs next ElseTree.no_else w) (cc) ElseRuns.no_else
  else_sound t b p vs next (ElseTree.else_block x) m h = ElseRuns.else_block (block_sound t b p vs next x m h)
  else_sound t b p vs next (ElseTree.else_if s) m h = ElseRuns.else_if (stmt_sound t b p vs next s m h)

  arms_sound : (t : Tables) (b : ℕ) (p : Place) (vs : Vars) (next : ℕ) (k : Kind) (arms : BlockArmTrees) (m : MadeArms)
      → arms_made t (uses_before t b) p vs next k arms ≡ Some m → ArmsRunTo t b p vs next k arms m
  arms_sound t b p vs next k BlockArmTrees.no_block_arms m h =
      subst (λ w. ArmsRunTo t b p vs next k BlockArmTrees.no_block_arms w) (cc) ArmsRun.no_arm
  arms_sound t b p vs next k (BlockArmTrees.more_block_arms (BlockArmTree.arm shape x) arms) m h =
      then_there _ _ m h (λ con is i. then_there _ _ m i (λ body y j.
      map_there (ArmsRunTo t b p vs next k (BlockArmTrees.more_block_arms (BlockArmTree.arm shape x) arms))
      (arm_with shape next (pattern_slots t.names k shape) con body) _ m j (λ rest r.
      ArmsRun.more_arms is (block_sound t b p _ _ x body y) (arms_sound t b p vs _ k arms rest r))))

pub runs_there : (t : Tables) (b : ℕ) (p : Place) (vs : Vars) (next : ℕ) (x : BlockTree) (m : Made)
    → block t (uses_before t b) p vs next x ≡ Some m → BlockRuns t b p vs next x m.body m.slots
runs_there t b p vs next x m h = block_sound t b p vs next x m h
