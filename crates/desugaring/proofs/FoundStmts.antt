-- What a statement becomes is what is computed of it.
use Rattle.std.proofs.Common.{◌≡◌, ◌+◌, ℕ, Bool, true, false, not, List, [], length, Some, None, refl, ap, subst, sym, ◌∙◌}
use Rattle.std.specs.Prelude.{option_map}
use Rattle.rp_span.specs.declared.Span.{Span}
use Rattle.rp_grammar.specs.Trees.{Ident, ExprTree, BlockTree, StmtTree, StmtForm, StmtTrees, ElseTree, BlockArmTrees}
use Rattle.rp_lang.specs.Exprs.{Ex}
use Rattle.rp_lang.specs.Stmts.{New, Operate, Decide, Assert, Sts, StArms}
use Rattle.type_rules.specs.declared.kind.Kind.{Kind}
use Rattle.type_rules.specs.Kinds.{bool_kind, kind_of}
use Rattle.type_rules.specs.Typing.{type_of}
use Rattle.desugaring.specs.Tables.{Tables}
use Rattle.desugaring.specs.Values.{Value, term, as_formula}
use Rattle.desugaring.specs.Callees.{Vars, vars_of}
use Rattle.desugaring.specs.Expressions.{value, uses_before, term_in}
use Rattle.desugaring.specs.Statements.{Place, inside, Made, MadeArms, made, just, before, with_kind, assigned, is_apart, set_apart, branching, matching, past_hidden, returning, returning_term, through_slot, arm_with, assigned_to, assignment_to, assignment, operating, asserted, atomic, stmt, stmt_form, block, stmts_made, else_made, arms_made, pattern_slots}
use Rattle.desugaring.specs.Runs.{Assigns, Returns, Runs, BlockRuns, AllRun, ElseRuns, ArmsRun}
use Rattle.desugaring.proofs.Options.{then_is, map_is, both_is, term_is}
use Rattle.desugaring.proofs.Found.{found}

abbrev made_arms : StArms → List Kind → MadeArms
made_arms arms slots = record { arms = arms; slots = slots }

-- # In place, or apart

assigned_found : (t : Tables) (b : ℕ) (p : Place) (vs : Vars) (at : Span) (x : Ident) (e : ExprTree) (sts : Sts)
    → Assigns t b p vs at x e sts → assignment t (uses_before t b) p vs at x e ≡ Some (made sts [])
assigned_found t b p vs at x e sts (Assigns.in_place {s = s} {slot = slot} {v = v} named is means there) =
    then_is (assignment_to t (uses_before t b) p vs at e) _ s _ named
    (both_is (assigned_to p at) _ _ slot v is (found t b vs _ e v means)
    ∙ ap (λ a. Some (just (set_apart a at (assigned at slot v)))) there)
assigned_found t b p vs at x e sts (Assigns.apart {s = s} {slot = slot} {v = v} named is means there) =
    then_is (assignment_to t (uses_before t b) p vs at e) _ s _ named
    (both_is (assigned_to p at) _ _ slot v is (found t b vs _ e v means)
    ∙ ap (λ a. Some (just (set_apart a at (assigned at slot v)))) there)

if_is : (t : Tables) (b : ℕ) (p : Place) (vs : Vars) (next : ℕ) (at : Span) (e : ExprTree) (x : BlockTree)
    (other : ElseTree)
    (v : Value) (left right : Made) (apart : Bool) → is_apart p v ≡ apart
    → value t (uses_before t b) vs (Some bool_kind) e ≡ Some v
    → block t (uses_before t b) p vs (past_hidden apart next) x ≡ Some left
    → else_made t (uses_before t b) p vs (past_hidden apart next + length left.slots) other ≡ Some right
    → stmt_form t (uses_before t b) p vs next at (StmtForm.if_ e x other) ≡ Some (branching apart at next v left right)
if_is t b p vs next at e x other v left right apart is means l r =
    subst (λ a. stmt_form t (uses_before t b) p vs next at (StmtForm.if_ e x other)
    ≡ Some (branching a at next v left right)) is
    (then_is _ _ v _ means (then_is _ _ left _
    (subst (λ a. block t (uses_before t b) p vs (past_hidden a next) x ≡ Some left) (sym is) l)
    (map_is (branching (is_apart p v) at next v left) _ right
    (subst (λ a. else_made t (uses_before t b) p vs (past_hidden a next + length left.slots) other ≡ Some right) (sym is) r))))

match_is : (t : Tables) (b : ℕ) (p : Place) (vs : Vars) (next : ℕ) (at : Span) (e : ExprTree) (arms : BlockArmTrees)
    (x : Ex) (m : MadeArms) (apart : Bool) → is_apart p (term x) ≡ apart
    → term_in (value t (uses_before t b) vs None e) ≡ Some x
    → arms_made t (uses_before t b) p vs (past_hidden apart next) (type_of t.names (vars_of vs) None e) arms ≡ Some m
    → stmt_form t (uses_before t b) p vs next at (StmtForm.match e arms)
    ≡ Some (matching apart at next (type_of t.names (vars_of vs) None e) x m)
match_is t b p vs next at e arms x m apart is means a =
    subst (λ z. stmt_form t (uses_before t b) p vs next at (StmtForm.match e arms)
    ≡ Some (matching z at next (type_of t.names (vars_of vs) None e) x m)) is
    (then_is _ _ x _ means (map_is (matching (is_apart p (term x)) at next (type_of t.names (vars_of vs) None e) x) _ m
    (subst (λ z. arms_made t (uses_before t b) p vs (past_hidden z next) (type_of t.names (vars_of vs) None e) arms ≡ Some m)
    (sym is) a)))

returned_found : (t : Tables) (b : ℕ) (vs : Vars) (next : ℕ) (at : Span) (k : Kind) (e : ExprTree) (sts : Sts)
    (ks : List Kind)
    → Returns t b vs next at k e sts ks
    → option_map (returning at next k) (value t (uses_before t b) vs (Some k) e) ≡ Some (made sts ks)
returned_found t b vs next at k e sts ks (Returns.of_term {x = x} means is) =
    map_is (returning at next k) _ _ (found t b vs _ e _ means) ∙ ap (λ a. Some (returning_term a at next k x)) is
returned_found t b vs next at k e sts ks (Returns.of_reading_term {x = x} means is) =
    map_is (returning at next k) _ _ (found t b vs _ e _ means) ∙ ap (λ a. Some (returning_term a at next k x)) is
returned_found t b vs next at k e sts ks (Returns.of_formula {f = f} means is) =
    map_is (returning at next k) _ _ (found t b vs _ e _ means)
    ∙ ap (λ a. Some (through_slot at next k (set_apart a at (Decide at next f)))) is
returned_found t b vs next at k e sts ks (Returns.of_reading_formula {f = f} means is) =
    map_is (returning at next k) _ _ (found t b vs _ e _ means)
    ∙ ap (λ a. Some (through_slot at next k (set_apart a at (Decide at next f)))) is

-- # Statements

mutual
  stmt_found : (t : Tables) (b : ℕ) (p : Place) (vs : Vars) (next : ℕ) (s : StmtTree) (sts : Sts) (ks : List Kind)
      → Runs t b p vs next s sts ks → stmt t (uses_before t b) p vs next s ≡ Some (made sts ks)
  stmt_found t b p vs next s sts ks Runs.declares = refl
  stmt_found t b p vs next s sts ks (Runs.declares_with {x = x} {ty = ty} assigns) =
      map_is (with_kind (kind_of t.names ty)) _ _ (assigned_found t b p _ _ x _ sts assigns)
  stmt_found t b p vs next s sts ks (Runs.news {at = at} slot id) = both_is (λ slot n. just (New at slot n)) _ _ _ _ slot id
  stmt_found t b p vs next s sts ks (Runs.assigns assigns) = assigned_found t b p vs _ _ _ sts assigns
  stmt_found t b p vs next s sts ks (Runs.operates {at = at} {op = op} {args = args} means is) =
      then_is (operating p at) _ _ _ (found t b vs _ _ _ means)
      (ap (λ a. Some (just (set_apart (not a) at (Operate at op args)))) is)
  stmt_found t b p vs next s sts ks (Runs.operates_apart {at = at} {op = op} {args = args} means is) =
      then_is (operating p at) _ _ _ (found t b vs _ _ _ means)
      (ap (λ a. Some (just (set_apart (not a) at (Operate at op args)))) is)
  stmt_found t b p vs next s sts ks
      (Runs.branches {at = at} {e = e} {then_ = x} {other = other} {v = v} {first = left} {second = right} {ks = kinds} {js = more} means is l r) =
      if_is t b p vs next at e x other v (made left kinds) (made right more) false is (found t b vs _ e v means)
      (block_found t b p vs next x left kinds l) (else_found t b p vs _ other right more r)
  stmt_found t b p vs next s sts ks
      (Runs.branches_apart {at = at} {e = e} {then_ = x} {other = other} {v = v} {first = left} {second = right} {ks = kinds} {js = more} means is l r) =
      if_is t b p vs next at e x other v (made left kinds) (made right more) true is (found t b vs _ e v means)
      (block_found t b p vs _ x left kinds l) (else_found t b p vs _ other right more r)
  stmt_found t b p vs next s sts ks (Runs.matches {at = at} {e = e} {arms = arms} {x = x} {made = m} {ks = kinds} means is a) =
      match_is t b p vs next at e arms x (made_arms m kinds) false is (term_is _ x (found t b vs _ e _ means))
      (arms_found t b p vs next _ arms m kinds a)
  stmt_found t b p vs next s sts ks
      (Runs.matches_apart {at = at} {e = e} {arms = arms} {x = x} {made = m} {ks = kinds} means is a) =
      match_is t b p vs next at e arms x (made_arms m kinds) true is (term_is _ x (found t b vs _ e _ means))
      (arms_found t b p vs _ _ arms m kinds a)
  stmt_found t b p vs next s sts ks (Runs.is_atomic {at = at} body) =
      map_is (atomic at) _ _ (block_found t b (inside p) vs next _ _ ks body)
  stmt_found t b p vs next s sts ks (Runs.asserts {at = at} {v = v} means is) =
      map_is (asserted p at) _ _ (found t b vs _ _ v means)
      ∙ ap (λ a. Some (just (set_apart a at (Assert at (as_formula v))))) is
  stmt_found t b p vs next s sts ks (Runs.asserts_apart {at = at} {v = v} means is) =
      map_is (asserted p at) _ _ (found t b vs _ _ v means)
      ∙ ap (λ a. Some (just (set_apart a at (Assert at (as_formula v))))) is
  stmt_found t b p vs next s sts ks Runs.returns = refl
  stmt_found t b p vs next s sts ks (Runs.returns_with {at = at} {k = k} {e = e} is returns) =
      then_is _ _ k _ is (returned_found t b vs next at k e sts ks returns)

  pub block_found : (t : Tables) (b : ℕ) (p : Place) (vs : Vars) (next : ℕ) (x : BlockTree) (sts : Sts) (ks : List Kind)
      → BlockRuns t b p vs next x sts ks → block t (uses_before t b) p vs next x ≡ Some (made sts ks)
  block_found t b p vs next x sts ks (BlockRuns.block all) = all_found t b p vs next _ sts ks all

  all_found : (t : Tables) (b : ℕ) (p : Place) (vs : Vars) (next : ℕ) (stmts : StmtTrees) (sts : Sts) (ks : List Kind)
      → AllRun t b p vs next stmts sts ks → stmts_made t (uses_before t b) p vs next stmts ≡ Some (made sts ks)
  all_found t b p vs next stmts sts ks AllRun.no_stmt = refl
  all_found t b p vs next stmts sts ks (AllRun.more_stmts {s = s} {first = first} {rest = rest} {ks = kinds} {js = more} x xs) =
      then_is _ _ (made first kinds) _ (stmt_found t b p vs next s first kinds x)
      (map_is (before (made first kinds)) _ (made rest more) (all_found t b p _ _ _ rest more xs))

  else_found : (t : Tables) (b : ℕ) (p : Place) (vs : Vars) (next : ℕ) (x : ElseTree) (sts : Sts) (ks : List Kind)
      → ElseRuns t b p vs next x sts ks → else_made t (uses_before t b) p vs next x ≡ Some (made sts ks)
  else_found t b p vs next x sts ks ElseRuns.no_else = refl
  else_found t b p vs next x sts ks (ElseRuns.else_block body) = block_found t b p vs next _ sts ks body
  else_found t b p vs next x sts ks (ElseRuns.else_if s) = stmt_found t b p vs next _ sts ks s

  arms_found : (t : Tables) (b : ℕ) (p : Place) (vs : Vars) (next : ℕ) (k : Kind) (arms : BlockArmTrees) (m : StArms)
      (ks : List Kind)
      → ArmsRun t b p vs next k arms m ks → arms_made t (uses_before t b) p vs next k arms ≡ Some (made_arms m ks)
  arms_found t b p vs next k arms m ks ArmsRun.no_arm = refl
  arms_found t b p vs next k arms m ks
      (ArmsRun.more_arms {pattern = shape} {body = x} {con = con} {sts = sts} {rest = rest} {ks = kinds} {js = more} is body others) =
      then_is _ _ con _ is (then_is _ _ (made sts kinds) _ (block_found t b p _ _ x sts kinds body)
      (map_is (arm_with shape next (pattern_slots t.names k shape) con (made sts kinds)) _ (made_arms rest more)
      (arms_found t b p vs _ k _ rest more others)))
