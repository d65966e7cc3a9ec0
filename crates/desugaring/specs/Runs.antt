-- What statements become, a line or two for each form. Each one that is made has the span of the one that it is made from.
use Rattle.std.specs.Prelude.{◌≡◌, ◌+◌, ℕ, true, false, List, [], ◌∷◌, ◌++◌, length, Some, None, option_and_then}
use Rattle.rp_span.specs.declared.Span.{Span}
use Rattle.rp_grammar.specs.Trees.{Ident, TypeTree, PatternTree, ExprTree, ExprForm, AccessTree, BlockTree, StmtTree, StmtForm, StmtTrees, ElseTree, BlockArmTree, BlockArmTrees}
use Rattle.rp_lang.specs.Exprs.{Ex, Slot, OpTerm, Exs}
use Rattle.rp_lang.specs.Formulas.{Fo, Holds}
use Rattle.rp_lang.specs.Stmts.{Put, Decide, New, Operate, If, Match, Atomic, Assert, Return, ReturnWith, Sts, no_st, also_st, StArms, no_st_arm, also_st_arm}
use Rattle.type_rules.specs.declared.kind.Kind.{Kind}
use Rattle.type_rules.specs.Names.{text_of}
use Rattle.type_rules.specs.Kinds.{bool_kind, kind_of}
use Rattle.type_rules.specs.Typing.{type_of}
use Rattle.type_rules.specs.Matches.{pattern_vars}
use Rattle.desugaring.specs.Tables.{Tables, arm_number, up_from}
use Rattle.desugaring.specs.Values.{Value, term, formula, as_formula, reads}
use Rattle.desugaring.specs.Callees.{Vars, Stand, vars_of, stand_named}
use Rattle.desugaring.specs.Meanings.{Means}
use Rattle.desugaring.specs.Statements.{Place, inside, one_st, append, block_of_one, assigned, is_apart, slot_for, with_slot, behind, in_pattern, pattern_slots, id_named}

-- `Assigns t b p vs at x e sts`: the statements for `x = e`, made from a statement that stands there
pub data Assigns (t : Tables) (b : ℕ) (p : Place) (vs : Vars) (at : Span) (x : Ident) (e : ExprTree) : Sts → Type 0 where
  -- `Put` where e is a plain term, and `Decide` elsewhere
  in_place : {s : Stand Ex} {slot : ℕ} {v : Value}
      → stand_named vs (text_of x) ≡ Some s → slot_for s ≡ Some slot
      → Means t b vs (Some s.kind) e v → is_apart p v ≡ false
      → Assigns t b p vs at x e (one_st (assigned at slot v))
  apart : {s : Stand Ex} {slot : ℕ} {v : Value}
      → stand_named vs (text_of x) ≡ Some s → slot_for s ≡ Some slot
      → Means t b vs (Some s.kind) e v → is_apart p v ≡ true
      → Assigns t b p vs at x e (one_st (block_of_one at (assigned at slot v)))

-- `Returns t b vs next at k e sts kinds`: the statements for a `return` of e where k is asked, and the slots that they bring
pub data Returns (t : Tables) (b : ℕ) (vs : Vars) (next : ℕ) (at : Span) (k : Kind) (e : ExprTree)
    : Sts → List Kind → Type 0 where
  of_term : {x : Ex} → Means t b vs (Some k) e (term x) → reads (term x) ≡ false
      → Returns t b vs next at k e (one_st (ReturnWith at x)) []
  -- a term that reads the store goes through a hidden slot
  of_reading_term : {x : Ex} → Means t b vs (Some k) e (term x) → reads (term x) ≡ true
      → Returns t b vs next at k e (also_st (block_of_one at (Put at next x)) (one_st (ReturnWith at (Slot next)))) (k ∷ [])
  -- and so does what is no plain term
  of_formula : {f : Fo} → Means t b vs (Some k) e (formula f) → reads (formula f) ≡ false
      → Returns t b vs next at k e (also_st (Decide at next f) (one_st (ReturnWith at (Slot next)))) (k ∷ [])
  of_reading_formula : {f : Fo} → Means t b vs (Some k) e (formula f) → reads (formula f) ≡ true
      → Returns t b vs next at k e (also_st (block_of_one at (Decide at next f)) (one_st (ReturnWith at (Slot next)))) (k ∷ [])

-- `Runs t b p vs next s sts kinds`: in declaration number b, at this place, with these variables in sight, the statement s
-- becomes sts, which bring slots of these types from the number `next` on.
mutual
  pub data Runs (t : Tables) (b : ℕ) : Place → Vars → ℕ → StmtTree → Sts → List Kind → Type 0 where
    declares : {p : Place} {vs : Vars} {next : ℕ} {at : Span} {x : Ident} {ty : TypeTree}
        → Runs t b p vs next (StmtTree.node at (StmtForm.var x ty None)) no_st (kind_of t.names ty ∷ [])
    -- the declaration, and then `x = e`
    declares_with : {p : Place} {vs : Vars} {next : ℕ} {at : Span} {x : Ident} {ty : TypeTree} {e : ExprTree} {sts : Sts}
        → Assigns t b p (with_slot t.names vs next x ty) at x e sts
        → Runs t b p vs next (StmtTree.node at (StmtForm.var x ty (Some e))) sts (kind_of t.names ty ∷ [])
    news : {p : Place} {vs : Vars} {next : ℕ} {at : Span} {x id : Ident} {slot n : ℕ}
        → option_and_then slot_for (stand_named vs (text_of x)) ≡ Some slot → id_named t (text_of id) ≡ Some n
        → Runs t b p vs next (StmtTree.node at (StmtForm.new x id)) (one_st (New at slot n)) []
    assigns : {p : Place} {vs : Vars} {next : ℕ} {at : Span} {x : Ident} {e : ExprTree} {sts : Sts}
        → Assigns t b p vs at x e sts
        → Runs t b p vs next (StmtTree.node at (StmtForm.assign x e)) sts []
    operates : {p : Place} {vs : Vars} {next : ℕ} {at : Span} {a : AccessTree} {op : ℕ} {args : Exs}
        → Means t b vs None (ExprTree.node at (ExprForm.access a)) (term (OpTerm op args)) → p.inside_atomic ≡ true
        → Runs t b p vs next (StmtTree.node at (StmtForm.access a)) (one_st (Operate at op args)) []
    -- outside `atomic` an operation is an atomic block of its own
    operates_apart : {p : Place} {vs : Vars} {next : ℕ} {at : Span} {a : AccessTree} {op : ℕ} {args : Exs}
        → Means t b vs None (ExprTree.node at (ExprForm.access a)) (term (OpTerm op args)) → p.inside_atomic ≡ false
        → Runs t b p vs next (StmtTree.node at (StmtForm.access a)) (one_st (block_of_one at (Operate at op args))) []
    branches : {p : Place} {vs : Vars} {next : ℕ} {at : Span} {e : ExprTree} {then_ : BlockTree} {other : ElseTree}
        {v : Value} {first second : Sts} {ks js : List Kind}
        → Means t b vs (Some bool_kind) e v → is_apart p v ≡ false
        → BlockRuns t b p vs next then_ first ks → ElseRuns t b p vs (next + length ks) other second js
        → Runs t b p vs next (StmtTree.node at (StmtForm.if_ e then_ other)) (one_st (If at (as_formula v) first second))
        (ks ++ js)
    -- a condition that reads the store is put into a hidden slot first
    branches_apart : {p : Place} {vs : Vars} {next : ℕ} {at : Span} {e : ExprTree} {then_ : BlockTree} {other : ElseTree}
        {v : Value} {first second : Sts} {ks js : List Kind}
        → Means t b vs (Some bool_kind) e v → is_apart p v ≡ true
        → BlockRuns t b p vs (next + 1) then_ first ks → ElseRuns t b p vs (next + 1 + length ks) other second js
        → Runs t b p vs next (StmtTree.node at (StmtForm.if_ e then_ other))
        (also_st (block_of_one at (assigned at next v)) (one_st (If at (Holds (Slot next)) first second)))
        (bool_kind ∷ ks ++ js)
    matches : {p : Place} {vs : Vars} {next : ℕ} {at : Span} {e : ExprTree} {arms : BlockArmTrees} {x : Ex} {made : StArms} {ks : List Kind}
        → Means t b vs None e (term x) → is_apart p (term x) ≡ false
        → ArmsRun t b p vs next (type_of t.names (vars_of vs) None e) arms made ks
        → Runs t b p vs next (StmtTree.node at (StmtForm.match e arms)) (one_st (Match at x made)) ks
    matches_apart : {p : Place} {vs : Vars} {next : ℕ} {at : Span} {e : ExprTree} {arms : BlockArmTrees} {x : Ex} {made : StArms} {ks : List Kind}
        → Means t b vs None e (term x) → is_apart p (term x) ≡ true
        → ArmsRun t b p vs (next + 1) (type_of t.names (vars_of vs) None e) arms made ks
        → Runs t b p vs next (StmtTree.node at (StmtForm.match e arms))
        (also_st (block_of_one at (Put at next x)) (one_st (Match at (Slot next) made)))
        (type_of t.names (vars_of vs) None e ∷ ks)
    is_atomic : {p : Place} {vs : Vars} {next : ℕ} {at : Span} {body : BlockTree} {sts : Sts} {ks : List Kind}
        → BlockRuns t b (inside p) vs next body sts ks
        → Runs t b p vs next (StmtTree.node at (StmtForm.atomic body)) (one_st (Atomic at sts)) ks
    asserts : {p : Place} {vs : Vars} {next : ℕ} {at : Span} {e : ExprTree} {v : Value}
        → Means t b vs (Some bool_kind) e v → is_apart p v ≡ false
        → Runs t b p vs next (StmtTree.node at (StmtForm.assert e)) (one_st (Assert at (as_formula v))) []
    asserts_apart : {p : Place} {vs : Vars} {next : ℕ} {at : Span} {e : ExprTree} {v : Value}
        → Means t b vs (Some bool_kind) e v → is_apart p v ≡ true
        → Runs t b p vs next (StmtTree.node at (StmtForm.assert e)) (one_st (block_of_one at (Assert at (as_formula v)))) []
    returns : {p : Place} {vs : Vars} {next : ℕ} {at : Span}
        → Runs t b p vs next (StmtTree.node at (StmtForm.return None)) (one_st (Return at)) []
    returns_with : {p : Place} {vs : Vars} {next : ℕ} {at : Span} {k : Kind} {e : ExprTree} {sts : Sts} {ks : List Kind}
        → p.result ≡ Some k → Returns t b vs next at k e sts ks
        → Runs t b p vs next (StmtTree.node at (StmtForm.return (Some e))) sts ks

  pub data BlockRuns (t : Tables) (b : ℕ) : Place → Vars → ℕ → BlockTree → Sts → List Kind → Type 0 where
    block : {p : Place} {vs : Vars} {next : ℕ} {at : Span} {stmts : StmtTrees} {sts : Sts} {ks : List Kind}
        → AllRun t b p vs next stmts sts ks → BlockRuns t b p vs next (BlockTree.block at stmts) sts ks

  pub data AllRun (t : Tables) (b : ℕ) : Place → Vars → ℕ → StmtTrees → Sts → List Kind → Type 0 where
    no_stmt : {p : Place} {vs : Vars} {next : ℕ} → AllRun t b p vs next StmtTrees.no_stmts no_st []
    more_stmts : {p : Place} {vs : Vars} {next : ℕ} {s : StmtTree} {stmts : StmtTrees} {first rest : Sts} {ks js : List Kind}
        → Runs t b p vs next s first ks → AllRun t b p (behind t.names vs next s) (next + length ks) stmts rest js
        → AllRun t b p vs next (StmtTrees.more_stmts s stmts) (append first rest) (ks ++ js)

  -- a missing `else` is an empty one
  pub data ElseRuns (t : Tables) (b : ℕ) : Place → Vars → ℕ → ElseTree → Sts → List Kind → Type 0 where
    no_else : {p : Place} {vs : Vars} {next : ℕ} → ElseRuns t b p vs next ElseTree.no_else no_st []
    else_block : {p : Place} {vs : Vars} {next : ℕ} {body : BlockTree} {sts : Sts} {ks : List Kind}
        → BlockRuns t b p vs next body sts ks → ElseRuns t b p vs next (ElseTree.else_block body) sts ks
    else_if : {p : Place} {vs : Vars} {next : ℕ} {s : StmtTree} {sts : Sts} {ks : List Kind}
        → Runs t b p vs next s sts ks → ElseRuns t b p vs next (ElseTree.else_if s) sts ks

  -- arms of a `match` on a term of this type; a pattern's variables have the next slots
  pub data ArmsRun (t : Tables) (b : ℕ) : Place → Vars → ℕ → Kind → BlockArmTrees → StArms → List Kind → Type 0 where
    no_arm : {p : Place} {vs : Vars} {next : ℕ} {k : Kind}
        → ArmsRun t b p vs next k BlockArmTrees.no_block_arms no_st_arm []
    more_arms : {p : Place} {vs : Vars} {next : ℕ} {k : Kind} {pattern : PatternTree} {body : BlockTree} {arms : BlockArmTrees}
        {con : ℕ} {sts : Sts} {rest : StArms} {ks js : List Kind}
        → arm_number t k pattern ≡ Some con
        → BlockRuns t b p (in_pattern t.names vs next k pattern) (next + length (pattern_vars pattern)) body sts ks
        → ArmsRun t b p vs (next + length (pattern_vars pattern) + length ks) k arms rest js
        → ArmsRun t b p vs next k (BlockArmTrees.more_block_arms (BlockArmTree.arm pattern body) arms)
        (also_st_arm con (up_from next (length (pattern_vars pattern))) sts rest) (pattern_slots t.names k pattern ++ ks ++ js)
