-- What statements become, computed by recursion on their trees. `Runs` says it as a relation; they are proved the same.
use Rattle.std.specs.Prelude.{ℕ, ◌+◌, Bool, true, false, ◌&&◌, not, List, [], ◌∷◌, ◌++◌, length, Option, Some, None, option_map, option_and_then, if◌then◌else◌}
use Rattle.rp_span.specs.declared.Span.{Span}
use Rattle.rp_value.specs.declared.tables.Ty.{Ty}
use Rattle.rp_value.specs.declared.tables.Ty.TheVariants as ty
use Rattle.rp_grammar.specs.Trees.{Ident, TypeTree, PatternTree, ExprTree, ExprForm, BlockTree, StmtTree, StmtForm, StmtTrees, ElseTree, BlockArmTree, BlockArmTrees}
use Rattle.rp_lang.specs.Exprs.{Ex, Slot, OpTerm}
use Rattle.rp_lang.specs.Formulas.{Holds}
use Rattle.rp_lang.specs.Stmts.{St, Put, Decide, New, Operate, If, Match, Atomic, Assert, Return, ReturnWith, Sts, no_st, also_st, StArms, no_st_arm, also_st_arm}
use Rattle.type_rules.specs.declared.kind.Kind.{Kind}
use Rattle.type_rules.specs.Names.{Name, Names, text_of, type_number}
use Rattle.type_rules.specs.Kinds.{bool_kind, kind_of, named_kind}
use Rattle.type_rules.specs.Typing.{type_of}
use Rattle.type_rules.specs.Matches.{pattern_vars, pattern_name, pattern_kinds, first_kind, other_kinds}
use Rattle.desugaring.specs.Parts.{both}
use Rattle.desugaring.specs.Tables.{Tables, ty_of, arm_number, up_from}
use Rattle.desugaring.specs.Values.{Value, term, formula, as_formula, reads}
use Rattle.desugaring.specs.Callees.{Vars, Stand, stand, vars_of, stand_named}
use Rattle.desugaring.specs.Expressions.{Uses, value, term_in}

-- the procedure and the block in which a statement stands
pub record Place : Type 0 where
  pub result : Option Kind
  pub inside_atomic : Bool

abbrev pub inside : Place → Place
inside p = record p { inside_atomic = true }

-- # Statements with the span of the one that they are made from

abbrev pub one_st : St → Sts
one_st st = also_st st no_st

abbrev pub append : Sts → Sts → Sts
append no_st rest = rest
append (also_st st sts) rest = also_st st (append sts rest)

abbrev pub block_of_one : Span → St → St
block_of_one at st = Atomic at (one_st st)

-- a slot gets a value
abbrev pub assigned : Span → ℕ → Value → St
assigned at slot (term e) = Put at slot e
assigned at slot (formula f) = Decide at slot f

-- outside `atomic`, what reads the store stands apart, in an atomic block of its own
abbrev pub is_apart : Place → Value → Bool
is_apart p v = not p.inside_atomic && reads v

-- # Slots

-- the variable's slot
abbrev pub slot_in : Ex → Option ℕ
slot_in (Slot s) = Some s
slot_in _ = None

abbrev pub slot_for : Stand Ex → Option ℕ
slot_for s = slot_in s.known

-- variables in the slots from `next` on
abbrev pub slotted : Vars → ℕ → List Ident → List Kind → Vars
slotted vs next [] ks = vs
slotted vs next (x ∷ xs) ks = slotted (vs ++ stand (text_of x) (first_kind ks) (Slot next) ∷ []) (next + 1) xs (other_kinds ks)

abbrev pub slot_kinds : List Ident → List Kind → List Kind
slot_kinds [] ks = []
slot_kinds (x ∷ xs) ks = first_kind ks ∷ slot_kinds xs (other_kinds ks)

-- with a declared variable, whose slot is the next one
abbrev pub with_slot : Names → Vars → ℕ → Ident → TypeTree → Vars
with_slot n vs next x t = vs ++ stand (text_of x) (kind_of n t) (Slot next) ∷ []

-- the variables in sight behind a statement
abbrev pub behind : Names → Vars → ℕ → StmtTree → Vars
behind n vs next (StmtTree.node at (StmtForm.var x t e)) = with_slot n vs next x t
behind n vs next _ = vs

abbrev pub in_pattern : Names → Vars → ℕ → Kind → PatternTree → Vars
in_pattern n vs next k p = slotted vs next (pattern_vars p) (pattern_kinds n k (pattern_name p))

-- the types of the slots of a pattern's variables
abbrev pub pattern_slots : Names → Kind → PatternTree → List Kind
pattern_slots n k p = slot_kinds (pattern_vars p) (pattern_kinds n k (pattern_name p))

-- # What is made: statements, and the types of the slots that they bring, from the next one on

pub record Made : Type 0 where
  pub body : Sts
  pub slots : List Kind

pub record MadeArms : Type 0 where
  pub arms : StArms
  pub slots : List Kind

abbrev pub made : Sts → List Kind → Made
made body slots = record { body = body; slots = slots }

-- without slots
abbrev pub just : St → Made
just st = made (one_st st) []

abbrev pub before : Made → Made → Made
before first rest = made (append first.body rest.body) (first.slots ++ rest.slots)

abbrev pub with_kind : Kind → Made → Made
with_kind k m = made m.body (k ∷ m.slots)

abbrev pub set_apart : Bool → Span → St → St
set_apart apart at st = if apart then block_of_one at st else st

-- an `if` on a condition, or on the hidden slot that it is put into first
abbrev pub branching : Bool → Span → ℕ → Value → Made → Made → Made
branching false at next v left right = made (one_st (If at (as_formula v) left.body right.body)) (left.slots ++ right.slots)
branching true at next v left right =
    made (also_st (block_of_one at (assigned at next v)) (one_st (If at (Holds (Slot next)) left.body right.body)))
    (bool_kind ∷ left.slots ++ right.slots)

abbrev pub matching : Bool → Span → ℕ → Kind → Ex → MadeArms → Made
matching false at next k e arms = made (one_st (Match at e arms.arms)) arms.slots
matching true at next k e arms =
    made (also_st (block_of_one at (Put at next e)) (one_st (Match at (Slot next) arms.arms))) (k ∷ arms.slots)

-- the first slot behind a hidden one
abbrev pub past_hidden : Bool → ℕ → ℕ
past_hidden apart next = if apart then next + 1 else next

-- what reads the store, and what is no plain term, goes through a hidden slot
abbrev pub through_slot : Span → ℕ → Kind → St → Made
through_slot at next k first = made (also_st first (one_st (ReturnWith at (Slot next)))) (k ∷ [])

abbrev pub returning_term : Bool → Span → ℕ → Kind → Ex → Made
returning_term false at next k e = just (ReturnWith at e)
returning_term true at next k e = through_slot at next k (block_of_one at (Put at next e))

abbrev pub returning : Span → ℕ → Kind → Value → Made
returning at next k (term e) = returning_term (reads (term e)) at next k e
returning at next k (formula f) = through_slot at next k (set_apart (reads (formula f)) at (Decide at next f))

abbrev pub arm_with : PatternTree → ℕ → List Kind → ℕ → Made → MadeArms → MadeArms
arm_with p next kinds con body rest = record {
  arms = also_st_arm con (up_from next (length (pattern_vars p))) body.body rest.arms;
  slots = kinds ++ body.slots ++ rest.slots;
}

-- # Statements

abbrev pub assigned_to : Place → Span → ℕ → Value → Made
assigned_to p at slot v = just (set_apart (is_apart p v) at (assigned at slot v))

-- `x = e`
abbrev pub assignment_to : Tables → Uses → Place → Vars → Span → ExprTree → Stand Ex → Option Made
assignment_to t uses p vs at e s = both (assigned_to p at) (slot_for s) (value t uses vs (Some s.kind) e)

abbrev pub assignment : Tables → Uses → Place → Vars → Span → Ident → ExprTree → Option Made
assignment t uses p vs at x e = option_and_then (assignment_to t uses p vs at e) (stand_named vs (text_of x))

abbrev pub declaration : Tables → Uses → Place → Vars → Span → Ident → TypeTree → Option ExprTree → Option Made
declaration t uses p vs at x ty None = Some (made no_st [])
declaration t uses p vs at x ty (Some e) = assignment t uses p vs at x e

abbrev pub id_number : Ty → Option ℕ
id_number (ty.Atom n) = Some n
id_number _ = None

-- the id type of this name
abbrev pub id_named : Tables → Name → Option ℕ
id_named t x = option_and_then id_number (ty_of t (named_kind (type_number t.names x)))

abbrev pub generation : Tables → Vars → Span → Ident → Ident → Option Made
generation t vs at x id =
    both (λ slot n. just (New at slot n)) (option_and_then slot_for (stand_named vs (text_of x))) (id_named t (text_of id))

-- an operation outside `atomic` is an atomic block of its own
abbrev pub operating : Place → Span → Value → Option Made
operating p at (term (OpTerm op args)) = Some (just (set_apart (not p.inside_atomic) at (Operate at op args)))
operating p at _ = None

abbrev pub asserted : Place → Span → Value → Made
asserted p at v = just (set_apart (is_apart p v) at (Assert at (as_formula v)))

abbrev pub return : Tables → Uses → Place → Vars → ℕ → Span → Option ExprTree → Option Made
return t uses p vs next at None = Some (just (Return at))
return t uses p vs next at (Some e) =
    option_and_then (λ k. option_map (returning at next k) (value t uses vs (Some k) e)) p.result

abbrev pub atomic : Span → Made → Made
atomic at m = made (one_st (Atomic at m.body)) m.slots

abbrev mutual
  -- `next` is the number of the next slot
  pub stmt : Tables → Uses → Place → Vars → ℕ → StmtTree → Option Made
  stmt t uses p vs next (StmtTree.node at form) = stmt_form t uses p vs next at form

  pub stmt_form : Tables → Uses → Place → Vars → ℕ → Span → StmtForm → Option Made
  stmt_form t uses p vs next at (StmtForm.var x ty e) =
      option_map (with_kind (kind_of t.names ty)) (declaration t uses p (with_slot t.names vs next x ty) at x ty e)
  stmt_form t uses p vs next at (StmtForm.new x id) = generation t vs at x id
  stmt_form t uses p vs next at (StmtForm.assign x e) = assignment t uses p vs at x e
  stmt_form t uses p vs next at (StmtForm.access a) =
      option_and_then (operating p at) (value t uses vs None (ExprTree.node at (ExprForm.access a)))
  stmt_form t uses p vs next at (StmtForm.if_ e b other) =
      option_and_then (λ v. option_and_then (λ left.
      option_map (branching (is_apart p v) at next v left)
      (else_made t uses p vs (past_hidden (is_apart p v) next + length left.slots) other))
      (block t uses p vs (past_hidden (is_apart p v) next) b))
      (value t uses vs (Some bool_kind) e)
  stmt_form t uses p vs next at (StmtForm.match e arms) =
      option_and_then (λ x.
      option_map (matching (is_apart p (term x)) at next (type_of t.names (vars_of vs) None e) x)
      (arms_made t uses p vs (past_hidden (is_apart p (term x)) next) (type_of t.names (vars_of vs) None e) arms))
      (term_in (value t uses vs None e))
  stmt_form t uses p vs next at (StmtForm.atomic b) = option_map (atomic at) (block t uses (inside p) vs next b)
  stmt_form t uses p vs next at (StmtForm.assert e) = option_map (asserted p at) (value t uses vs (Some bool_kind) e)
  stmt_form t uses p vs next at (StmtForm.return e) = return t uses p vs next at e

  pub block : Tables → Uses → Place → Vars → ℕ → BlockTree → Option Made
  block t uses p vs next (BlockTree.block at stmts) = stmts_made t uses p vs next stmts

  pub stmts_made : Tables → Uses → Place → Vars → ℕ → StmtTrees → Option Made
  stmts_made t uses p vs next StmtTrees.no_stmts = Some (made no_st [])
  stmts_made t uses p vs next (StmtTrees.more_stmts s stmts) =
      option_and_then (λ first. option_map (before first)
      (stmts_made t uses p (behind t.names vs next s) (next + length first.slots) stmts))
      (stmt t uses p vs next s)

  pub else_made : Tables → Uses → Place → Vars → ℕ → ElseTree → Option Made
  else_made t uses p vs next ElseTree.no_else = Some (made no_st [])
  else_made t uses p vs next (ElseTree.else_block b) = block t uses p vs next b
  else_made t uses p vs next (ElseTree.else_if s) = stmt t uses p vs next s

  -- arms of a match on a term of this type
  pub arms_made : Tables → Uses → Place → Vars → ℕ → Kind → BlockArmTrees → Option MadeArms
  arms_made t uses p vs next k BlockArmTrees.no_block_arms = Some (record { arms = no_st_arm; slots = [] })
  arms_made t uses p vs next k (BlockArmTrees.more_block_arms (BlockArmTree.arm shape b) arms) =
      option_and_then (λ con. option_and_then (λ body.
      option_map (arm_with shape next (pattern_slots t.names k shape) con body)
      (arms_made t uses p vs (next + length (pattern_vars shape) + length body.slots) k arms))
      (block t uses p (in_pattern t.names vs next k shape) (next + length (pattern_vars shape)) b))
      (arm_number t k shape)
