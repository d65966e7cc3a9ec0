-- What statements become, with the slots that they bring.
use Rattle.std.specs.Prelude.{◌≡◌, ℕ, ◌+◌, Bool, true, false, ◌&&◌, ◌||◌, not, List, [], ◌∷◌, ◌++◌, length, Option, Some, None, option_map}
use Rattle.rp_span.specs.declared.Span.{Span}
use Rattle.rp_value.specs.declared.tables.Ty.{Ty}
use Rattle.rp_grammar.specs.Trees.{BlockArmTree, BlockArmTrees, BlockTree, ElseTree, ExprTree, Ident, PatternTree, StmtForm, StmtTree, StmtTrees}
use Rattle.rp_lang.specs.declared.expr.Expr.{Expr}
use Rattle.rp_lang.specs.declared.formula.Formula.{Formula}
use Rattle.rp_lang.specs.Exprs.{Ex, Exs, Slot}
use Rattle.rp_lang.specs.Formulas.{Fo, Holds}
use Rattle.rp_lang.specs.Stmts.{St, Sts, no_st, StArms}
use Rattle.rp_lang.specs.Sizes.{sts_count, st_arms_count}
use Rattle.rp_lang.specs.Views.{StArmView, expr_view, formula_view}
use Rattle.type_rules.specs.declared.kind.Kind.{Kind}
use Rattle.type_rules.specs.Kinds.{bool_kind, kind_of}
use Rattle.type_rules.specs.Matches.{bound_var, first_kind, other_kinds, pattern_vars}
use Rattle.type_rules.specs.Names.{Names}
use Rattle.desugaring.specs.Limits.{some_term, some_in_all, some_in_arms}
use Rattle.desugaring.specs.Parts.{each}
use Rattle.desugaring.specs.Tables.{arm_number, ty_of, up_from}
use Rattle.desugaring.specs.Values.{Value, term, as_formula, formula, reads}
use Rattle.desugaring.specs.Callees.{Vars}
use Rattle.desugaring.specs.Statements as spec
use Rattle.desugaring.specs.Statements.{Place, Made, MadeArms, append, one_st}
use Rattle.query_laws.specs.Sight.{Sight, uses_with, value_for, vars_in}
use Rattle.reading.specs.declared.reader.Known.TheVariants as known
use Rattle.reading.specs.declared.reader.Reader.{Reader}
use Rattle.reading.specs.Reads.{sight_of, with_var}
use Rattle.lower_exprs.specs.declared.values.Maker.{Maker}
use Rattle.lower_exprs.specs.declared.values.Made as code_made
use Rattle.query_bodies.specs.Terms.{Tes}
use Rattle.query_bodies.specs.Expanded as put
use Rattle.query_bodies.specs.Expanded.{uses_of}
use Rattle.lower_exprs.specs.Making.{AreMeasuredIn, IsReady, StandsFor, Notes, is_small}
use Rattle.lower_procs.specs.declared.writer.Frame as code_frame
use Rattle.lower_procs.specs.declared.writer.Writer.{Writer}
use Rattle.lower_procs.specs.Noting.{IsNoted, Passing, is_large_in, value_passing}

abbrev pub place_view : code_frame.Frame → Place
place_view f = record { result = f.result; inside_atomic = f.inside_atomic }

abbrev pub sight_in : Writer → Sight
sight_in w = sight_of w.maker.reader

abbrev pub vars_of : Writer → Vars
vars_of w = vars_in (sight_in w) []

-- # What a writer's expressions and statements become by the definitions

abbrev pub value_in : Maker → Option Kind → ExprTree → Option Value
value_in m asked e = value_for (sight_of m.reader) [] asked e

-- as a formula
abbrev pub claim_in : Maker → ExprTree → Option Value
claim_in m e = option_map (λ v. formula (as_formula v)) (value_in m (Some bool_kind) e)

abbrev pub assignment_in : Writer → code_frame.Frame → Span → Ident → ExprTree → Option Made
assignment_in w f at x e = spec.assignment (sight_in w).tables (uses_with (sight_in w).uses) (place_view f) (vars_of w) at x e

abbrev pub generation_in : Writer → Span → Ident → Ident → Option Made
generation_in w at x id = spec.generation (sight_in w).tables (vars_of w) at x id

-- where this is in sight, and the next slot has this number
abbrev pub stmt_at : code_frame.Frame → Reader → ℕ → StmtTree → Option Made
stmt_at f r next s = spec.stmt (sight_of r).tables (uses_with (sight_of r).uses) (place_view f) (vars_in (sight_of r) []) next s

abbrev pub stmts_at : code_frame.Frame → Reader → ℕ → StmtTrees → Option Made
stmts_at f r next ss = spec.stmts_made (sight_of r).tables (uses_with (sight_of r).uses) (place_view f) (vars_in (sight_of r) []) next ss

abbrev pub block_at : code_frame.Frame → Reader → ℕ → BlockTree → Option Made
block_at f r next b = spec.block (sight_of r).tables (uses_with (sight_of r).uses) (place_view f) (vars_in (sight_of r) []) next b

abbrev pub else_at : code_frame.Frame → Reader → ℕ → ElseTree → Option Made
else_at f r next x = spec.else_made (sight_of r).tables (uses_with (sight_of r).uses) (place_view f) (vars_in (sight_of r) []) next x

abbrev pub arms_at : code_frame.Frame → Reader → ℕ → Kind → BlockArmTrees → Option MadeArms
arms_at f r next k arms =
    spec.arms_made (sight_of r).tables (uses_with (sight_of r).uses) (place_view f) (vars_in (sight_of r) []) next k arms

abbrev pub stmt_in : Writer → code_frame.Frame → StmtTree → Option Made
stmt_in w f s = stmt_at f w.maker.reader (length w.slots) s

abbrev pub block_in : Writer → code_frame.Frame → BlockTree → Option Made
block_in w f b = block_at f w.maker.reader (length w.slots) b

abbrev pub else_in : Writer → code_frame.Frame → ElseTree → Option Made
else_in w f x = else_at f w.maker.reader (length w.slots) x

abbrev pub arms_in : Writer → code_frame.Frame → Kind → BlockArmTrees → Option MadeArms
arms_in w f k arms = arms_at f w.maker.reader (length w.slots) k arms

-- the block of an arm, behind the slots of its variables
abbrev pub arm_body_at : code_frame.Frame → Reader → ℕ → Kind → PatternTree → BlockTree → Option Made
arm_body_at f r next k shape b =
    spec.block (sight_of r).tables (uses_with (sight_of r).uses) (place_view f)
    (spec.in_pattern (sight_of r).tables.names (vars_in (sight_of r) []) next k shape) (next + length (pattern_vars shape)) b

abbrev pub arm_body_in : Writer → code_frame.Frame → Kind → PatternTree → BlockTree → Option Made
arm_body_in w f k shape b = arm_body_at f w.maker.reader (length w.slots) k shape b

-- # What a maker makes of expressions

abbrev pub Turns : Maker → Option Value → code_made.Made → Type 0
Turns m o made = IsReady m → (v : Value) → o ≡ Some v → StandsFor m.work v made

abbrev pub NotesValue : Maker → Option Value → Maker → Type 0
NotesValue old o new = IsReady old → (v : Value) → o ≡ Some v → Notes old v new

-- it is past a limit on one expression
abbrev pub IsPast : Maker → Option Value → Type 0
IsPast m o = IsReady m → (v : Value) → o ≡ Some v → is_small m.work.cons.now v ≡ false

-- terms with all uses of queries put in
abbrev pub terms_in : Maker → Tes → Option Exs
terms_in m es = put.terms (uses_of m.work.bodies.now) [] 0 es

pub record AreTerms (old : Maker) (wanted : Exs) (new : Maker) (made : Exs) : Type 0 where
  pub built : old.work.building ≡ true → made ≡ wanted
  pub reader : new.reader ≡ old.reader
  pub noted : IsNoted old (λ test. some_term test wanted) new

abbrev pub MakesTerms : Maker → Tes → Maker → Exs → Type 0
MakesTerms old es new made = AreMeasuredIn old.work → (wanted : Exs) → terms_in old es ≡ Some wanted → AreTerms old wanted new made

abbrev pub SomeIsPast : Maker → Tes → Type 0
SomeIsPast m es =
    AreMeasuredIn m.work → (wanted : Exs) → terms_in m es ≡ Some wanted → some_term (is_large_in m.work.cons.now) wanted ≡ true

-- # Slots, and variables that stand for them

-- the types of the slots go on by these kinds
pub record HaveSlots (old : Writer) (ks : List Kind) (new : Writer) : Type 0 where
  pub tys : List Ty
  pub are : each (ty_of (sight_in old).tables) ks ≡ Some tys
  pub behind : new.slots ≡ old.slots ++ tys

-- these variables in the slots from `next` on
abbrev pub with_slots : Reader → ℕ → List Ident → List Kind → Reader
with_slots r next [] ks = r
with_slots r next (x ∷ xs) ks =
    with_slots (with_var r (bound_var x (first_kind ks)) (known.Slot next)) (next + 1) xs (other_kinds ks)

-- what is in sight behind a statement
abbrev pub behind : ℕ → Reader → StmtTree → Reader
behind next r (StmtTree.node at (StmtForm.var x t e)) =
    with_var r (bound_var x (kind_of (sight_of r).tables.names t)) (known.Slot next)
behind next r (StmtTree.node at (StmtForm.new x id)) = r
behind next r (StmtTree.node at (StmtForm.assign x e)) = r
behind next r (StmtTree.node at (StmtForm.access a)) = r
behind next r (StmtTree.node at (StmtForm.if_ e b other)) = r
behind next r (StmtTree.node at (StmtForm.match e arms)) = r
behind next r (StmtTree.node at (StmtForm.atomic b)) = r
behind next r (StmtTree.node at (StmtForm.assert e)) = r
behind next r (StmtTree.node at (StmtForm.return e)) = r

-- # Values that go through a hidden slot

-- the statement that puts the value there, where it stands apart
abbrev pub hidden : Bool → Span → ℕ → Value → Sts
hidden false at next v = no_st
hidden true at next v = one_st (spec.block_of_one at (spec.assigned at next v))

abbrev pub hidden_kinds : Bool → Kind → List Kind
hidden_kinds false k = []
hidden_kinds true k = k ∷ []

-- what a condition is then, and what is matched on
abbrev pub test_of : Bool → ℕ → Value → Fo
test_of false next v = as_formula v
test_of true next v = Holds (Slot next)

abbrev pub on_of : Bool → ℕ → Ex → Ex
on_of false next e = e
on_of true next e = Slot next

-- the expressions of both
abbrev pub asking : Bool → Span → ℕ → Value → Value → Passing
asking apart at next v asked test = some_in_all test (hidden apart at next v) || value_passing asked test

abbrev pub is_term : Value → Bool
is_term (term e) = true
is_term (formula f) = false

abbrev pub formula_of : Value → Option Fo
formula_of (term e) = None
formula_of (formula f) = Some f

-- a term that reads nothing goes through none behind a `return`
abbrev pub is_plain : Value → Bool
is_plain v = is_term v && not (reads v)

-- # What was written

-- These slots came, and what these expressions pass is noted.
pub record Brings (old : Writer) (ks : List Kind) (passing : Passing) (new : Writer) : Type 0 where
  pub slots : HaveSlots old ks new
  pub noted : IsNoted old.maker passing new.maker

-- These statements were made: where all is built they are these, and else as many.
pub record AreStmts (w : Writer) (wanted made : Sts) : Type 0 where
  pub built : w.maker.work.building ≡ true → made ≡ wanted
  pub count : sts_count made ≡ sts_count wanted

pub record AreArms (w : Writer) (wanted made : StArms) : Type 0 where
  pub built : w.maker.work.building ≡ true → made ≡ wanted
  pub count : st_arms_count made ≡ st_arms_count wanted

-- What is made stands behind what was there, with this in sight.
pub record Adds (old : Writer) (m : Made) (sight : Reader) (before : Sts) (new : Writer) (after : Sts) : Type 0 where
  pub made : Sts
  pub is : after ≡ append before made
  pub are : AreStmts old m.body made
  pub reader : new.maker.reader ≡ sight
  pub brings : Brings old m.slots (λ test. some_in_all test m.body) new

-- A value is asked, or in its place the hidden slot that it was put into.
pub record Asks (old : Writer) (apart : Bool) (at : Span) (k : Kind) (v asked : Value) (before : Sts) (new : Writer) (after : Sts) (made : Value) : Type 0 where
  pub stmts : Sts
  pub is : after ≡ append before stmts
  pub are : AreStmts old (hidden apart at (length old.slots) v) stmts
  pub value : old.maker.work.building ≡ true → made ≡ asked
  pub reader : new.maker.reader ≡ old.maker.reader
  pub brings : Brings old (hidden_kinds apart k) (asking apart at (length old.slots) v asked) new

pub record AddsArms (old : Writer) (m : MadeArms) (new : Writer) (made : StArms) : Type 0 where
  pub are : AreArms old m.arms made
  pub reader : new.maker.reader ≡ old.maker.reader
  pub brings : Brings old m.slots (λ test. some_in_arms test m.arms) new

-- an arm, where its constructor has this number and its block becomes this
pub record AddsArm (old : Writer) (k : Kind) (shape : PatternTree) (con : ℕ) (body : Made) (new : Writer) (made : StArmView) : Type 0 where
  pub con_is : made.0 ≡ con
  pub slots_are : made.1 ≡ up_from (length old.slots) (length (pattern_vars shape))
  pub body_is : AreStmts old body.body made.2
  pub reader : new.maker.reader ≡ old.maker.reader
  pub brings : Brings old (spec.pattern_slots (sight_in old).tables.names k shape ++ body.slots) (λ test. some_in_all test body.body) new

-- where the definitions make something
abbrev pub Writes : Writer → Option Made → Reader → Sts → Writer → Sts → Type 0
Writes old o sight before new after = IsReady old.maker → (m : Made) → o ≡ Some m → Adds old m sight before new after

-- the same as a list of its own, with what was in sight before
abbrev pub WritesBlock : Writer → Option Made → Writer → Sts → Type 0
WritesBlock old o new made = Writes old o old.maker.reader no_st new made

abbrev pub WritesArm : Writer → code_frame.Frame → Kind → BlockArmTree → Writer → StArmView → Type 0
WritesArm old f k (BlockArmTree.arm shape b) new made =
    IsReady old.maker → (con : ℕ) (body : Made) → arm_number (sight_in old).tables k shape ≡ Some con
    → arm_body_in old f k shape b ≡ Some body → AddsArm old k shape con body new made

abbrev pub WritesArms : Writer → Option MadeArms → Writer → StArms → Type 0
WritesArms old o new made = IsReady old.maker → (m : MadeArms) → o ≡ Some m → AddsArms old m new made

-- a condition, as a formula, and a term that is matched on
abbrev pub condition_of : Writer → code_frame.Frame → Value → Value
condition_of w f v = formula (test_of (spec.is_apart (place_view f) v) (length w.slots) v)

abbrev pub term_of : Writer → code_frame.Frame → Ex → Value
term_of w f x = term (on_of (spec.is_apart (place_view f) (term x)) (length w.slots) x)

abbrev pub AsksCondition : Writer → code_frame.Frame → Span → ExprTree → Sts → Writer → Sts → Formula → Type 0
AsksCondition old f at e before new after test =
    IsReady old.maker → (v : Value) → value_in old.maker (Some bool_kind) e ≡ Some v
    → Asks old (spec.is_apart (place_view f) v) at bool_kind v (condition_of old f v) before new after (formula (formula_view test))

abbrev pub AsksTerm : Writer → code_frame.Frame → Span → Kind → ExprTree → Sts → Writer → Sts → Expr → Type 0
AsksTerm old f at k e before new after on =
    IsReady old.maker → (x : Ex) → value_in old.maker None e ≡ Some (term x)
    → Asks old (spec.is_apart (place_view f) (term x)) at k (term x) (term_of old f x) before new after (term (expr_view on))

-- # What is past a limit on one expression

abbrev pub ConditionIsPast : Writer → code_frame.Frame → Span → ExprTree → Type 0
ConditionIsPast w f at e =
    IsReady w.maker → (v : Value) → value_in w.maker (Some bool_kind) e ≡ Some v
    → asking (spec.is_apart (place_view f) v) at (length w.slots) v (condition_of w f v) (is_large_in w.maker.work.cons.now) ≡ true

abbrev pub TermIsPast : Writer → code_frame.Frame → Span → ExprTree → Type 0
TermIsPast w f at e =
    IsReady w.maker → (x : Ex) → value_in w.maker None e ≡ Some (term x)
    → asking (spec.is_apart (place_view f) (term x)) at (length w.slots) (term x) (term_of w f x) (is_large_in w.maker.work.cons.now) ≡ true

-- an expression of what is wanted is past a limit on one expression
abbrev pub ArePast : Writer → Option Made → Type 0
ArePast w o = IsReady w.maker → (m : Made) → o ≡ Some m → some_in_all (is_large_in w.maker.work.cons.now) m.body ≡ true

abbrev pub ArmsArePast : Writer → Option MadeArms → Type 0
ArmsArePast w o = IsReady w.maker → (m : MadeArms) → o ≡ Some m → some_in_arms (is_large_in w.maker.work.cons.now) m.arms ≡ true

abbrev pub ArmIsPast : Writer → code_frame.Frame → Kind → BlockArmTree → Type 0
ArmIsPast w f k (BlockArmTree.arm shape b) =
    IsReady w.maker → (body : Made) → arm_body_in w f k shape b ≡ Some body
    → some_in_all (is_large_in w.maker.work.cons.now) body.body ≡ true
