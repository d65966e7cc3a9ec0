-- What expressions become, and what they pass.
use Rattle.std.specs.Prelude.{◌≡◌, ◌<◌, ◌≤◌, ◌↔◌, ℕ, Bool, true, false, [], Option, Some}
use Rattle.rp_grammar.specs.Trees.{ExprTree}
use Rattle.rp_value.specs.declared.tables.ConTable.{ConTable}
use Rattle.rp_lang.specs.Bounds.{is_small_ex, is_small_fo}
use Rattle.rp_lang.specs.Views.{expr_view, formula_view}
use Rattle.type_rules.specs.declared.kind.Kind.{Kind}
use Rattle.desugaring.specs.Values.{Value, term, formula, reads}
use Rattle.query_bodies.specs.declared.bodies.Facts.{Facts}
use Rattle.query_bodies.specs.Terms.{Said}
use Rattle.query_bodies.specs.Expanded.{said_under, uses_of}
use Rattle.query_bodies.specs.Measures.{most}
use Rattle.query_bodies.specs.Seen.{saids_in, known_in}
use Rattle.query_laws.specs.Sight.{Stands, value_for}
use Rattle.query_laws.specs.Told.{AreMeasured, AreTold, binders_of, depth_of}
use Rattle.reading.specs.Reads.{IsKept, sight_of}
use Rattle.lower_exprs.specs.declared.values.Passed.{Passed}
use Rattle.lower_exprs.specs.declared.values.Work.{Work}
use Rattle.lower_exprs.specs.declared.values.Value as code_value
use Rattle.lower_exprs.specs.declared.values.Value.TheVariants as value
use Rattle.lower_exprs.specs.declared.values.Made.{Made}
use Rattle.lower_exprs.specs.declared.values.Maker.{Maker}

abbrev pub value_view : code_value.Value → Value
value_view (value.Term e) = term (expr_view e)
value_view (value.Formula f) = formula (formula_view f)

-- both are terms, or both formulas
abbrev pub same_form : Value → Value → Bool
same_form (term d) (term e) = true
same_form (term d) (formula g) = false
same_form (formula f) (term e) = false
same_form (formula f) (formula g) = true

abbrev pub said_value : Work → Said → Option Value
said_value w s = said_under (uses_of w.bodies.now) [] 0 s

-- within the limits on one expression
abbrev pub is_small : ConTable → Value → Bool
is_small cons (term e) = is_small_ex e
is_small cons (formula f) = is_small_fo cons f

-- What was built is this value and small, where all is built, and else has its form alone.
pub record IsBuilt (w : Work) (v : Value) (value : code_value.Value) : Type 0 where
  pub form : same_form (value_view value) v ≡ true
  pub whole : w.building ≡ true → value_view value ≡ v
  pub small : w.building ≡ true → is_small w.cons.now v ≡ true

pub record StandsFor (w : Work) (v : Value) (made : Made) : Type 0 where
  pub reads_is : made.reads ≡ reads v
  pub value : IsBuilt w v made.value

-- the bodies of the queries are measured
abbrev pub AreMeasuredIn : Work → Type 0
AreMeasuredIn w = AreMeasured w.cons.now (saids_in w.bodies.now) (known_in w.bodies.now)

-- Where a declaration's expressions are made: they are read by the same tables and bodies, under no binder and without parameters.
pub record IsReady (m : Maker) : Type 0 where
  pub kept : IsKept m.reader
  pub stands : Stands (sight_of m.reader) []
  pub tables : m.reader.tables.now ≡ m.work.tables.now
  pub bodies : m.reader.bodies.now ≡ m.work.bodies.now
  pub binders : m.reader.binders ≡ 0
  pub measured : AreMeasuredIn m.work

abbrev pub IsBuiltOf : Work → Said → code_value.Value → Type 0
IsBuiltOf w s value = (v : Value) → said_value w s ≡ Some v → IsBuilt w v value

abbrev pub IsMade : Work → Said → Made → Type 0
IsMade w s made = AreMeasuredIn w → (v : Value) → said_value w s ≡ Some v → StandsFor w v made

abbrev pub Becomes : Maker → Option Kind → ExprTree → Made → Type 0
Becomes m asked e made =
    IsReady m → (v : Value) → value_for (sight_of m.reader) [] asked e ≡ Some v → StandsFor m.work v made

-- what is said is past a limit on one expression, where it becomes something
abbrev pub IsPast : Work → Said → Type 0
IsPast w s = (v : Value) → said_value w s ≡ Some v → is_small w.cons.now v ≡ false

-- where this is told of it
abbrev pub IsPastBy : Facts → Work → Said → Type 0
IsPastBy facts w s = (v : Value) → said_value w s ≡ Some v → AreTold w.cons.now v facts → is_small w.cons.now v ≡ false

abbrev pub IsPastOf : Work → Said → Type 0
IsPastOf w s = AreMeasuredIn w → IsPast w s

-- what an expression becomes
abbrev pub IsPastExpr : Maker → Option Kind → ExprTree → Type 0
IsPastExpr m asked e =
    IsReady m → (v : Value) → value_for (sight_of m.reader) [] asked e ≡ Some v → is_small m.work.cons.now v ≡ false

-- A limit is passed just where it was before, or where the value passes it. Past the greatest count nothing is said.
pub record Passes (cons : ConTable) (old : Passed) (v : Value) (new : Passed) : Type 0 where
  pub depth : (limit : ℕ) → limit < most → (new.depth ≤ limit) ↔ ((old.depth ≤ limit) × (depth_of v ≤ limit))
  pub binders : (limit : ℕ) → limit < most → (new.binders ≤ limit) ↔ ((old.binders ≤ limit) × (binders_of cons v ≤ limit))

pub record Notes (old : Maker) (v : Value) (new : Maker) : Type 0 where
  pub work : new.work ≡ old.work
  pub same : new.reader ≡ old.reader
  pub passed : Passes old.work.cons.now old.passed v new.passed

-- what is said is noted, and what an expression becomes, where it becomes something
abbrev pub NotesSaid : Maker → Said → Maker → Type 0
NotesSaid old s new = AreMeasuredIn old.work → (v : Value) → said_value old.work s ≡ Some v → Notes old v new

abbrev pub NotesExpr : Maker → Option Kind → ExprTree → Maker → Type 0
NotesExpr old asked e new =
    IsReady old → (v : Value) → value_for (sight_of old.reader) [] asked e ≡ Some v → Notes old v new
