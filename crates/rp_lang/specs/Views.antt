-- What definitions speak of, of the types of the program's code.
use Rattle.std.specs.Prelude.{ℕ, List, [], ◌∷◌, map, Some, None}
use Rattle.rp_span.specs.declared.Span.{Span}
use Rattle.rp_lang.specs.declared.crdt.Crdt.{Crdt}
use Rattle.rp_lang.specs.declared.crdt.Field.{Field}
use Rattle.rp_lang.specs.declared.crdt.Crdt.TheOpen as crdt
use Rattle.rp_lang.specs.declared.crdt.Crdt.TheFolds.{fold-Crdt, fold-Field}
use Rattle.rp_lang.specs.declared.expr.Expr.{Expr}
use Rattle.rp_lang.specs.declared.expr.Expr.TheOpen as expr
use Rattle.rp_lang.specs.declared.expr.Expr.TheFolds.{fold-Expr}
use Rattle.rp_lang.specs.declared.formula.Formula.{Formula}
use Rattle.rp_lang.specs.declared.formula.Arm.{Arm}
use Rattle.rp_lang.specs.declared.formula.Formula.TheOpen as formula
use Rattle.rp_lang.specs.declared.formula.Formula.TheFolds.{fold-Formula, fold-Arm}
use Rattle.rp_lang.specs.declared.stmt.Stmt.{Stmt}
use Rattle.rp_lang.specs.declared.stmt.StmtArm.{StmtArm}
use Rattle.rp_lang.specs.declared.stmt.StmtKind.{StmtKind}
use Rattle.rp_lang.specs.declared.stmt.StmtKind.TheOpen as stmt
use Rattle.rp_lang.specs.declared.stmt.StmtKind.TheFolds.{fold-StmtKind, fold-Stmt, fold-StmtArm}
use Rattle.rp_value.specs.declared.tables.TypeTable.{TypeTable}
use Rattle.rp_value.specs.declared.tables.ConTable.{ConTable}
use Rattle.rp_lang.specs.declared.op.OpDecl.{OpDecl}
use Rattle.rp_lang.specs.declared.query.QueryDecl.{QueryDecl}
use Rattle.rp_lang.specs.declared.root.Root.{Root}
use Rattle.rp_lang.specs.declared.inv.InvDecl.{InvDecl}
use Rattle.rp_lang.specs.declared.proc.ProcDecl.{ProcDecl}
use Rattle.rp_lang.specs.Crdts as cr
use Rattle.rp_lang.specs.Crdts.{Cr, CrFields, no_field, also_field}
use Rattle.rp_lang.specs.Exprs as ex
use Rattle.rp_lang.specs.Exprs.{Ex, Exs, no_ex, also_ex}
use Rattle.rp_lang.specs.Formulas as fo
use Rattle.rp_lang.specs.Formulas.{Fo, Fos, no_fo, also_fo, Arms, no_arm, also_arm}
use Rattle.rp_lang.specs.Stmts as st
use Rattle.rp_lang.specs.Stmts.{St, Sts, no_st, also_st, StArms, no_st_arm, also_st_arm}
use Rattle.rp_lang.specs.Programs.{Rt, Inv, Proc, Prog}

-- # Replicated data types

abbrev pub FieldView : Type 0
FieldView = List ℕ × Cr

abbrev pub fields_of : List FieldView → CrFields
fields_of [] = no_field
fields_of (f ∷ fs) = also_field f.0 f.1 (fields_of fs)

abbrev pub crdt_step : crdt.Crdt-F Cr FieldView → Cr
crdt_step (crdt.SetAw ty) = cr.SetAw ty
crdt_step (crdt.SetRw ty) = cr.SetRw ty
crdt_step (crdt.Reg ty) = cr.Reg ty
crdt_step (crdt.MvReg ty) = cr.MvReg ty
crdt_step crdt.Counter = cr.Counter
crdt_step (crdt.MapUw keys c) = cr.MapUw keys c
crdt_step (crdt.MapDw keys c) = cr.MapDw keys c
crdt_step (crdt.Struct fields) = cr.Struct (fields_of fields)

abbrev pub field_step : crdt.Field-F Cr FieldView → FieldView
field_step f = (f.name, f.crdt)

abbrev pub crdt_view : Crdt → Cr
crdt_view = fold-Crdt Cr FieldView crdt_step field_step

abbrev pub crdt_field_view : Field → FieldView
crdt_field_view = fold-Field Cr FieldView crdt_step field_step

abbrev pub crdt_fields_view : List Field → CrFields
crdt_fields_view fields = fields_of (map crdt_field_view fields)

-- # Expressions

abbrev pub exs_of : List Ex → Exs
exs_of [] = no_ex
exs_of (e ∷ es) = also_ex e (exs_of es)

abbrev pub expr_step : expr.Expr-F Ex → Ex
expr_step (expr.Slot s) = ex.Slot s
expr_step (expr.Bound n) = ex.Bound n
expr_step (expr.Int n) = ex.Int n
expr_step (expr.Str bytes) = ex.Str bytes
expr_step (expr.Con con args) = ex.Con con (exs_of args)
expr_step (expr.Plus e n) = ex.Plus e n
expr_step (expr.Add a b) = ex.Add a b
expr_step (expr.Sub a b) = ex.Sub a b
expr_step (expr.Query query args) = ex.Query query (exs_of args)
expr_step (expr.OpOf call) = ex.OpOf call
expr_step (expr.OpTerm op args) = ex.OpTerm op (exs_of args)
expr_step (expr.OriginOf call) = ex.OriginOf call
expr_step (expr.InfoOf inv) = ex.InfoOf inv
expr_step (expr.InfoTerm proc args) = ex.InfoTerm proc (exs_of args)
expr_step (expr.ResultOf inv) = ex.ResultOf inv
expr_step (expr.ResultTerm proc None) = ex.ResultTerm proc
expr_step (expr.ResultTerm proc (Some value)) = ex.ResultWith proc value
expr_step expr.Unreturned = ex.Unreturned

abbrev pub expr_view : Expr → Ex
expr_view = fold-Expr Ex expr_step

abbrev pub exprs_view : List Expr → Exs
exprs_view es = exs_of (map expr_view es)

-- # Formulas

abbrev pub ArmView : Type 0
ArmView = ℕ × Fo

abbrev pub fos_of : List Fo → Fos
fos_of [] = no_fo
fos_of (f ∷ fs) = also_fo f (fos_of fs)

abbrev pub arms_of : List ArmView → Arms
arms_of [] = no_arm
arms_of (a ∷ as_) = also_arm a.0 a.1 (arms_of as_)

abbrev pub formula_step : formula.Formula-F Fo ArmView → Fo
formula_step (formula.And parts) = fo.And (fos_of parts)
formula_step (formula.Or parts) = fo.Or (fos_of parts)
formula_step (formula.Not f) = fo.Not f
formula_step (formula.Implies a b) = fo.Implies a b
formula_step (formula.All ty body) = fo.All ty body
formula_step (formula.Any ty body) = fo.Any ty body
formula_step (formula.Holds e) = fo.Holds (expr_view e)
formula_step (formula.Equal a b) = fo.Equal (expr_view a) (expr_view b)
formula_step (formula.Less a b) = fo.Less (expr_view a) (expr_view b)
formula_step (formula.AtMost a b) = fo.AtMost (expr_view a) (expr_view b)
formula_step (formula.Visible call) = fo.Visible (expr_view call)
formula_step (formula.Before a b) = fo.Before (expr_view a) (expr_view b)
formula_step (formula.Same a b) = fo.Same (expr_view a) (expr_view b)
formula_step (formula.Match on arms) = fo.Match (expr_view on) (arms_of arms)

abbrev pub arm_step : formula.Arm-F Fo ArmView → ArmView
arm_step a = (a.con, a.body)

abbrev pub formula_view : Formula → Fo
formula_view = fold-Formula Fo ArmView formula_step arm_step

abbrev pub formulas_view : List Formula → Fos
formulas_view fs = fos_of (map formula_view fs)

abbrev pub arm_view : Arm → ArmView
arm_view = fold-Arm Fo ArmView formula_step arm_step

abbrev pub arms_view : List Arm → Arms
arms_view arms = arms_of (map arm_view arms)

-- # Statements

-- a statement once its place is known
abbrev pub Placed : Type 0
Placed = Span → St

abbrev pub StArmView : Type 0
StArmView = ℕ × List ℕ × Sts

abbrev pub sts_of : List St → Sts
sts_of [] = no_st
sts_of (s ∷ ss) = also_st s (sts_of ss)

abbrev pub st_arms_of : List StArmView → StArms
st_arms_of [] = no_st_arm
st_arms_of (a ∷ as_) = also_st_arm a.0 a.1 a.2 (st_arms_of as_)

abbrev pub kind_step : stmt.StmtKind-F Placed St StArmView → Placed
kind_step (stmt.Put slot e) at = st.Put at slot (expr_view e)
kind_step (stmt.Decide slot f) at = st.Decide at slot (formula_view f)
kind_step (stmt.New slot ty) at = st.New at slot ty
kind_step (stmt.Operate op args) at = st.Operate at op (exprs_view args)
kind_step (stmt.If f then_ else_) at = st.If at (formula_view f) (sts_of then_) (sts_of else_)
kind_step (stmt.Match on arms) at = st.Match at (expr_view on) (st_arms_of arms)
kind_step (stmt.Atomic body) at = st.Atomic at (sts_of body)
kind_step (stmt.Assert f) at = st.Assert at (formula_view f)
kind_step (stmt.Return None) at = st.Return at
kind_step (stmt.Return (Some e)) at = st.ReturnWith at (expr_view e)

abbrev pub stmt_step : stmt.Stmt-F Placed St StArmView → St
stmt_step s = s.what s.at

abbrev pub stmt_arm_step : stmt.StmtArm-F Placed St StArmView → StArmView
stmt_arm_step a = (a.con, a.slots, sts_of a.body)

abbrev pub kind_view : StmtKind → Placed
kind_view = fold-StmtKind Placed St StArmView kind_step stmt_step stmt_arm_step

abbrev pub stmt_view : Stmt → St
stmt_view = fold-Stmt Placed St StArmView kind_step stmt_step stmt_arm_step

abbrev pub stmts_view : List Stmt → Sts
stmts_view ss = sts_of (map stmt_view ss)

abbrev pub stmt_arm_view : StmtArm → StArmView
stmt_arm_view = fold-StmtArm Placed St StArmView kind_step stmt_step stmt_arm_step

abbrev pub stmt_arms_view : List StmtArm → StArms
stmt_arms_view arms = st_arms_of (map stmt_arm_view arms)

-- # Programs

abbrev pub root_view : Root → Rt
root_view r = record { name = r.name; crdt = crdt_view r.crdt }

abbrev pub inv_view : InvDecl → Inv
inv_view i = record { name = i.name; at = i.at; body = formula_view i.body }

abbrev pub proc_view : ProcDecl → Proc
proc_view p = record {
  name = p.name;
  at = p.at;
  end = p.end;
  params = p.params;
  result = p.result;
  slots = p.slots;
  body = stmts_view p.body;
}

-- the program with these parts
abbrev pub parts_view : TypeTable → ConTable → List Root → List OpDecl → List QueryDecl → List InvDecl → List ProcDecl → Prog
parts_view types cons roots ops queries invs procs = record {
  types = types;
  cons = cons;
  roots = map root_view roots;
  ops = ops;
  queries = queries;
  invs = map inv_view invs;
  procs = map proc_view procs;
}
