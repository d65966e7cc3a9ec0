-- Which goals a program has, told by the places of its procedures.
use Rattle.std.specs.Prelude.{ℕ, List, Option}
use Rattle.rp_span.specs.declared.Span.{Span}
use Rattle.rp_lang.specs.Exprs.{Ex}
use Rattle.rp_lang.specs.Formulas.{Fo}
use Rattle.rp_lang.specs.Programs.{Proc, Inv, Prog}
use Rattle.event_machine.specs.Code as left
use Rattle.event_machine.specs.Code.{Code, proc_code}
use Rattle.event_machine.specs.WellFormed.{At}
use Rattle.one_invocation.specs.Trails.{Way}
use Rattle.one_invocation.specs.Places.{Leaves}
use Rattle.one_invocation.specs.Goals.{Goal, ToInit, ToInvoke, ToAssert, ToCommit, ToReturn}

-- For each invariant: one at the start, one for each procedure, and one for each commit and each return that some path of
-- a procedure leads to. For each assertion: one for each path that leads to it.
pub data IsGoalOf (p : Prog) : Goal → Type 0 where
  initial : {k : ℕ} {claim : Inv} → At p.invs k claim → IsGoalOf p (ToInit k claim)
  invoked : {n k : ℕ} {q : Proc} {claim : Inv} → At p.procs n q → At p.invs k claim → IsGoalOf p (ToInvoke n q.at k claim)
  asserted : {n : ℕ} {q : Proc} {path : List Way} {at : Span} {f : Fo} {next : Code}
      → At p.procs n q → Leaves (proc_code q) path (left.Assert at f next) → IsGoalOf p (ToAssert n path at f)
  ended : {n k : ℕ} {q : Proc} {path : List Way} {at : Span} {next : Code} {claim : Inv}
      → At p.procs n q → Leaves (proc_code q) path (left.End at next) → At p.invs k claim → IsGoalOf p (ToCommit n path at k claim)
  returned : {n k : ℕ} {q : Proc} {path : List Way} {at : Span} {result : Option Ex} {claim : Inv}
      → At p.procs n q → Leaves (proc_code q) path (left.Return at result) → At p.invs k claim
      → IsGoalOf p (ToReturn n path at result k claim)
