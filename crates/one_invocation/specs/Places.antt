-- Where a path leads to in a procedure's code.
use Rattle.std.specs.Prelude.{ℕ, suc, true, false, List, [], ◌∷◌}
use Rattle.rp_span.specs.declared.Span.{Span}
use Rattle.rp_lang.specs.Exprs.{Ex, Exs}
use Rattle.rp_lang.specs.Formulas.{Fo}
use Rattle.event_machine.specs.Code as left
use Rattle.event_machine.specs.Code.{Code, CodeArms, also_code}
use Rattle.one_invocation.specs.Trails.{Way, Put, Decide, New, Operate, Take, TakeArm, Begin, End}

-- one of these arms, of which the first has number n, has this number, constructor, slots and body
pub data IsArm : ℕ → CodeArms → ℕ → ℕ → List ℕ → Code → Type 0 where
  first_arm : {n con : ℕ} {slots : List ℕ} {body : Code} {others : CodeArms}
      → IsArm n (also_code con slots body others) n con slots body
  later_arm : {n arm con con' : ℕ} {slots slots' : List ℕ} {body body' : Code} {others : CodeArms}
      → IsArm (suc n) others arm con slots body → IsArm n (also_code con' slots' body' others) arm con slots body

-- Of this code, this is left behind a path. An assertion is passed without a trace.
pub data Leaves (code : Code) : List Way → Code → Type 0 where
  at_start : Leaves code [] code
  past_put : {path : List Way} {slot : ℕ} {e : Ex} {next : Code}
      → Leaves code path (left.Put slot e next) → Leaves code (Put slot e ∷ path) next
  past_decide : {path : List Way} {slot : ℕ} {f : Fo} {next : Code}
      → Leaves code path (left.Decide slot f next) → Leaves code (Decide slot f ∷ path) next
  past_new : {path : List Way} {slot ty : ℕ} {next : Code}
      → Leaves code path (left.New slot ty next) → Leaves code (New slot ty ∷ path) next
  past_operate : {path : List Way} {op : ℕ} {args : Exs} {next : Code}
      → Leaves code path (left.Operate op args next) → Leaves code (Operate op args ∷ path) next
  past_assert : {path : List Way} {at : Span} {f : Fo} {next : Code}
      → Leaves code path (left.Assert at f next) → Leaves code path next
  past_then : {path : List Way} {f : Fo} {then_ else_ : Code}
      → Leaves code path (left.Choose f then_ else_) → Leaves code (Take f true ∷ path) then_
  past_else : {path : List Way} {f : Fo} {then_ else_ : Code}
      → Leaves code path (left.Choose f then_ else_) → Leaves code (Take f false ∷ path) else_
  past_arm : {path : List Way} {on : Ex} {arms : CodeArms} {arm con : ℕ} {slots : List ℕ} {body : Code}
      → Leaves code path (left.Match on arms) → IsArm 1 arms arm con slots body
      → Leaves code (TakeArm on arm con slots ∷ path) body
  past_begin : {path : List Way} {next : Code} → Leaves code path (left.Begin next) → Leaves code (Begin ∷ path) next
  past_end : {path : List Way} {at : Span} {next : Code} → Leaves code path (left.End at next) → Leaves code (End ∷ path) next
