-- Limits of a step, in their order: invocations, calls, integers, breadth. They are asked after all refusals.
use Rattle.std.specs.Prelude.{ℕ, ◌+◌, Bool, true, false, ◌&&◌, nat_lt, nat_le, not, List, [], ◌∷◌, length, Option, Some, None, slice_get, if◌then◌else◌}
use Rattle.std.specs.List.{list_all}
use Rattle.rp_value.specs.Values.{Val}
use Rattle.rp_lang.specs.Programs.{Prog, Inv}
use Rattle.rp_lang.specs.declared.limit.LimitName.{LimitName}
use Rattle.rp_lang.specs.declared.limit.LimitName.TheVariants as limit
use Rattle.crdt_defs.specs.Parts.{Parts}
use Rattle.crdt_defs.specs.Truths.{Reading, value, values, list_of}
use Rattle.crdt_truth.specs.Breadths.{breadth}
use Rattle.event_machine.specs.Code as left
use Rattle.event_machine.specs.Code.{Code}
use Rattle.event_machine.specs.States.{State, Invocation, Label, Invoke, Begin, Op, Local, Return, Check}
use Rattle.event_machine.specs.Machine.{at_invocation, at_snapshot, calls_of}
use Rattle.crdt_defs.specs.Atoms.{ints_fit}

abbrev pub adds_invocation : Label → Bool
adds_invocation (Invoke proc args) = true
adds_invocation _ = false

abbrev pub adds_call : Label → Bool
adds_call (Begin i stamp sees) = true
adds_call (Op i stamp) = true
adds_call _ = false

-- the values that the next action puts into slots, an operation or a result
abbrev pub put_next : Reading → Label → Code → List Val
put_next r (Op i stamp) (left.Operate op args next) = list_of (values r [] args)
put_next r (Local i) (left.Put slot e next) = value r [] e ∷ []
put_next r (Local i) (left.Match on arms) = value r [] on ∷ []
put_next r (Return i) (left.Return at (Some e)) = value r [] e ∷ []
put_next r label code = []

abbrev pub put_by_inv : Prog → State → Label → Option Invocation → List Val
put_by_inv p s label None = []
put_by_inv p s label (Some inv) = put_next (at_invocation p s inv) label inv.left

abbrev pub named_inv : State → Label → Option Invocation
named_inv s (Op i stamp) = slice_get s.invocations i
named_inv s (Local i) = slice_get s.invocations i
named_inv s (Return i) = slice_get s.invocations i
named_inv s _ = None

abbrev pub put_by : Prog → State → Label → List Val
put_by p s (Invoke proc args) = args
put_by p s label = put_by_inv p s label (named_inv s label)

abbrev pub broad_next : Parts → Code → ℕ
broad_next parts (left.Decide slot f next) = breadth parts f
broad_next parts (left.Assert at f next) = breadth parts f
broad_next parts (left.Choose f then_ else_) = breadth parts f
broad_next parts code = 0

abbrev pub broad_inv : Prog → State → Option Invocation → ℕ
broad_inv p s None = 0
broad_inv p s (Some inv) = broad_next (at_invocation p s inv).parts inv.left

abbrev pub of_all : Parts → List Inv → ℕ
of_all parts [] = 0
of_all parts (inv ∷ others) = breadth parts inv.body + of_all parts others

-- of a check that of all invariants together, of a local step that of its formula
abbrev pub breadth_of : Prog → State → Label → ℕ
breadth_of p s (Local i) = broad_inv p s (slice_get s.invocations i)
breadth_of p s (Check sees) = of_all (at_snapshot p s (calls_of s.calls sees)).parts p.invs
breadth_of p s _ = 0

abbrev pub limit_of : Prog → State → Label → Option LimitName
limit_of p s label =
    if adds_invocation label && nat_le 16384 (length s.invocations) then Some limit.Invocations
    else if adds_call label && nat_le 16384 (length s.calls) then Some limit.Calls
    else if not (list_all ints_fit (put_by p s label)) then Some limit.Integer
    else if nat_lt 50000000 (breadth_of p s label) then Some limit.Breadth
    else None
