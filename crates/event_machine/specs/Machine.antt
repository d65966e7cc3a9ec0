-- The machine: any number of invocations, one label at a time.
pub use Rattle.event_machine.specs.States.{Standing, Running, Returned, Failed, Invocation, Tx, State, empty, Label, Invoke, Begin, Op, Local, New, Commit, Return, Fail, Check, Action, ToBegin, ToOp, ToLocal, ToNew, ToCommit, ToReturn, What, Assertion, Invariant, Why, NoInvocation, NotRunning, WrongPoint, BadArgs, UnknownId, NotCommitted, NotClosed, StampUsed, StampLow, NotFresh, OutOfUniverse, Answer, Moved, Checked, Violated, Refused}
use Rattle.std.specs.Prelude.{ℕ, zero, suc, ◌+◌, ◌-◌, Bool, true, false, ◌&&◌, ◌||◌, not, nat_eq, nat_le, nat_lt, min, max, if◌then◌else◌, List, [], ◌∷◌, ◌++◌, length, map, filter, find, fold, replicate, Option, Some, None, option_and_then, option_map, slice_get, slice_set}
use Rattle.std.specs.List.{list_any}
use Rattle.std.specs.Option.{option_map_or}
use Rattle.rp_value.specs.declared.tables.Ty.TheVariants as ty
use Rattle.rp_value.specs.Values.{Val, Con, Vals, also_val}
use Rattle.rp_lang.specs.Programs.{Proc, Inv, Prog}
use Rattle.crdt_defs.specs.Calls.{Call}
use Rattle.crdt_defs.specs.Counting.{first_below}
use Rattle.crdt_defs.specs.Histories.{call_is, some_call}
use Rattle.crdt_defs.specs.Meaning.{is_before_one, stamp_of}
use Rattle.crdt_defs.specs.Parts as parts
use Rattle.crdt_defs.specs.Parts.{Info, Parts, Result}
use Rattle.crdt_defs.specs.SameValues.{same_val}
use Rattle.crdt_defs.specs.Truths.{Reading, truth_val, list_of, value, values, truth, is_built}
use Rattle.event_machine.specs.Code as left
use Rattle.event_machine.specs.Code.{Code, CodeArms, no_code, also_code, proc_code}
use Rattle.event_machine.specs.Fitting.{fits, all_fit, atoms, all_atoms, is_id, is_below}

-- # Sets of calls

abbrev pub is_in : List ℕ → ℕ → Bool
is_in list n = list_any (λ m. nat_eq m n) list

-- the members of a set that are below n, ascending
abbrev pub listed : (ℕ → Bool) → ℕ → List ℕ
listed set zero = []
listed set (suc n) = listed set n ++ (if set n then n ∷ [] else [])

-- the calls of these transactions
abbrev pub calls_of : List Call → List ℕ → ℕ → Bool
calls_of calls sees c = call_is calls (λ call. is_in sees call.tx) c

-- the calls of the open transaction
abbrev pub own_calls : List Call → Option ℕ → ℕ → Bool
own_calls calls None c = false
own_calls calls (Some tx) c = call_is calls (λ call. nat_eq call.tx tx) c

-- what an invocation reads: its view, and the calls of its open transaction
abbrev pub reading_set : List Call → Invocation → ℕ → Bool
reading_set calls inv c = inv.view c || own_calls calls inv.tx c

-- # What is read

abbrev pub result_of : Standing → Result
result_of Running = parts.Unreturned
result_of (Returned None) = parts.Returned
result_of (Returned (Some v)) = parts.ReturnedWith v
result_of Failed = parts.Unreturned

abbrev pub info : Invocation → Info
info inv = record { proc = inv.proc; args = inv.args; result = result_of inv.standing }

-- the parts of a state that invariants read
abbrev pub plain : State → Parts
plain s = record {
  universe = s.universe;
  calls = s.calls;
  committed = map (λ tx. tx.committed) s.txs;
  infos = map info s.invocations;
}

-- an invariant reads the state at a set of visible calls
abbrev pub at_snapshot : Prog → State → (ℕ → Bool) → Reading
at_snapshot p s visible = record { program = p; parts = plain s; visible = visible; slots = [] }

-- a procedure reads slots and calls, and nothing of transactions and invocations
abbrev pub proc_reading : Prog → ℕ → List Call → List (Option Val) → (ℕ → Bool) → Reading
proc_reading p universe calls slots visible =
    record { program = p; parts = record { universe = universe; calls = calls; committed = []; infos = [] }; visible = visible; slots = slots }

-- it reads its own slots and the calls that its invocation sees
abbrev pub at_invocation : Prog → State → Invocation → Reading
at_invocation p s inv = proc_reading p s.universe s.calls inv.slots (reading_set s.calls inv)

-- # What a label names, and what an invocation does next

abbrev pub named : Label → Option ℕ
named (Invoke proc args) = None
named (Begin i stamp sees) = Some i
named (Op i stamp) = Some i
named (Local i) = Some i
named (New i id) = Some i
named (Commit i) = Some i
named (Return i) = Some i
named (Fail i) = Some i
named (Check sees) = None

-- the action that the label is, where it is one
abbrev pub action_of : Label → Option Action
action_of (Begin i stamp sees) = Some ToBegin
action_of (Op i stamp) = Some ToOp
action_of (Local i) = Some ToLocal
action_of (New i id) = Some ToNew
action_of (Commit i) = Some ToCommit
action_of (Return i) = Some ToReturn
action_of _ = None

abbrev pub next_action : Code → Action
next_action (left.Put slot e next) = ToLocal
next_action (left.Decide slot f next) = ToLocal
next_action (left.New slot ty next) = ToNew
next_action (left.Operate op args next) = ToOp
next_action (left.Assert at f next) = ToLocal
next_action (left.Choose f then_ else_) = ToLocal
next_action (left.Match on arms) = ToLocal
next_action (left.Begin next) = ToBegin
next_action (left.End at next) = ToCommit
next_action (left.Return at result) = ToReturn

-- # Refusals

abbrev pub unless : Bool → Why → Option Why
unless fine why = if fine then None else Some why

-- the test of the named invocation
abbrev pub of_named : State → Label → (ℕ → Invocation → Option Why) → Option Why
of_named s label test = option_and_then (λ i. option_and_then (test i) (slice_get s.invocations i)) (named label)

abbrev pub no_invocation : State → Label → Option Why
no_invocation s label = option_and_then (λ i. unless (nat_lt i (length s.invocations)) (NoInvocation i)) (named label)

abbrev pub is_running : Standing → Bool
is_running Running = true
is_running (Returned result) = false
is_running Failed = false

abbrev pub not_running : State → Label → Option Why
not_running s label = of_named s label (λ i inv. unless (is_running inv.standing) (NotRunning i))

abbrev pub is_same : Action → Action → Bool
is_same ToBegin ToBegin = true
is_same ToOp ToOp = true
is_same ToLocal ToLocal = true
is_same ToNew ToNew = true
is_same ToCommit ToCommit = true
is_same ToReturn ToReturn = true
is_same _ _ = false

abbrev pub wrong_point : State → Label → Option Why
wrong_point s label =
    of_named s label (λ i inv. let next = next_action inv.left in option_and_then (λ action. unless (is_same action next) (WrongPoint next)) (action_of label))

abbrev pub takes : Prog → List Val → Proc → Bool
takes p args q = all_fit p q.params args

-- the value is an identifier of the type that the next `new` asks
abbrev pub is_asked : Prog → Val → Code → Bool
is_asked p v (left.New slot of next) = fits p (ty.Atom of) v
is_asked p v _ = false

abbrev pub bad_args : Prog → State → Label → Option Why
bad_args p s (Invoke proc args) = unless (option_map_or (takes p args) (slice_get p.procs proc) false) BadArgs
bad_args p s (New i id) = of_named s (New i id) (λ i inv. unless (is_asked p id inv.left) BadArgs)
bad_args p s _ = None

abbrev pub stands_in : Val → Standing → Bool
stands_in id (Returned (Some v)) = list_any (same_val id) (atoms v)
stands_in id _ = false

-- it stands in the result of a returned invocation
abbrev pub is_known : State → Val → Bool
is_known s id = list_any (λ inv. stands_in id inv.standing) s.invocations

abbrev pub unknown_id : Prog → State → Label → Option Why
unknown_id p s (Invoke proc args) = option_map UnknownId (find (λ v. is_id p v && not (is_known s v)) (all_atoms args))
unknown_id p s _ = None

-- the transactions that the label sees
abbrev pub seen : Label → Option (List ℕ)
seen (Begin i stamp sees) = Some sees
seen (Check sees) = Some sees
seen _ = None

abbrev pub is_committed : State → ℕ → Bool
is_committed s tx = option_map_or (λ t. t.committed) (slice_get s.txs tx) false

abbrev pub least_of : List ℕ → Option ℕ
least_of [] = None
least_of (n ∷ ns) = Some (fold min n ns)

abbrev pub not_committed : State → Label → Option Why
not_committed s label =
    option_and_then (λ sees. option_map NotCommitted (least_of (filter (λ tx. not (is_committed s tx)) sees))) (seen label)

abbrev pub view_of : Option Invocation → ℕ → Bool
view_of None c = false
view_of (Some inv) c = inv.view c

-- what an invocation that begins saw before
abbrev pub earlier_view : State → Label → ℕ → Bool
earlier_view s (Begin i stamp sees) = view_of (slice_get s.invocations i)
earlier_view s _ = λ c. false

-- a transaction that isn't seen has a call before a call that is, or a call of the earlier view
abbrev pub is_missing : State → List ℕ → (ℕ → Bool) → ℕ → Bool
is_missing s sees earlier tx =
    not (is_in sees tx)
    && some_call s.calls (λ c. own_calls s.calls (Some tx) c && (earlier c || is_before_one s.calls (calls_of s.calls sees) c))

abbrev pub not_closed : State → Label → Option Why
not_closed s label =
    option_and_then (λ sees. option_map NotClosed (first_below (is_missing s sees (earlier_view s label)) (length s.txs))) (seen label)

-- the stamp of a new call
abbrev pub new_stamp : Label → Option ℕ
new_stamp (Begin i stamp sees) = Some stamp
new_stamp (Op i stamp) = Some stamp
new_stamp _ = None

abbrev pub reading_of : List Call → Option Invocation → ℕ → Bool
reading_of calls None c = false
reading_of calls (Some inv) c = reading_set calls inv c

-- the past of a new call
abbrev pub new_past : State → Label → ℕ → Bool
new_past s (Begin i stamp sees) = calls_of s.calls sees
new_past s (Op i stamp) = reading_of s.calls (slice_get s.invocations i)
new_past s _ = λ c. false

abbrev pub stamp_used : State → Label → Option Why
stamp_used s label =
    option_and_then (λ stamp. unless (not (list_any (λ call. nat_eq call.stamp stamp) s.calls)) (StampUsed stamp)) (new_stamp label)

-- the greatest stamp of the calls of a set below n
abbrev pub greatest_stamp : List Call → (ℕ → Bool) → ℕ → ℕ
greatest_stamp calls set zero = 0
greatest_stamp calls set (suc n) = max (greatest_stamp calls set n) (if set n then stamp_of (slice_get calls n) else 0)

abbrev pub stamp_low : State → Label → Option Why
stamp_low s label =
    option_and_then (λ stamp. let seen = greatest_stamp s.calls (new_past s label) (length s.calls) in unless (nat_le seen stamp) (StampLow seen)) (new_stamp label)

abbrev pub is_generated : State → Val → Bool
is_generated s id = list_any (same_val id) s.generated

abbrev pub not_fresh : State → Label → Option Why
not_fresh s (New i id) = unless (not (is_generated s id)) (NotFresh id)
not_fresh s _ = None

-- the values that a label brings
abbrev pub brought : Label → List Val
brought (Invoke proc args) = args
brought (New i id) = id ∷ []
brought _ = []

abbrev pub out_of_universe : State → Label → Option Why
out_of_universe s label = option_map OutOfUniverse (find (λ v. not (is_below s.universe v)) (all_atoms (brought label)))

-- every refusal with its test, in their order
abbrev pub refusals : Prog → State → Label → List (Option Why)
refusals p s label =
    no_invocation s label
    ∷ not_running s label
    ∷ wrong_point s label
    ∷ bad_args p s label
    ∷ unknown_id p s label
    ∷ not_committed s label
    ∷ not_closed s label
    ∷ stamp_used s label
    ∷ stamp_low s label
    ∷ not_fresh s label
    ∷ out_of_universe s label
    ∷ []

abbrev pub first_why : List (Option Why) → Option Why
first_why [] = None
first_why (None ∷ others) = first_why others
first_why (Some why ∷ others) = Some why

-- the first that applies
abbrev pub refusal : Prog → State → Label → Option Why
refusal p s label = first_why (refusals p s label)

-- # Effects of labels that aren't refused. Where an invocation is at another point nothing changes; then the label is
-- refused.

abbrev pub on_invocation : State → ℕ → (Invocation → Answer) → Answer
on_invocation s i act = option_map_or act (slice_get s.invocations i) (Moved s)

abbrev pub with_invocation : State → ℕ → Invocation → State
with_invocation s i inv = record s { invocations = slice_set s.invocations i inv }

abbrev pub with_call : State → Call → State
with_call s call = record s { calls = s.calls ++ call ∷ [] }

-- the arguments are in the first slots, and no other slot is set
abbrev pub first_slots : Proc → List Val → List (Option Val)
first_slots q args = map (λ v. Some v) args ++ replicate (length q.slots - length args) None

abbrev pub started : Proc → ℕ → List Val → Invocation
started q proc args = record {
  proc = proc;
  args = args;
  slots = first_slots q args;
  left = proc_code q;
  view = λ c. false;
  tx = None;
  standing = Running;
}

abbrev pub invoked : Prog → State → ℕ → List Val → Answer
invoked p s proc args =
    option_map_or (λ q. Moved (record s { invocations = s.invocations ++ started q proc args ∷ [] })) (slice_get p.procs proc) (Moved s)

-- a transaction is opened with its marker call, whose past is the new view
abbrev pub begun : State → ℕ → ℕ → List ℕ → Invocation → Code → State
begun s i stamp sees inv next =
    let view = calls_of s.calls sees in
    let tx = length s.txs in
    record s {
      calls = s.calls ++ record { op = 0; args = []; inv = i; tx = tx; stamp = stamp; past = listed view (length s.calls) } ∷ [];
      txs = s.txs ++ record { inv = i; committed = false } ∷ [];
      invocations = slice_set s.invocations i (record inv { view = view; tx = Some tx; left = next });
    }

abbrev pub begins : State → ℕ → ℕ → List ℕ → Invocation → Code → Answer
begins s i stamp sees inv (left.Begin next) = Moved (begun s i stamp sees inv next)
begins s i stamp sees inv _ = Moved s

-- a call of the open transaction, whose past is the reading set
abbrev pub operated : State → ℕ → ℕ → Invocation → ℕ → ℕ → List Val → Code → State
operated s i stamp inv tx op args next =
    let past = listed (reading_set s.calls inv) (length s.calls) in
    record s {
      calls = s.calls ++ record { op = op; args = args; inv = i; tx = tx; stamp = stamp; past = past } ∷ [];
      invocations = slice_set s.invocations i (record inv { left = next });
    }

abbrev pub operates : Prog → State → ℕ → ℕ → Invocation → Option ℕ → Code → Answer
operates p s i stamp inv (Some tx) (left.Operate op args next) =
    Moved (operated s i stamp inv tx op (list_of (values (at_invocation p s inv) [] args)) next)
operates p s i stamp inv _ _ = Moved s

abbrev pub with_slot : Invocation → ℕ → Val → Invocation
with_slot inv slot v = record inv { slots = slice_set inv.slots slot (Some v) }

-- the values in these slots
abbrev pub filled : List ℕ → Vals → List (Option Val) → List (Option Val)
filled (slot ∷ more) (also_val v vs) slots = filled more vs (slice_set slots slot (Some v))
filled _ _ slots = slots

abbrev pub with_fields : Invocation → List ℕ → Val → Invocation
with_fields inv slots (Con con args) = record inv { slots = filled slots args inv.slots }
with_fields inv slots _ = inv

-- the arm of the constructor that the value is built with, with the value's fields in its slots
abbrev pub into_arm : State → ℕ → Invocation → Val → CodeArms → Answer
into_arm s i inv v no_code = Moved s
into_arm s i inv v (also_code con slots body others) =
    if is_built con v then Moved (with_invocation s i (record (with_fields inv slots v) { left = body })) else into_arm s i inv v others

-- an assignment is done, a branch is chosen, or an assertion is evaluated
abbrev pub local : Prog → State → ℕ → Invocation → Code → Answer
local p s i inv (left.Put slot e next) =
    Moved (with_invocation s i (record (with_slot inv slot (value (at_invocation p s inv) [] e)) { left = next }))
local p s i inv (left.Decide slot f next) =
    Moved (with_invocation s i (record (with_slot inv slot (truth_val (truth (at_invocation p s inv) [] f))) { left = next }))
local p s i inv (left.Assert at f next) =
    if truth (at_invocation p s inv) [] f then Moved (with_invocation s i (record inv { left = next })) else Violated (Assertion at)
local p s i inv (left.Choose f then_ else_) =
    Moved (with_invocation s i (record inv { left = (if truth (at_invocation p s inv) [] f then then_ else else_) }))
local p s i inv (left.Match on arms) = into_arm s i inv (value (at_invocation p s inv) [] on) arms
local p s i inv _ = Moved s

-- the identifier is put into the slot, and is generated from now on
abbrev pub made : State → ℕ → Val → Invocation → Code → Answer
made s i id inv (left.New slot of next) =
    Moved (record (with_invocation s i (record (with_slot inv slot id) { left = next })) { generated = s.generated ++ id ∷ [] })
made s i id inv _ = Moved s

-- the open transaction is committed, and the view has its calls
abbrev pub committed : State → ℕ → Invocation → ℕ → Code → State
committed s i inv tx next = record s {
  txs = slice_set s.txs tx (record { inv = i; committed = true });
  invocations = slice_set s.invocations i (record inv { view = reading_set s.calls inv; tx = None; left = next });
}

abbrev pub commits : State → ℕ → Invocation → Option ℕ → Code → Answer
commits s i inv (Some tx) (left.End at next) = Moved (committed s i inv tx next)
commits s i inv _ _ = Moved s

abbrev pub stands : State → ℕ → Invocation → Standing → Answer
stands s i inv standing = Moved (with_invocation s i (record inv { standing = standing }))

abbrev pub returns : Prog → State → ℕ → Invocation → Code → Answer
returns p s i inv (left.Return at result) = stands s i inv (Returned (option_map (value (at_invocation p s inv) []) result))
returns p s i inv _ = Moved s

-- the invariants from number n on are evaluated; the first that is false is a violation
abbrev pub checked : Reading → ℕ → List Inv → Answer
checked r n [] = Checked
checked r n (inv ∷ others) = if truth r [] inv.body then checked r (n + 1) others else Violated (Invariant n)

abbrev pub effect : Prog → State → Label → Answer
effect p s (Invoke proc args) = invoked p s proc args
effect p s (Begin i stamp sees) = on_invocation s i (λ inv. begins s i stamp sees inv inv.left)
effect p s (Op i stamp) = on_invocation s i (λ inv. operates p s i stamp inv inv.tx inv.left)
effect p s (Local i) = on_invocation s i (λ inv. local p s i inv inv.left)
effect p s (New i id) = on_invocation s i (λ inv. made s i id inv inv.left)
effect p s (Commit i) = on_invocation s i (λ inv. commits s i inv inv.tx inv.left)
effect p s (Return i) = on_invocation s i (λ inv. returns p s i inv inv.left)
effect p s (Fail i) = on_invocation s i (λ inv. stands s i inv Failed)
effect p s (Check sees) = checked (at_snapshot p s (calls_of s.calls sees)) 0 p.invs

abbrev pub unless_refused : Option Why → Answer → Answer
unless_refused None answer = answer
unless_refused (Some why) answer = Refused why

-- one label
abbrev pub step : Prog → State → Label → Answer
step p s label = unless_refused (refusal p s label) (effect p s label)
