-- Parts of a refusal, grouped as the code asks them.
use Rattle.std.specs.Prelude.{ℕ, Bool, false, ◌||◌, not, nat_le, nat_lt, nat_eq, List, [], ◌∷◌, length, filter, Option, Some, None, option_map, option_and_then, slice_get}
use Rattle.std.specs.List.{list_any}
use Rattle.rp_value.specs.Values.{Atom}
use Rattle.rp_lang.specs.Programs.{Prog}
use Rattle.crdt_defs.specs.Counting.{first_below}
use Rattle.event_machine.specs.States.{State, Invocation, Action, ToBegin, ToOp, ToLocal, ToNew, ToCommit, ToReturn, Label, Why, NoInvocation, NotRunning, WrongPoint, NotCommitted, NotClosed, StampUsed, StampLow, BadArgs, NotFresh, OutOfUniverse}
use Rattle.event_machine.specs.Machine as spec
use Rattle.event_machine.specs.Machine.{unless, first_why}

abbrev pub action_number : Action → ℕ
action_number ToBegin = 0
action_number ToOp = 1
action_number ToLocal = 2
action_number ToNew = 3
action_number ToCommit = 4
action_number ToReturn = 5

abbrev pub is_type : ℕ → Option ℕ → Bool
is_type ty None = false
is_type ty (Some asked) = nat_eq ty asked

abbrev pub another_point : Invocation → Action → Option Why
another_point inv action = unless (spec.is_same action (spec.next_action inv.left)) (WrongPoint (spec.next_action inv.left))

abbrev pub inv_not_at : ℕ → Option Action → Option Invocation → Option Why
inv_not_at i action None = Some (NoInvocation i)
inv_not_at i action (Some inv) =
    first_why (unless (spec.is_running inv.standing) (NotRunning i) ∷ option_and_then (another_point inv) action ∷ [])

-- there is no such invocation, it isn't running, or it does something else next
abbrev pub not_at : State → ℕ → Option Action → Option Why
not_at s i action = inv_not_at i action (slice_get s.invocations i)

-- why the identifier or opaque value can't be made where this type is asked
abbrev pub refused_atom : State → Option ℕ → (ty num : ℕ) → Option Why
refused_atom s asked ty num =
    first_why (unless (is_type ty asked) BadArgs ∷ unless (not (spec.is_generated s (Atom ty num))) (NotFresh (Atom ty num))
    ∷ unless (nat_lt num s.universe) (OutOfUniverse (Atom ty num)) ∷ [])

-- transactions that can't be seen by one that saw these earlier ones
abbrev pub unseeable : State → (sees earlier : List ℕ) → Option Why
unseeable s sees earlier =
    first_why (option_map NotCommitted (spec.least_of (filter (λ tx. not (spec.is_committed s tx)) sees))
    ∷ option_map NotClosed (first_below (spec.is_missing s sees (spec.calls_of s.calls earlier)) (length s.txs)) ∷ [])

-- a stamp that a call can't have, whose past is the calls of these transactions and of the open one
abbrev pub bad_stamp : State → ℕ → List ℕ → Option ℕ → Option Why
bad_stamp s stamp sees tx =
    let greatest = spec.greatest_stamp s.calls (λ c. spec.calls_of s.calls sees c || spec.own_calls s.calls tx c) (length s.calls) in
    first_why (unless (not (list_any (λ call. nat_eq call.stamp stamp) s.calls)) (StampUsed stamp) ∷ unless (nat_le greatest stamp) (StampLow greatest) ∷ [])

-- the refusals of a label from `bad args` on
abbrev pub behind : Prog → State → Label → Option Why
behind p s label =
    first_why (spec.bad_args p s label ∷ spec.unknown_id p s label ∷ spec.not_committed s label ∷ spec.not_closed s label
    ∷ spec.stamp_used s label ∷ spec.stamp_low s label ∷ spec.not_fresh s label ∷ spec.out_of_universe s label ∷ [])
