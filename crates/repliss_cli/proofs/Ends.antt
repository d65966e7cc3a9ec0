-- Each end that definitions speak of is what some end of the code is seen as.
use Rattle.std.proofs.Common.{◌≡◌, List, [], ◌∷◌, refl, ap, ◌∙◌}
use Rattle.rp_value.specs.declared.value.Value.{Value}
use Rattle.rp_value.specs.declared.value.Value.TheVariants as made
use Rattle.rp_value.specs.Values.{Val, Vals, no_val, also_val}
use Rattle.rp_value.specs.Values as val
use Rattle.rp_value.specs.ValueView.{value_view, values_view}
use Rattle.rp_value.proofs.ValueViews.{value_view-Int, value_view-Str, value_view-Atom, value_view-Con, value_view-Call, value_view-Inv}
use Rattle.rp_lang.specs.declared.step.Action.{Action}
use Rattle.rp_lang.specs.declared.step.Action.TheVariants as action
use Rattle.rp_lang.specs.declared.event.What.{What}
use Rattle.rp_lang.specs.declared.event.What.TheVariants as what
use Rattle.rp_lang.specs.declared.refusal.Refusal.{Refusal}
use Rattle.rp_lang.specs.declared.refusal.Refusal.TheVariants as why
use Rattle.code_points.specs.ActionView.{action_view}
use Rattle.machine_state.specs.StepView.{what_view, why_view}
use Rattle.event_machine.specs.States.{ToBegin, ToOp, ToLocal, ToNew, ToCommit, ToReturn}
use Rattle.event_machine.specs.States as seen
use Rattle.event_machine.specs.Runs as runs
use Rattle.replay.specs.Outcomes.{outcome_view}
use Rattle.replay.specs.declared.replayed.Outcome.{Outcome}
use Rattle.replay.specs.declared.replayed.Outcome.TheVariants as end

abbrev mutual
  value_of : Val → Value
  value_of (val.Int n) = made.Int n
  value_of (val.Str bytes) = made.Str bytes
  value_of (val.Atom ty num) = made.Atom ty num
  value_of (val.Con con args) = made.Con con (values_of args)
  value_of (val.Call c) = made.Call c
  value_of (val.Inv i) = made.Inv i

  values_of : Vals → List Value
  values_of no_val = []
  values_of (also_val v vs) = value_of v ∷ values_of vs

mutual
  seen_value : (v : Val) → value_view (value_of v) ≡ v
  seen_value (val.Int n) = value_view-Int n
  seen_value (val.Str bytes) = value_view-Str bytes
  seen_value (val.Atom ty num) = value_view-Atom ty num
  seen_value (val.Con con args) = value_view-Con con (values_of args) ∙ ap (val.Con con) (seen_values args)
  seen_value (val.Call c) = value_view-Call c
  seen_value (val.Inv i) = value_view-Inv i

  seen_values : (vs : Vals) → values_view (values_of vs) ≡ vs
  seen_values no_val = refl
  seen_values (also_val v vs) = λ i. also_val (seen_value v i) (seen_values vs i)

some_action : (a : seen.Action) → (b : Action) × (action_view b ≡ a)
some_action ToBegin = (action.Begin, refl)
some_action ToOp = (action.Op, refl)
some_action ToLocal = (action.Local, refl)
some_action ToNew = (action.New, refl)
some_action ToCommit = (action.Commit, refl)
some_action ToReturn = (action.Return, refl)

some_why : (w : seen.Why) → (r : Refusal) × (why_view r ≡ w)
some_why (seen.NoInvocation i) = (why.NoInvocation i, refl)
some_why (seen.NotRunning i) = (why.NotRunning i, refl)
some_why (seen.WrongPoint next) = let (a, is) = some_action next in (why.WrongPoint a, ap seen.WrongPoint is)
some_why seen.BadArgs = (why.BadArgs, refl)
some_why (seen.UnknownId id) = (why.UnknownId (value_of id), ap seen.UnknownId (seen_value id))
some_why (seen.NotCommitted tx) = (why.NotCommitted tx, refl)
some_why (seen.NotClosed missing) = (why.NotClosed missing, refl)
some_why (seen.StampUsed stamp) = (why.StampUsed stamp, refl)
some_why (seen.StampLow stamp) = (why.StampLow stamp, refl)
some_why (seen.NotFresh id) = (why.NotFresh (value_of id), ap seen.NotFresh (seen_value id))
some_why (seen.OutOfUniverse v) = (why.OutOfUniverse (value_of v), ap seen.OutOfUniverse (seen_value v))

some_what : (w : seen.What) → (x : What) × (what_view x ≡ w)
some_what (seen.Assertion at) = (what.Assertion at, refl)
some_what (seen.Invariant n) = (what.Invariant n, refl)

pub some_end : (e : runs.Outcome) → (o : Outcome) × (outcome_view o ≡ e)
some_end (runs.Clean steps) = (end.Clean steps, refl)
some_end (runs.ViolatedAt step w) = let (x, is) = some_what w in (end.Violated step x, ap (runs.ViolatedAt step) is)
some_end (runs.RefusedAt step w) = let (r, is) = some_why w in (end.Refused step r, ap (runs.RefusedAt step) is)
