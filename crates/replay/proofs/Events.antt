-- What the events of steps tell.
use Rattle.std.proofs.Common.{◌≡◌, ℕ, ◌+◌, ◌<◌, Bool, true, false, refl, sym, ap, ◌∙◌, subst, List, map, length, get_or, Some, option_map, slice_get}
use Rattle.std.specs.List.{All}
use Rattle.std.proofs.lemmas.Bool.{true≢false}
use Rattle.std.proofs.lemmas.List.Elements.{All-get_or}
use Rattle.std.proofs.lemmas.Option.{slice_get-map, slice_get_read}
use Rattle.rp_lang.specs.Programs.{Prog}
use Rattle.rp_lang.specs.declared.event.Event.{Event}
use Rattle.rp_lang.specs.declared.event.Event.TheVariants as event
use Rattle.rp_lang.specs.declared.event.What as told_what
use Rattle.rp_lang.specs.declared.program.Program.{Program}
use Rattle.rp_lang.specs.declared.step.Step.{Step}
use Rattle.rp_lang.specs.ProgramView.{program_view}
use Rattle.event_machine.specs.States.{Answer, Moved, Checked, Violated, Refused}
use Rattle.event_machine.specs.Runs.{Leads}
use Rattle.step_labels.specs.StepLabels.{label_view}
use Rattle.machine_state.specs.declared.state.State.{State}
use Rattle.machine_state.specs.Fits.{StepFits}
use Rattle.machine_state.specs.StateView.{state_view}
use Rattle.machine_state.specs.StepView.{what_view, why_view}
use Rattle.rp_lang.specs.declared.limit.LimitName.{LimitName}
use Rattle.rp_lang.specs.declared.refusal.Refusal.{Refusal}
use Rattle.event_machine.specs.States as seen
use Rattle.event_machine.specs.Machine as machine
use Rattle.event_machine.specs.Runs.{ViolatedAt, RefusedAt, outcome_from}
use Rattle.machine_effects.specs.Steps.{Tells, Steps}
use Rattle.machine_effects.specs.Steps as effects
use Rattle.machine_effects.specs.declared.error.StepErr.{StepErr}
use Rattle.machine_effects.specs.declared.error.StepErr.TheVariants as stop
use Rattle.replay.specs.Outcomes.{MeetsNone, IsCause}
use Rattle.replay.specs.declared.replayed.ReplayErr.TheVariants as err
use Rattle.replay.proofs.Walks.{Walks, goes, violated, refused, limited}

-- # The step at a place

pub step_at : (p : Program) (steps : List Step) (i : ℕ) (step : Step) → i < length steps → step ≡ get_or steps i step → All (StepFits p) steps → StepFits p step
step_at p steps i step lt is all = subst (StepFits p) (sym is) (All-get_or (StepFits p) steps i step lt all)

pub label_at : (steps : List Step) (i : ℕ) (step : Step) → i < length steps → step ≡ get_or steps i step → slice_get (map label_view steps) i ≡ Some (label_view step)
label_at steps i step lt is = slice_get-map label_view steps i ∙ ap (option_map label_view) (slice_get_read steps (length steps) i step refl lt is)

-- # Events

pub moved_leads : (v : Prog) (old new : State) (answer : Answer) → Tells v old answer new event.Moved → Leads (state_view v old) answer (state_view v new)
moved_leads v old new (Moved mid) tells = tells.1
moved_leads v old new Checked tells = ap (state_view v) tells.1
moved_leads v old new (Violated what) tells = absurd tells.0
moved_leads v old new (Refused why) tells = absurd tells

pub checked_leads : (v : Prog) (old new : State) (answer : Answer) → Tells v old answer new event.Checked → Leads (state_view v old) answer (state_view v new)
checked_leads v old new (Moved mid) tells = tells.1
checked_leads v old new Checked tells = ap (state_view v) tells.1
checked_leads v old new (Violated what) tells = absurd tells.0
checked_leads v old new (Refused why) tells = absurd tells

abbrev violates : Event → Bool
violates (event.Violated what) = true
violates _ = false

pub violated_is : (v : Prog) (old new : State) (answer : Answer) (what : told_what.What) → Tells v old answer new (event.Violated what) → answer ≡ Violated (what_view what)
violated_is v old new (Moved mid) what tells = absurd (true≢false (ap violates tells.0))
violated_is v old new Checked what tells = absurd (true≢false (ap violates tells.0))
violated_is v old new (Violated broken) what tells = ap Violated (sym tells.0)
violated_is v old new (Refused why) what tells = absurd tells

-- # What follows of a step

-- A walk stands before this step, whose place is i.
pub record Before (p : Program) (start : seen.State) (steps : List Step) (i : ℕ) (old : State) (step : Step) : Type 0 where
  pub walks : Walks (program_view p) start (map label_view steps) i (state_view (program_view p) old)
  pub next : slice_get (map label_view steps) i ≡ Some (label_view step)

pub before : (p : Program) (start : seen.State) (steps : List Step) (i : ℕ) (old : State) (step : Step) → i < length steps → step ≡ get_or steps i step
    → Walks (program_view p) start (map label_view steps) i (state_view (program_view p) old) → Before p start steps i old step
before p start steps i old step lt is walks = record { walks = walks; next = label_at steps i step lt is }

moves : (p : Program) (start : seen.State) (steps : List Step) (i : ℕ) (old new : State) (step : Step) (told : Event) → Before p start steps i old step
    → Steps p old (label_view step) new told
    → Leads (state_view (program_view p) old) (machine.step (program_view p) (state_view (program_view p) old) (label_view step)) (state_view (program_view p) new)
    → Walks (program_view p) start (map label_view steps) (i + 1) (state_view (program_view p) new)
moves p start steps i old new step told b steps_on leads =
    let v = program_view p in
    goes v start (map label_view steps) i (state_view v old) (state_view v new) (label_view step) b.walks b.next steps_on.0 leads

pub moved : (p : Program) (start : seen.State) (steps : List Step) (i : ℕ) (old new : State) (step : Step) (told : Event) → Before p start steps i old step
    → Steps p old (label_view step) new told → told ≡ event.Moved → Walks (program_view p) start (map label_view steps) (i + 1) (state_view (program_view p) new)
moved p start steps i old new step told b steps_on is =
    let v = program_view p in
    let answer = machine.step v (state_view v old) (label_view step) in
    moves p start steps i old new step told b steps_on (moved_leads v old new answer (subst (λ t. Tells v old answer new t) is steps_on.1))

pub checked : (p : Program) (start : seen.State) (steps : List Step) (i : ℕ) (old new : State) (step : Step) (told : Event) → Before p start steps i old step
    → Steps p old (label_view step) new told → told ≡ event.Checked → Walks (program_view p) start (map label_view steps) (i + 1) (state_view (program_view p) new)
checked p start steps i old new step told b steps_on is =
    let v = program_view p in
    let answer = machine.step v (state_view v old) (label_view step) in
    moves p start steps i old new step told b steps_on (checked_leads v old new answer (subst (λ t. Tells v old answer new t) is steps_on.1))

pub ends_violated : (p : Program) (start : seen.State) (steps : List Step) (i n : ℕ) (old new : State) (step : Step) (told : Event) (what : told_what.What)
    → n ≡ i → Before p start steps i old step → Steps p old (label_view step) new told → told ≡ event.Violated what
    → (ViolatedAt (n + 1) (what_view what) ≡ outcome_from (program_view p) 0 start (map label_view steps)) × MeetsNone (program_view p) start (map label_view steps)
ends_violated p start steps i n old new step told what counted b steps_on is =
    let v = program_view p in
    let answer = machine.step v (state_view v old) (label_view step) in
    let found : answer ≡ Violated (what_view what) = violated_is v old new answer what (subst (λ t. Tells v old answer new t) is steps_on.1) in
    let end = violated v start (map label_view steps) i (state_view v old) (label_view step) (what_view what) b.walks b.next steps_on.0 found in
    (ap (λ k. ViolatedAt (k + 1) (what_view what)) counted ∙ end.0, end.1)

pub ends_refused : (p : Program) (start : seen.State) (steps : List Step) (i n : ℕ) (old : State) (step : Step) (stop_at : StepErr) (why : Refusal)
    → n ≡ i → Before p start steps i old step → effects.IsCause p old (label_view step) stop_at → stop_at ≡ stop.Refused why
    → (RefusedAt (n + 1) (why_view why) ≡ outcome_from (program_view p) 0 start (map label_view steps)) × MeetsNone (program_view p) start (map label_view steps)
ends_refused p start steps i n old step stop_at why counted b cause is =
    let v = program_view p in
    let found = subst (λ e. effects.IsCause p old (label_view step) e) is cause in
    let end = refused v start (map label_view steps) i (state_view v old) (label_view step) (why_view why) b.walks b.next found in
    (ap (λ k. RefusedAt (k + 1) (why_view why)) counted ∙ end.0, end.1)

pub ends_limited : (p : Program) (start : seen.State) (steps : List Step) (i n : ℕ) (old : State) (step : Step) (stop_at : StepErr) (which : LimitName)
    → n ≡ i → Before p start steps i old step → effects.IsCause p old (label_view step) stop_at → stop_at ≡ stop.Limit which
    → IsCause (program_view p) start (map label_view steps) (err.Limit which (n + 1))
ends_limited p start steps i n old step stop_at which counted b cause is =
    let v = program_view p in
    let found = subst (λ e. effects.IsCause p old (label_view step) e) is cause in
    let end = limited v start (map label_view steps) i (state_view v old) (label_view step) which b.walks b.next found.0 found.1 in
    subst (λ k. IsCause v start (map label_view steps) (err.Limit which (k + 1))) (sym counted) end
