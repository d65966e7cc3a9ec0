-- A label's effect is its step where it isn't refused.
use Rattle.std.proofs.Common.{sym, subst}
use Rattle.std.specs.Prelude.{Result, Ok, Err, IfOk, IfErr}
use Rattle.rp_lang.specs.declared.event.Event.{Event}
use Rattle.rp_lang.specs.declared.program.Program.{Program}
use Rattle.rp_lang.specs.ProgramView.{program_view}
use Rattle.event_machine.specs.States.{Label}
use Rattle.machine_effects.specs.Steps.{Tells, Does, Stops, Steps, Fails}
use Rattle.machine_effects.specs.declared.error.StepErr.{StepErr}
use Rattle.machine_effects.specs.declared.error.StepErr.TheVariants as err
use Rattle.machine_effects.proofs.StepLemmas.{not_refused, fits_after}
use Rattle.machine_state.specs.declared.state.State.{State}
use Rattle.machine_state.specs.Fits.{Fits}
use Rattle.machine_state.specs.StateView.{state_view}
use Rattle.machine_steps.proofs.FreeLemmas.{IsFree}

pub all_steps : (p : Program) (old new : State) (label : Label) (o : Result Event StepErr) → IsFree p old label
    → IfOk o (λ told. Does p old label new told) → IfOk o (λ told. Steps p old label new told)
all_steps p old new label (Ok told) is_free does =
    let v = program_view p in
    (does.within, subst (λ answer. Tells v old answer new told) (sym (not_refused v (state_view v old) label is_free)) does.tells)
all_steps p old new label (Err why) is_free does = tt

fails_by : (p : Program) (old new : State) (label : Label) (why : StepErr) → IsFree p old label → Stops p old label new why → Fails p old label new why
fails_by p old new label (err.Refused why) is_free stops = absurd stops.1
fails_by p old new label (err.Limit name) is_free stops = (stops.0, (is_free, stops.1))
fails_by p old new label err.Memory is_free stops = stops

pub all_fail : (p : Program) (old new : State) (label : Label) (o : Result Event StepErr) → IsFree p old label
    → IfErr o (λ why. Stops p old label new why) → IfErr o (λ why. Fails p old label new why)
all_fail p old new label (Ok told) is_free stops = tt
all_fail p old new label (Err why) is_free stops = fails_by p old new label why is_free stops

pub all_fit : (p : Program) (old new : State) (label : Label) (o : Result Event StepErr) → Fits p old → IsFree p old label
    → IfOk o (λ told. Does p old label new told) → IfErr o (λ why. Stops p old label new why) → Fits p new
all_fit p old new label (Ok told) fits is_free does stops = fits_after p old new label told fits is_free does
all_fit p old new label (Err why) fits is_free does stops = subst (Fits p) (sym stops.0) fits
