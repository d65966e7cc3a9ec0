-- A state fits after a label.
use Rattle.std.proofs.Common.{◌≡◌, sym, ap, subst, None, ◌⊎◌, inl, inr, map, ◌∙◌}
use Rattle.rp_lang.specs.Programs.{Prog}
use Rattle.rp_lang.specs.declared.event.Event.{Event}
use Rattle.rp_lang.specs.declared.program.Program.{Program}
use Rattle.rp_lang.specs.ProgramView.{program_view}
use Rattle.event_machine.specs.States as seen
use Rattle.event_machine.specs.States.{Label, Answer, Moved, Checked, Violated, Refused}
use Rattle.event_machine.specs.Machine as spec
use Rattle.event_machine.specs.Runs.{Leads}
use Rattle.event_machine.proofs.KeptLemmas.{step-formed}
use Rattle.event_machine.proofs.TypedKept.{step-typed}
use Rattle.event_machine.proofs.ProgramFits.{procs-fit}
use Rattle.machine_state.specs.declared.state.State.{State}
use Rattle.code_points.specs.PointView.{place_view}
use Rattle.machine_state.specs.Fits.{Fits}
use Rattle.machine_state.specs.StateView.{state_view}
use Rattle.machine_effects.specs.Steps.{Tells, Does}

-- where a label isn't refused, its step is its effect
pub not_refused : (p : Prog) (s : seen.State) (label : Label) → spec.refusal p s label ≡ None → spec.step p s label ≡ spec.effect p s label
not_refused p s label none = ap (λ o. spec.unless_refused o (spec.effect p s label)) none

leads_or_same : (v : Prog) (old new : State) (answer : Answer) (told : Event) → Tells v old answer new told → Leads (state_view v old) answer (state_view v new) ⊎ (new ≡ old)
leads_or_same v old new (Moved mid) told tells = inl tells.1
leads_or_same v old new Checked told tells = inr tells.1
leads_or_same v old new (Violated what) told tells = inr tells.1
leads_or_same v old new (Refused why) told tells = absurd tells

pub fits_after : (p : Program) (old new : State) (label : Label) (told : Event) → Fits p old → spec.refusal (program_view p) (state_view (program_view p) old) label ≡ None → Does p old label new told → Fits p new
fits_after p old new label told fits free does =
    let v = program_view p in
    let stepped : spec.step v (state_view v old) label ≡ spec.effect v (state_view v old) label = not_refused v (state_view v old) label free in
    elim (leads_or_same v old new (spec.effect v (state_view v old) label) told does.tells) [
      | inl leads ↦
          let leads_on = subst (λ answer. Leads (state_view v old) answer (state_view v new)) (sym stepped) leads in
          record {
            room = fits.room;
            places = ap (map (map place_view)) does.places ∙ fits.places;
            well_formed = step-formed v (procs-fit v p.well_formed) (state_view v old) label (state_view v new) fits.well_formed leads_on;
            typed = step-typed v p.well_formed (state_view v old) label (state_view v new) fits.typed leads_on;
            kept = does.kept;
            known = does.known;
          }
      | inr same ↦ subst (Fits p) (sym same) fits
    ]
