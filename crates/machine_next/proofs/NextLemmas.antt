-- What a running invocation of a state does next.
use Rattle.std.proofs.Common.{◌≡◌, ℕ, ◌<◌, true, refl, sym, ap, ◌∙◌, arith, length, Some, slice_get}
use Rattle.std.proofs.lemmas.Bool.{true≢false}
use Rattle.std.proofs.lemmas.Option.{slice_get_within}
use Rattle.rp_lang.specs.declared.program.Program.{Program}
use Rattle.rp_lang.specs.ProgramView.{program_view}
use Rattle.crdt_defs.specs.Calls.{calls_view}
use Rattle.crdt_defs.specs.Histories.{IsHistory}
use Rattle.crdt_truth.specs.declared.reading.Outcome.{Outcome}
use Rattle.event_machine.specs.States as seen
use Rattle.event_machine.specs.Machine as spec
use Rattle.machine_bounds.specs.NextWithin.{NextWithin}
use Rattle.machine_bounds.proofs.CodeBounds.{invocation-within}
use Rattle.machine_reads.specs.Reads.{Viewed, read_at}
use Rattle.machine_reads.proofs.ReadingLemmas.{has_words}
use Rattle.machine_state.specs.declared.state.Run.{Run}
use Rattle.machine_state.specs.declared.state.State.{State}
use Rattle.machine_state.specs.declared.state.Standing as stood
use Rattle.machine_state.specs.declared.state.Standing.TheVariants as stand
use Rattle.machine_state.specs.Accessors.{is_running}
use Rattle.machine_state.specs.Fits.{Fits}
use Rattle.machine_state.specs.StateView.{inv_view, invs_view, standing_view, state_view}
use Rattle.machine_state.proofs.StateLemmas as state
use Rattle.machine_state.proofs.StateLemmas.{one_found, invs_length, viewed}

-- the invocation of that number with what the code keeps of it
pub viewed_as : (p : Program) (s : State) (i : ℕ) (inv : seen.Invocation) → Fits p s → Viewed p s i inv → state.Viewed (program_view p) s i
viewed_as p s i inv fits at =
    let v = program_view p in
    let h = calls_view s.history in
    let same : length s.infos ≡ length s.runs = fits.kept.runs in
    let count : length (invs_view v h s.infos s.runs) ≡ length s.runs = invs_length v h s.infos s.runs same in
    let within : i < length (invs_view v h s.infos s.runs) = slice_get_within (invs_view v h s.infos s.runs) i inv at in
    viewed v s i same (omega arith)

pub running_is : (standing : stood.Standing) (outcome : Outcome) → is_running standing ≡ true → standing_view standing outcome ≡ seen.Running
running_is stand.Running outcome e = refl
running_is stand.Returned outcome e = absurd (true≢false (sym e))
running_is stand.Failed outcome e = absurd (true≢false (sym e))

pub next_within : (p : Program) (s : State) (i : ℕ) → Fits p s → IsHistory (calls_view s.history) → ((run : Run) → slice_get s.runs i ≡ Some run → is_running run.standing ≡ true)
    → (inv : seen.Invocation) → Viewed p s i inv → NextWithin (read_at p s inv) inv.left
next_within p s i fits history running inv at =
    let v = program_view p in
    let it = viewed_as p s i inv fits at in
    let same : inv_view v (calls_view s.history) it.info it.run ≡ inv = one_found (slice_get (state_view v s).invocations i) _ inv it.is at in
    let runs : inv.standing ≡ seen.Running =
    ap (λ (inv : seen.Invocation). inv.standing) (sym same) ∙ running_is it.run.standing it.info.outcome (running it.run it.is_run) in
    invocation-within v p.well_formed (state_view v s) fits.well_formed fits.typed (has_words p s fits history) i inv at runs (spec.reading_set (calls_view s.history) inv)
