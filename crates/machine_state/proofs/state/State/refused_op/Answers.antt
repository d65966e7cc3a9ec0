use Rattle.std.proofs.Common.{◌<◌, List, ℕ, length, ap, sym, ◌∙◌, refl, arith}
use Rattle.rp_lang.specs.ProgramView.{program_view}
use Rattle.machine_state.specs.StateView.{state_view}
use Rattle.machine_state.specs.means.Refusals.{bad_stamp}
use Rattle.machine_state.proofs.StateLemmas.{some_at, viewed_at}
use Rattle.machine_state.proofs.RefusalLemmas.{behind_op}
use Rattle.machine_state.proofs.state.State.refused_op.Goals as goal

pub returns : goal.returns
returns c =
    let v = program_view c.args.p.now in
    let s = c.args.self.now in
    let sv = state_view v s in
    let run = c.get-run.result.now in
    let within : c.args.i < length s.infos = omega (arith, c.requires.fits.kept.runs) in
    let info = some_at s.infos c.args.i within in
    c.bad_stamp.ensures v
    ∙ ap (λ (xs : List ℕ). bad_stamp sv c.args.stamp xs run.tx) c.as_slice.ensures.items
    ∙ sym (behind_op v sv c.args.i c.args.stamp run.seen run.tx _ (viewed_at v s c.args.i info.0 run info.1 c.get-run.ensures) refl refl)
