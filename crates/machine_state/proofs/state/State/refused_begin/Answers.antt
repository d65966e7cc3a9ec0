use Rattle.std.proofs.Common.{◌<◌, List, ℕ, None, length, ap, sym, ◌∙◌, refl, arith}
use Rattle.rp_lang.specs.ProgramView.{program_view}
use Rattle.machine_state.specs.StateView.{state_view}
use Rattle.machine_state.specs.means.Refusals.{unseeable, bad_stamp}
use Rattle.machine_state.proofs.StateLemmas.{some_at, viewed_at}
use Rattle.machine_state.proofs.RefusalLemmas.{either, behind_begin}
use Rattle.machine_state.proofs.state.State.refused_begin.Goals as goal

pub returns-in-Some : goal.returns-in-Some
returns-in-Some c =
    let v = program_view c.args.p.now in
    let s = c.args.self.now in
    let sv = state_view v s in
    let run = c.get.result.now in
    let within : c.args.i < length s.infos = omega (arith, c.requires.fits.kept.runs) in
    let info = some_at s.infos c.args.i within in
    let found = c.in-Some.ensures ∙ ap (λ (xs : List ℕ). unseeable sv c.args.sees.now xs) c.as_slice.ensures.items in
    ap (λ o. either o (bad_stamp sv c.args.stamp c.args.sees.now None)) found
    ∙ sym (behind_begin v sv c.args.i c.args.stamp c.args.sees.now run.seen _ (viewed_at v s c.args.i info.0 run info.1 c.get.ensures) refl)

pub returns-in-None : goal.returns-in-None
returns-in-None c =
    let v = program_view c.args.p.now in
    let s = c.args.self.now in
    let sv = state_view v s in
    let run = c.get.result.now in
    let within : c.args.i < length s.infos = omega (arith, c.requires.fits.kept.runs) in
    let info = some_at s.infos c.args.i within in
    let none = c.in-None.ensures ∙ ap (λ (xs : List ℕ). unseeable sv c.args.sees.now xs) c.as_slice.ensures.items in
    c.bad_stamp.ensures v
    ∙ ap (λ o. either o (bad_stamp sv c.args.stamp c.args.sees.now None)) none
    ∙ sym (behind_begin v sv c.args.i c.args.stamp c.args.sees.now run.seen _ (viewed_at v s c.args.i info.0 run info.1 c.get.ensures) refl)
