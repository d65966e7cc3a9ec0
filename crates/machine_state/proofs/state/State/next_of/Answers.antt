use Rattle.std.proofs.Common.{Some, refl, ap, sym, ◌∙◌}
use Rattle.rp_lang.specs.Views.{stmts_view}
use Rattle.code_points.specs.Actions.{spot_action}
use Rattle.code_points.proofs.ActionLaws.{next_is}
use Rattle.machine_state.proofs.StateLemmas.{some_at}
use Rattle.machine_state.proofs.FitsLemmas.{is_placed, next_is_at}
use Rattle.machine_state.proofs.state.State.next_of.Goals as goal

pub returns : goal.returns
returns c =
    let info = some_at c.args.self.now.infos c.args.inv c.requires.within in
    let run = c.get.result.now in
    let it = is_placed c.args.p.now c.args.self.now c.args.inv info.0 run _ _ c.requires.fits info.1 (c.places_in.ensures info.0 info.1) refl in
    next_is_at c.args.p.now c.args.self.now c.args.inv info.0 run it.decl info.1 c.get.ensures it.is
    ∙ ap (λ x. Some x) (next_is (stmts_view it.decl.body) run.at it.decl.end ∙ ap spot_action (sym it.spot_so) ∙ sym c.next_at.ensures)
