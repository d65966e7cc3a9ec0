use Rattle.std.proofs.Common.{◌+◌, ◌<◌, List, map, sym, ap, subst, ◌∙◌, arith}
use Rattle.rp_lang.specs.ProgramView.{program_view}
use Rattle.rp_lang.specs.Views.{stmts_view}
use Rattle.code_points.specs.declared.table.Place.{Place}
use Rattle.code_points.specs.PointView.{place_view}
use Rattle.code_points.specs.Places.{look}
use Rattle.code_points.specs.Points.{size, spot_in}
use Rattle.machine_state.specs.Spots.{IsSpot, IsWithin}
use Rattle.machine_state.proofs.StateLemmas.{one_found, some_at}
use Rattle.machine_state.proofs.PointLemmas.{wider, spot_within}
use Rattle.machine_state.proofs.FitsLemmas.{has_space, spot_is, is_placed, is_told}
use Rattle.machine_state.proofs.state.State.spot.Goals as goal

pub returns-clause-is : goal.returns-clause-is
returns-clause-is c =
    let info = some_at c.args.self.now.infos c.args.inv c.requires.within in
    let run = c.get.result.now in
    let it = is_placed c.args.p.now c.args.self.now c.args.inv info.0 run _ _ c.requires.fits info.1 (c.places_in.ensures info.0 info.1) c.spot_at.ensures in
    subst (IsSpot (program_view c.args.p.now) c.args.self.now c.args.inv) (sym it.spot_so)
    (spot_is c.args.p.now c.args.self.now c.args.inv info.0 run it.decl info.1 c.get.ensures it.is)

pub returns-clause-room : goal.returns-clause-room
returns-clause-room c =
    let info = some_at c.args.self.now.infos c.args.inv c.requires.within in
    let run = c.get.result.now in
    let it = is_placed c.args.p.now c.args.self.now c.args.inv info.0 run _ _ c.requires.fits info.1 (c.places_in.ensures info.0 info.1) c.spot_at.ensures in
    let space : size (stmts_view it.decl.body) < 18446744073709551615 = has_space c.args.p.now info.0.proc it.decl c.requires.fits.room it.is in
    subst (IsWithin 18446744073709551614) (sym it.spot_so)
    (wider (0 + size (stmts_view it.decl.body)) 18446744073709551614 (spot_in (stmts_view it.decl.body) 0 run.at) (omega arith) (spot_within (stmts_view it.decl.body) 0 run.at))

pub returns-clause-told : goal.returns-clause-told
returns-clause-told c info places at_info at_places =
    is_told c.args.p.now c.args.self.now c.args.inv info c.get.result.now places _ c.requires.fits at_info at_places
    (c.spot_at.ensures ∙ ap (λ (xs : List Place). look (map place_view xs) c.get.result.now.at) (one_found _ _ places (c.places_in.ensures info at_info) at_places))
