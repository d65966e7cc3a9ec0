use Rattle.std.proofs.Common.{List, map, ap, ◌∙◌}
use Rattle.code_points.specs.declared.table.Place.{Place}
use Rattle.code_points.specs.PointView.{place_view}
use Rattle.code_points.specs.Places as spec
use Rattle.machine_state.proofs.StateLemmas.{one_found}
use Rattle.machine_state.proofs.state.State.rest_at.Goals as goal

pub returns : goal.returns
returns c info places at_info at_places =
    c.rest_at.ensures ∙ ap (λ (xs : List Place). spec.rest_at (map place_view xs) c.args.at) (one_found _ _ places (c.places_in.ensures info at_info) at_places)
