-- The spots and places that definitions speak of, of those of the code.
use Rattle.std.specs.Prelude.{option_map}
use Rattle.code_points.specs.declared.point.Spot.{Spot}
use Rattle.code_points.specs.declared.point.Spot.TheVariants as made
use Rattle.code_points.specs.declared.table.Place.{Place}
use Rattle.code_points.specs.Places as places
use Rattle.code_points.specs.Points as seen
use Rattle.rp_lang.specs.Views.{stmt_view}

abbrev pub spot_view : Spot → seen.Spot
spot_view (made.Before at stmt) = seen.Before at (stmt_view stmt.now)
spot_view (made.Closing at block) = seen.Closing at block

abbrev pub place_view : Place → places.Place
place_view place = record { spot = option_map spot_view place.spot; rest = place.rest }
