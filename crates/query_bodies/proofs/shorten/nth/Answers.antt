use Rattle.std.proofs.Common.{option_map, sym, ap}
use Rattle.query_bodies.specs.Views.{term_view}
use Rattle.query_bodies.proofs.shorten.nth.Goals as goal

pub returns-in-Some : goal.returns-in-Some
returns-in-Some c = ap (option_map term_view) (sym c.in-Some.ensures)
