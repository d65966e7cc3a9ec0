use Rattle.std.proofs.Common.{ap, ◌∙◌}
use Rattle.rp_io.specs.Sinks.{bytes_of}
use Rattle.repliss_cli.proofs.Putting.{no_room_for}
use Rattle.repliss_cli.proofs.top.put_report.Goals as goal

pub returns-clause-no_room : goal.returns-clause-no_room
returns-clause-no_room g c = λ _. no_room_for _ _ _ (ap bytes_of c.deref.ensures.value ∙ c.in-Ok.ensures) c.in-Err.ensures.no_room
