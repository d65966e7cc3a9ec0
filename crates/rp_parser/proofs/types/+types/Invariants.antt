use Rattle.std.proofs.Common.{◌+◌, ◌*◌}
use Rattle.rp_parser.specs.means.Reading.{left}
use Rattle.rp_parser.proofs.types.+types.Given as goal

abbrev pub decreases-read_type : goal.decreases-read_type
decreases-read_type l = 2 * left l.rest

abbrev pub decreases-read_element : goal.decreases-read_element
decreases-read_element l = 2 * left l.rest + 1
