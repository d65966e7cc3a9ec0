use Rattle.std.proofs.Common.{length}
use Rattle.reading.proofs.path.+end_past.Given as goal

abbrev pub decreases-end_past : goal.decreases-end_past
decreases-end_past l = length l.rest.now
