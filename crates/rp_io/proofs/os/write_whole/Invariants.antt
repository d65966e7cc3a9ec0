use Rattle.std.proofs.Common.{length}
use Rattle.rp_io.proofs.os.write_whole.Given as goal

abbrev pub decreases-writes : goal.decreases-writes
decreases-writes g l = length l.rest
