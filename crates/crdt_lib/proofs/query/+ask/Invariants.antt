use Rattle.std.proofs.Common.{length}
use Rattle.crdt_lib.proofs.query.+ask.Given as goal

abbrev pub decreases-ask : goal.decreases-ask
decreases-ask l = length l.path.now
