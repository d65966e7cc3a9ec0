use Rattle.std.proofs.Common.{length}
use Rattle.query_enc.proofs.queries.+ask.Given as goal

abbrev pub decreases-ask : goal.decreases-ask
decreases-ask l = length l.path.now
