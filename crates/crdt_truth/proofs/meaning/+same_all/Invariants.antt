use Rattle.std.proofs.Common.{length}
use Rattle.crdt_truth.proofs.meaning.+same_all.Given as goal

abbrev pub decreases-same_all : goal.decreases-same_all
decreases-same_all l = length l.a.now
