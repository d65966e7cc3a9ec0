use Rattle.std.proofs.Common.{length}
use Rattle.reshaped.proofs.clauses.+clause.Given as goal

abbrev pub decreases-clause : goal.decreases-clause
decreases-clause l = length l.parts.now
