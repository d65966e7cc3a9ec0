use Rattle.std.proofs.Common.{◌-◌, ◌≤◌, length}
use Rattle.rp_io.proofs.os.read_from.Given as goal

abbrev pub invariant-reads : goal.invariant-reads
invariant-reads g l = l.len ≤ length l.buf

abbrev pub decreases-reads : goal.decreases-reads
decreases-reads g l = length l.buf - l.len
