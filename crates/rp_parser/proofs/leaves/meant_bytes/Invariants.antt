use Rattle.std.proofs.Common.{◌≡◌, ◌++◌, length}
use Rattle.rp_parser.specs.means.Marks.{meant}
use Rattle.rp_parser.proofs.leaves.meant_bytes.Given as goal

abbrev pub invariant-bytes : goal.invariant-bytes
invariant-bytes l = meant l.fn.inside ≡ l.bytes ++ meant l.rest

abbrev pub decreases-bytes : goal.decreases-bytes
decreases-bytes l = length l.rest
