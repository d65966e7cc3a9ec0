use Rattle.std.proofs.Common.{◌≡◌, ◌-◌, length, take}
use Rattle.reading.proofs.reader.shorten.Given as goal

abbrev pub invariant-loop-gone : goal.invariant-loop-gone
invariant-loop-gone l = l.known ≡ take (length l.fn.known - l._gone) l.fn.known
