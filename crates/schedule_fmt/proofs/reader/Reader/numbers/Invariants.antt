use Rattle.std.proofs.Common.{length}
use Rattle.schedule_fmt.specs.means.Reading.{numbers}
use Rattle.schedule_fmt.proofs.Gathered.{NumbersSoFar}
use Rattle.schedule_fmt.proofs.reader.Reader.numbers.Given as goal

abbrev pub invariant-loop-i : goal.invariant-loop-i
invariant-loop-i l = NumbersSoFar l.self.text.now (numbers l.self.text.now l.from) (length l.self.text.now) l._i l.least l.at l.numbers
