use Rattle.std.proofs.Common.{length, ◌-◌, ◌≡◌, ◌≤◌, drop}
use Rattle.schedule_fmt.specs.means.Reading.{digits_from}
use Rattle.schedule_fmt.proofs.numbers.digits.Given as goal

abbrev pub invariant-loop-at : goal.invariant-loop-at
invariant-loop-at l = record {
  in_range : l.value ≤ l.most;
  so_far : digits_from l.most l.value (drop l.at l.text) l.at ≡ digits_from l.most l.first (drop l.from l.text) l.from;
}

abbrev pub decreases-loop-at : goal.decreases-loop-at
decreases-loop-at l = length l.text - l.at
