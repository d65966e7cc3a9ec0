use Rattle.std.proofs.Common.{length, ◌-◌, ◌≡◌, drop, false}
use Rattle.std.specs.Option.{option_map}
use Rattle.schedule_fmt.specs.means.Reading.{put_front, chars_from}
use Rattle.schedule_fmt.proofs.strings.string.Given as goal

-- what is read so far stands before what is still to come
abbrev pub invariant-loop-at : goal.invariant-loop-at
invariant-loop-at l = chars_from (drop l.from l.text) false l.from ≡ option_map (put_front l.bytes) (chars_from (drop l.at l.text) l.escaped l.at)

abbrev pub decreases-loop-at : goal.decreases-loop-at
decreases-loop-at l = length l.text - l.at
