use Rattle.std.proofs.Common.{length, map}
use Rattle.rp_value.specs.ValueView.{value_view}
use Rattle.rp_lang.specs.ProgramView.{program_view}
use Rattle.schedule_fmt.specs.means.Reading.{values}
use Rattle.schedule_fmt.proofs.Gathered.{ValuesSoFar}
use Rattle.schedule_fmt.proofs.reader.Reader.values.Given as goal

abbrev pub invariant-loop-i : goal.invariant-loop-i
invariant-loop-i l =
    let p = program_view l.self.names.now.program.now in
    let text = l.self.text.now in
    ValuesSoFar p text l.tys (values p text l.tys l.from) (length text) l.i l.at (map value_view l.values)
