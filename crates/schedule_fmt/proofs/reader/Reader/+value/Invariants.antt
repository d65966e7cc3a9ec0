use Rattle.std.proofs.Common.{length, map, ◌+◌, ◌*◌}
use Rattle.rp_value.specs.ValueView.{value_view}
use Rattle.rp_lang.specs.ProgramView.{program_view}
use Rattle.schedule_fmt.specs.means.Reading.{value, args_by}
use Rattle.schedule_fmt.proofs.Gathered.{ArgsSoFar}
use Rattle.schedule_fmt.proofs.reader.Reader.+value.Given as goal

abbrev pub invariant-args-loop-i : goal.invariant-args-loop-i
invariant-args-loop-i l =
    let read = value (program_view l.self.names.now.program.now) l.self.text.now l.depth in
    let text = l.self.text.now in
    ArgsSoFar read text l.fields (args_by read text l.fields l.from) (length text) l.i l.at (map value_view l.args)

abbrev pub decreases-value : goal.decreases-value
decreases-value l = 3 * l.depth + 1

abbrev pub decreases-con : goal.decreases-con
decreases-con l = 3 * l.depth

abbrev pub decreases-args : goal.decreases-args
decreases-args l = 3 * l.depth + 2
