use Rattle.std.proofs.Common.{ap}
use Rattle.std.specs.Prelude.{Err}
use Rattle.rp_value.specs.ValueView.{value_view}
use Rattle.rp_lang.specs.ProgramView.{program_view}
use Rattle.schedule_fmt.proofs.LongestText.{found_is_longest, none_stands}
use Rattle.schedule_fmt.proofs.reading.longest_at.Goals as goal

pub returns-in-Ok : goal.returns-in-Ok
returns-in-Ok c =
    found_is_longest (program_view c.args.names.now.program.now) c.args.ty c.args.bytes.now c.args.from (value_view c.in-Ok.value) c.in-Ok.to c.min.result
    c.in-Ok.ensures.found c.min.ensures

pub returns-in-Err-Absent : goal.returns-in-Err-Absent
returns-in-Err-Absent c =
    none_stands (program_view c.args.names.now.program.now) c.args.ty c.args.bytes.now c.args.from (c.in-Err-Absent.ensures.none (ap (λ e. Err e) c.in-Err-Absent.field-0-is))
