use Rattle.std.proofs.Common.{sym}
use Rattle.rp_lang.specs.ProgramView.{program_view}
use Rattle.schedule_fmt.proofs.Exact.{line_answer, limit_answer, ok_answer}
use Rattle.schedule_fmt.proofs.reading.read_within.Goals as goal

pub returns-in-Err : goal.returns-in-Err
returns-in-Err c = line_answer (program_view c.args.names.now.program.now) c.args.bytes.now c.in-Err.e c.in-Err.ensures

pub returns-in-Some : goal.returns-in-Some
returns-in-Some c = limit_answer (program_view c.args.names.now.program.now) c.args.bytes.now c.in-Ok.found c.in-Some.which c.in-Ok.ensures (sym c.in-Some.ensures)

pub returns-in-None : goal.returns-in-None
returns-in-None c = ok_answer (program_view c.args.names.now.program.now) c.args.bytes.now c.in-Ok.found c.in-Ok.ensures (sym c.in-None.ensures)
