use Rattle.rp_lang.specs.ProgramView.{program_view}
use Rattle.schedule_fmt.proofs.Exact.{every_text, every_fault}
use Rattle.schedule_fmt.proofs.reading.read.Goals as goal

pub returns-clause-every_text : goal.returns-clause-every_text
returns-clause-every_text c = every_text (program_view c.args.p.now) c.args.bytes.now c.read_with_names.result c.read_with_names.ensures

pub returns-clause-every_fault : goal.returns-clause-every_fault
returns-clause-every_fault c = every_fault (program_view c.args.p.now) c.args.bytes.now c.read_with_names.result c.read_with_names.ensures
