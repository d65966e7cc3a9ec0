use Rattle.std.proofs.Common.{subst}
use Rattle.rp_lang.specs.ProgramView.{program_view}
use Rattle.schedule_fmt.specs.Answers.{IsAnswer}
use Rattle.schedule_fmt.proofs.reading.read_with_names.Goals as goal

pub returns : goal.returns
returns c = subst (λ q. IsAnswer (program_view q) c.args.bytes.now c.read_within.result) c.in_ok-names.ensures c.read_within.ensures
