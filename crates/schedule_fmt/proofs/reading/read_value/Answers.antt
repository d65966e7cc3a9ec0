use Rattle.std.proofs.Common.{subst}
use Rattle.std.specs.Prelude.{IfOk}
use Rattle.rp_lang.specs.ProgramView.{program_view}
use Rattle.schedule_fmt.specs.Answers.{IsLongest}
use Rattle.schedule_fmt.proofs.reading.read_value.Goals as goal

pub returns : goal.returns
returns c =
    subst (λ q. IfOk c.longest_at.result (IsLongest (program_view q) c.args.ty c.args.bytes.now c.args.from)) c.in_ok-names.ensures c.longest_at.ensures
