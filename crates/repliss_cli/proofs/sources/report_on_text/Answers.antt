use Rattle.std.proofs.Common.{sym, subst}
use Rattle.repliss_cli.specs.Refusals.{IsRefusalOf}
use Rattle.repliss_cli.specs.Answers.{IsReportFrom}
use Rattle.repliss_cli.specs.means.Commands.{command_view}
use Rattle.repliss_cli.specs.means.Stops.{IsTextErr}
use Rattle.repliss_cli.proofs.Causes.{refusal_cause}
use Rattle.repliss_cli.proofs.sources.report_on_text.Goals as goal

pub returns-in-Err-Refused-clause-cause : goal.returns-in-Err-Refused-clause-cause
returns-in-Err-Refused-clause-cause g c =
    let content = c.args.content.items in
    let told = g.F.Files.told c.args.files.now in
    let command = command_view c.args.command in
    let report = c.in-Err-Refused.report in
    let refused : IsRefusalOf c.new-text.result report = subst (IsTextErr c.new-text.result) c.in-Err-Refused.field-0-is c.in-Err-Refused.ensures.err in
    subst (IsReportFrom content told command) (sym c.in-Err-Refused.report-is)
    (refusal_cause content told command report (subst (λ text. IsRefusalOf text report) c.new-text.ensures refused))
