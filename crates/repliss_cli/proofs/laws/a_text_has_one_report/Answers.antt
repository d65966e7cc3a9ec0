use Rattle.repliss_cli.proofs.Reports.{one_report, some_report}
use Rattle.repliss_cli.proofs.laws.a_text_has_one_report.Goals as goal

pub returns : goal.returns
returns c = record { one = one_report; some = some_report c.texts_have_programs.ensures }
