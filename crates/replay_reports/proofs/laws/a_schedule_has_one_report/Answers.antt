use Rattle.replay_reports.proofs.OneReport.{Known, one_report}
use Rattle.replay_reports.proofs.laws.a_schedule_has_one_report.Goals as goal

pub returns-clause-line : goal.returns-clause-line
returns-clause-line c =
    let known : Known = record { one_limit = c.first_limits_are_one.ensures.which; one_step = c.first_limits_are_one.ensures.step } in
    λ text p bytes a b f g. (one_report known text p bytes a b f g).0

pub returns-clause-kind : goal.returns-clause-kind
returns-clause-kind c =
    let known : Known = record { one_limit = c.first_limits_are_one.ensures.which; one_step = c.first_limits_are_one.ensures.step } in
    λ p bytes a b f g. (one_report known bytes p bytes a b f g).1
