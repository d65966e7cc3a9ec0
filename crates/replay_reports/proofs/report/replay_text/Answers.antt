use Rattle.replay_reports.proofs.report.replay_text.Goals as goal

pub end_of-requires-clause-steps : goal.end_of-requires-clause-steps
end_of-requires-clause-steps c =
    c.read_schedules_fit.ensures.steps c.args.p.now c.in-Ok.schedule c.args.bytes.now c.in-Ok.ensures.answer.0
