use Rattle.rp_lang.specs.ProgramView.{program_view}
use Rattle.repliss_cli.proofs.NamedFiles.{replayed_cause}
use Rattle.repliss_cli.proofs.replays.replay_bytes.Goals as goal

pub returns-in-Ok : goal.returns-in-Ok
returns-in-Ok c =
    replayed_cause c.args.text.now c.args.bytes.now (program_view c.args.program.now) c.in-Ok.replayed c.report_on_replayed.result
    c.requires.text c.requires.short c.in-Ok.ensures c.report_on_replayed.ensures
