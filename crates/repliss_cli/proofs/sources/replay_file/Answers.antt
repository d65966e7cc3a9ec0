use Rattle.std.proofs.Common.{subst, ap, Err}
use Rattle.rp_io.specs.Files.{content_of}
use Rattle.rp_lang.specs.ProgramView.{program_view}
use Rattle.repliss_cli.specs.Replays.{IsReplayOf}
use Rattle.repliss_cli.proofs.Causes.{on_content, long_cause}
use Rattle.repliss_cli.proofs.sources.replay_file.Goals as goal

pub returns-in-Ok-replay_bytes-clause-cause : goal.returns-in-Ok-replay_bytes-clause-cause
returns-in-Ok-replay_bytes-clause-cause g c =
    let text = c.args.text.now in
    let report = c.in-Ok-replay_bytes.report in
    on_content (content_of (g.F.Files.told c.args.files.now) c.args.schedule.now) c.in-Ok.bytes.items (λ bytes. IsReplayOf text bytes report)
    c.in-Ok.ensures.content (subst (λ bytes. IsReplayOf text bytes report) c.deref.ensures.value c.in-Ok-replay_bytes.ensures)

pub returns-in-Err-TooLong-clause-cause : goal.returns-in-Err-TooLong-clause-cause
returns-in-Err-TooLong-clause-cause g c =
    long_cause c.args.text.now (program_view c.args.program.now) (content_of (g.F.Files.told c.args.files.now) c.args.schedule.now) c.requires.text
    (c.in-Err-TooLong.ensures.too_long (ap (λ e. Err e) c.in-Err-TooLong.field-0-is))
