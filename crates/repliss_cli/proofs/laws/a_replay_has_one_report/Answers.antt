use Rattle.repliss_cli.proofs.OneReplay.{Known, one_replay, taken}
use Rattle.repliss_cli.proofs.SomeReplay.{some_replay}
use Rattle.repliss_cli.proofs.laws.a_replay_has_one_report.Goals as goal

pub returns : goal.returns
returns c =
    let known : Known = record {
      text = c.a_text_has_one_report.ensures.one;
      line = c.a_schedule_has_one_report.ensures.line;
      kind = c.a_schedule_has_one_report.ensures.kind;
    } in
    record { one = one_replay known; some = some_replay c.a_text_has_one_report.ensures.some; taken = taken }
