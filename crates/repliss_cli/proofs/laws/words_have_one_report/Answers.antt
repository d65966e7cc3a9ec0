use Rattle.repliss_cli.proofs.WordReports.{Known, one_of_words, some_of_words}
use Rattle.repliss_cli.proofs.laws.words_have_one_report.Goals as goal

pub returns : goal.returns
returns c =
    let known : Known = record { text = c.a_text_has_one_report.ensures.one; replay = c.a_replay_has_one_report.ensures.one } in
    record { one = one_of_words known; some = some_of_words c.a_text_has_one_report.ensures.some c.a_replay_has_one_report.ensures.some }
