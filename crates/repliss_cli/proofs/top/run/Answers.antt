use Rattle.repliss_cli.specs.Texts.{report_text}
use Rattle.repliss_cli.proofs.Exactly.{exactly}
use Rattle.repliss_cli.proofs.Outcomes.{outcome_put}
use Rattle.repliss_cli.proofs.Putting.{none_put}
use Rattle.repliss_cli.proofs.top.run.Goals as goal

pub returns-in-Ok-clause-exact : goal.returns-in-Ok-clause-exact
returns-in-Ok-clause-exact g c = λ report are cause.
    exactly c.args.words.now (g.F.Files.told c.args.files.now) c.put_report.result (g.K.Sink.told c.args.out.now) (g.K.Sink.told c.put_report.new.out) c.in-Ok.report report
    (c.words_have_one_report.ensures.one c.args.words.now (g.F.Files.told c.args.files.now)) c.in-Ok.ensures.cause c.put_report.ensures.whole are cause

pub returns-in-Ok-clause-replayed : goal.returns-in-Ok-clause-replayed
returns-in-Ok-clause-replayed g c = λ file schedule content bytes asks of_file of_schedule done.
    outcome_put c.args.words.now (g.F.Files.told c.args.files.now) c.put_report.result (g.K.Sink.told c.args.out.now) (g.K.Sink.told c.put_report.new.out) c.in-Ok.report
    file schedule content bytes c.in-Ok.ensures.cause c.put_report.ensures.whole asks of_file of_schedule done

-- nothing was put, and some report has its cause
pub returns-in-Err-NoMemory-clause-no_memory_cut : goal.returns-in-Err-NoMemory-clause-no_memory_cut
returns-in-Err-NoMemory-clause-no_memory_cut g c = λ e.
    let some = c.words_have_one_report.ensures.some c.args.words.now (g.F.Files.told c.args.files.now) in
    record { report = some.0; cause = some.1; put = none_put (g.K.Sink.told c.args.out.now) (report_text some.0) }
