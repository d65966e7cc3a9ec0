use Rattle.std.proofs.Common.{◌≡◌, ◌<◌, length, sym, subst, refl, ap, Err}
use Rattle.std.specs.Prelude.{Contains, IfSome}
use Rattle.rp_io.specs.Files.{content_of}
use Rattle.repliss_cli.specs.Answers.{IsReportFor}
use Rattle.repliss_cli.specs.means.Commands.{command_view}
use Rattle.repliss_cli.specs.declared.report.Report.TheVariants.{Usage}
use Rattle.repliss_cli.proofs.Causes.{too_long_cause}
use Rattle.repliss_cli.proofs.NamedFiles.{content_causes, program_unsound, schedule_unsound}
use Rattle.repliss_cli.proofs.top.report_for.Goals as goal

pub returns-in_default-clause-cause : goal.returns-in_default-clause-cause
returns-in_default-clause-cause g c = subst (λ a. IsReportFor a (g.F.Files.told c.args.files.now) Usage) c.in_default.ensures refl

pub returns-in-Ok-clause-cause : goal.returns-in-Ok-clause-cause
returns-in-Ok-clause-cause g c =
    let told = g.F.Files.told c.args.files.now in
    let content = c.in-Ok.content.items in
    content_causes c.args.words.now told _ (command_view c.in-Some.command) content c.report_on_text.result (sym c.in-Some.ensures)
    (subst (λ name. IfSome (content_of told name) (λ x. content ≡ x)) c.program.ensures c.in-Ok.ensures.content) c.read_all.ensures.same_told c.report_on_text.ensures.cause

pub returns-in-Ok-clause-unsound : goal.returns-in-Ok-clause-unsound
returns-in-Ok-clause-unsound g c = λ e.
    let told = g.F.Files.told c.args.files.now in
    let content = c.in-Ok.content.items in
    schedule_unsound c.args.words.now told (command_view c.in-Some.command) _ _ content (sym c.in-Some.ensures)
    (subst (λ name. IfSome (content_of told name) (λ x. content ≡ x)) c.program.ensures c.in-Ok.ensures.content)
    c.read_all.ensures.same_sound (c.report_on_text.ensures.unsound e) (c.report_on_text.ensures.behind_program e)

pub returns-in-Err-TooLong-clause-cause : goal.returns-in-Err-TooLong-clause-cause
returns-in-Err-TooLong-clause-cause g c =
    let told = g.F.Files.told c.args.files.now in
    too_long_cause c.args.words.now told (command_view c.in-Some.command) (sym c.in-Some.ensures)
    (subst (λ name. IfSome (content_of told name) (λ x. 262144 < length x)) c.program.ensures
    (c.in-Err-TooLong.ensures.too_long (ap (λ e. Err e) c.in-Err-TooLong.field-0-is)))

pub returns-in-Err-Failed-clause-unsound : goal.returns-in-Err-Failed-clause-unsound
returns-in-Err-Failed-clause-unsound g c = λ e.
    let sound = g.F.Files.sound c.args.files.now in
    program_unsound c.args.words.now (g.F.Files.told c.args.files.now) (command_view c.in-Some.command) sound (sym c.in-Some.ensures)
    (λ h. c.in-Err-Failed.ensures.sound_names (subst (λ name. Contains sound name) (sym c.program.ensures) h) (ap (λ e. Err e) c.in-Err-Failed.field-0-is))
