use Rattle.std.proofs.Common.{subst, ap, ◌∙◌, map}
use Rattle.rp_lang.specs.ProgramView.{program_view}
use Rattle.rp_verify.specs.Verdicts.{Says}
use Rattle.rp_verify.specs.declared.verdict.Verdict.TheVariants as verdict
use Rattle.repliss_cli.specs.means.Lines.{line_for}
use Rattle.repliss_cli.proofs.Named.{unproved_report}
use Rattle.repliss_cli.proofs.Refused.{first_text, past_limits, past_text}
use Rattle.repliss_cli.proofs.judge.verdict_on_first.Goals as goal

pub returns-in-Ok-Verified : goal.returns-in-Ok-Verified
returns-in-Ok-Verified c =
    let p = program_view c.args.program.now in
    let says : Says p (verdict.Verified c.in-Ok-Verified.goals)
    = subst (Says p) c.in-Ok-Verified.field-0-is c.in-Ok-Verified.ensures.says in
    record {
      program = p;
      text = first_text c.requires.text c.requires.first_form c.in-Ok-Verified.ensures.within;
      safe = says.safe;
      counts = says.counted;
    }

pub returns-in_ok-lines_for-in-Ok-Unproved : goal.returns-in_ok-lines_for-in-Ok-Unproved
returns-in_ok-lines_for-in-Ok-Unproved c =
    let p = program_view c.args.program.now in
    let says : Says p (verdict.Unproved c.in-Ok-Unproved.goals c.in-Ok-Unproved.list)
    = subst (Says p) c.in-Ok-Unproved.field-0-is c.in-Ok-Unproved.ensures.says in
    unproved_report c.false_by_trying.ensures c.args.text.now p _ c.in-Ok-Unproved.list _
    (first_text c.requires.text c.requires.first_form c.in-Ok-Unproved.ensures.within)
    says.counted says.exact says.some
    (c.in_ok-lines_for-in-Ok-Unproved.ensures ∙ ap (map (line_for c.args.text.now p)) c.as_slice.ensures.items)

pub returns-in-Err-Paths : goal.returns-in-Err-Paths
returns-in-Err-Paths c =
    past_text c.requires.text (past_limits (program_view c.args.program.now) _ c.in-Err-Paths.ensures.past (λ e. let is = c.in-Err-Paths.field-0-is in cc))

pub returns-in-Err-Goals : goal.returns-in-Err-Goals
returns-in-Err-Goals c =
    past_text c.requires.text (past_limits (program_view c.args.program.now) _ c.in-Err-Goals.ensures.past (λ e. let is = c.in-Err-Goals.field-0-is in cc))

pub verify-requires : goal.verify-requires
verify-requires c = record { first_form = c.requires.first_form }
