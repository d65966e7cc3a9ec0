use Rattle.std.proofs.Common.{true≢false, sym, ◌∙◌}
use Rattle.repliss_cli.proofs.Refused.{unlike_text}
use Rattle.repliss_cli.proofs.judge.verdict.Goals as goal

pub verdict_on_first-requires-clause-first_form : goal.verdict_on_first-requires-clause-first_form
verdict_on_first-requires-clause-first_form c = c.is_first_form.ensures.0 c.if-is_first_form.true

pub returns-else-is_first_form : goal.returns-else-is_first_form
returns-else-is_first_form c =
    unlike_text c.requires.text (λ form. true≢false (sym (c.is_first_form.ensures.1 form) ∙ c.if-is_first_form.false))
