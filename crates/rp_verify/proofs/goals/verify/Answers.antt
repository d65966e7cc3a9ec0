use Rattle.std.proofs.Common.{◌≡◌, ◌∙◌, [], sym}
use Rattle.rp_lang.specs.ProgramView.{program_view}
use Rattle.rp_verify.specs.Verdicts.{unproved}
use Rattle.rp_verify.proofs.SafeFound.{safe_none_found}
use Rattle.rp_verify.proofs.goals.verify.Goals as goal

pub returns-then-is_empty-clause-says : goal.returns-then-is_empty-clause-says
returns-then-is_empty-clause-says c =
    let none : unproved (program_view c.args.program.now) ≡ [] = sym c.in_ok-list.ensures ∙ c.is_empty.ensures.0 c.if-is_empty.true in
    record { counted = c.in_ok-goals.ensures.counted; none = none; safe = safe_none_found (program_view c.args.program.now) c.requires.first_form none }
