use Rattle.std.proofs.Common.{None, not, ap, ◌∙◌}
use Rattle.type_rules.specs.Faults.{marked, sooner}
use Rattle.type_rules.specs.Rules as spec
use Rattle.type_judges.proofs.judge_stmts.judge_arms.Goals as goal

pub returns : goal.returns
returns c = λ n names kind table found.
    c.note.ensures
    ∙ ap (λ at. sooner (marked 18 at) None)
    (c.when.ensures
    ∙ ap (λ b. spec.when (not b) c.args.at) (c.is_complete.ensures n names table ∙ ap (spec.is_complete names) found))
