use Rattle.std.proofs.Common.{codes, refl, ap, ◌∙◌}
use Rattle.rp_ast.specs.View.{expr_arms_view}
use Rattle.type_rules.specs.Sites.{Site}
use Rattle.type_rules.specs.Starts.{word_at}
use Rattle.type_rules.specs.ExprSites.{arm_names}
use Rattle.type_rules.specs.Faults.{judged}
use Rattle.type_faults.specs.Walks.{names_at}
use Rattle.type_faults.proofs.Walked.{here_one}
use Rattle.type_faults.proofs.walk.Walk.match_word.Goals as goal

pub returns : goal.returns
returns c = λ later kind counted cases.
    let n = names_at c.args.self.now in
    let names = arm_names (expr_arms_view c.args.arms.now) in
    here_one {later = later} (λ p. Site.arms (word_at (codes "match") c.args.at) kind names)
    (c.judge_arms.ensures n names kind c.in_ok-all.ensures cases ∙ ap (λ at. judged n (Site.arms at kind names)) c.in_ok-word.ensures)
    refl counted
