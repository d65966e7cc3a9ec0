use Rattle.std.proofs.Common.{[], ◌∷◌, ◌++◌, codes, None, refl, ap, ap₂, ◌∙◌}
use Rattle.rp_ast.specs.View.{block_arms_view, expr_view}
use Rattle.type_rules.specs.Sites.{Site}
use Rattle.type_rules.specs.Starts.{word_at}
use Rattle.type_rules.specs.Typing.{type_of}
use Rattle.type_rules.specs.Faults.{judged}
use Rattle.type_rules.specs.ExprSites.{expr_sites, matched}
use Rattle.type_rules.specs.StmtSites.{arm_names}
use Rattle.type_judges.specs.Places.{want_view}
use Rattle.type_faults.specs.Walks.{names_at, quiet_at, stand_of}
use Rattle.type_faults.proofs.Walked.{both, here_one, quiet, recast}
use Rattle.type_faults.proofs.walk.Walk.match_head.Goals as goal

pub returns : goal.returns
returns c = λ later counted words.
    let a = c.args.self.now in
    let n = names_at a in
    let term = expr_view c.args.term.now in
    let names = arm_names (block_arms_view c.args.arms.now) in
    let kind = type_of n a.vars None term in
    let at = word_at (codes "match") c.args.at in
    let own = quiet (λ n sc. expr_sites n sc (want_view c.matched.result) term) words (c.in_ok-here.ensures later counted) in
    let m = names_at c.expr.new.self in
    let word = here_one {later = later} (λ p. Site.arms at c.in_ok-kind.kind names)
    (c.judge_arms.ensures m names c.in_ok-kind.kind c.in_ok-all.ensures c.cases_of.ensures
    ∙ ap (λ at. judged m (Site.arms at c.in_ok-kind.kind names)) c.in_ok-word.ensures)
    refl own.counted in
    recast (λ p. expr_sites p.names (quiet_at later p) matched term ++ Site.arms at (type_of p.names p.sight.vars None term) names ∷ []) (λ p. p.sight)
    (both own word c.sooner.ensures)
    (ap₂ (λ w k. expr_sites n (quiet_at later (stand_of a)) w term ++ Site.arms at k names ∷ []) c.matched.ensures c.in_ok-kind.ensures)
    refl
