use Rattle.std.proofs.Common.{refl, sym, subst}
use Rattle.rp_ast.specs.View.{access_view}
use Rattle.type_rules.specs.Sites.{Site}
use Rattle.type_tables.specs.Counts.{IsCounted}
use Rattle.type_faults.specs.Walks.{scope_at}
use Rattle.type_faults.proofs.Walked.{both, judged_at, placed}
use Rattle.type_faults.proofs.walk.Walk.statement.Goals as goal

pub returns : goal.returns
returns c = λ later counted.
    let access = access_view c.args.access.now in
    let listed = subst (λ entries. IsCounted entries later) (sym c.scope.ensures.later) counted in
    let own = placed {later = later} (λ p. Site.statement (scope_at later p) access)
    (judged_at (λ sc. Site.statement sc access) c.scope.ensures.names (c.scope.ensures.scope later) (c.in_ok-here.ensures later listed))
    c.in_ok-mark_access.ensures refl counted in
    both own (c.in_ok-below.ensures later own.counted).0 c.sooner.ensures
