use Rattle.std.proofs.Common.{[], refl, sym, ap}
use Rattle.rp_ast.specs.View.{expr_view, optional}
use Rattle.type_rules.specs.StmtSites.{value_sites}
use Rattle.type_judges.specs.Places.{want_view}
use Rattle.text_names.proofs.Entries.{if_ok}
use Rattle.type_faults.specs.Walks.{names_at, scope_at, stand_of}
use Rattle.type_faults.proofs.Walked.{here, recast}
use Rattle.type_faults.proofs.walk.Walk.value.Goals as goal

pub returns-in-Some : goal.returns-in-Some
returns-in-Some c = λ later counted.
    let a = c.args.self.now in
    let want = want_view c.args.want in
    if_ok c.expr.result
    (λ f w. recast (λ p. value_sites p.names (scope_at later p) want (optional expr_view c.args.value.now)) (λ p. p.sight) w
    (ap (λ o. value_sites (names_at a) (scope_at later (stand_of a)) want (optional expr_view o)) (sym c.in-Some.is)) refl)
    (c.expr.ensures later counted)

pub returns-in-None : goal.returns-in-None
returns-in-None c = λ later counted.
    let a = c.args.self.now in
    let want = want_view c.args.want in
    recast (λ p. value_sites p.names (scope_at later p) want (optional expr_view c.args.value.now)) (λ p. p.sight)
    (here {later = later} (λ p. []) refl refl counted)
    (ap (λ o. value_sites (names_at a) (scope_at later (stand_of a)) want (optional expr_view o)) (sym c.in-None.is)) refl
