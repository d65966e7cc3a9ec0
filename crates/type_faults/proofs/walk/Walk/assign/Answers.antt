use Rattle.std.proofs.Common.{[], ◌∷◌, refl, sym, ap, ◌∙◌, subst}
use Rattle.rp_ast.specs.View.{expr_view, ident_view}
use Rattle.type_rules.specs.Accesses.{find_var}
use Rattle.type_rules.specs.Sites.{Site}
use Rattle.type_rules.specs.Flow.{give}
use Rattle.type_rules.specs.ExprSites.{asks, expr_sites}
use Rattle.type_rules.specs.StmtSites.{assign_sites, var_kind}
use Rattle.type_tables.specs.Counts.{IsCounted}
use Rattle.type_judges.specs.Places.{want_view}
use Rattle.type_faults.specs.Walks.{frame_at, names_at, quiet_at, scope_at, sight_of, stand_of}
use Rattle.type_faults.proofs.Walked.{both, here_one, judged_at, quiet, recast, then_turned}
use Rattle.type_faults.proofs.walk.Walk.assign.Goals as goal

pub returns : goal.returns
returns c = λ later frame counted words.
    let a = c.args.self.now in
    let n = names_at a in
    let x = ident_view c.args.name.now in
    let value = expr_view c.args.value.now in
    let text = c.as_slice-text.ensures.items in
    let listed = subst (λ entries. IsCounted entries later) (sym c.scope.ensures.later) counted in
    let assigned = quiet (λ n sc. Site.assigns sc x ∷ []) words
    (here_one {later = later} (λ p. Site.assigns (scope_at later p) x)
    (judged_at (λ sc. Site.assigns sc x) c.scope.ensures.names (c.scope.ensures.scope later) (c.judge_assigns-assigned.ensures later listed)) refl counted) in
    let below = quiet (λ n sc. expr_sites n sc (want_view c.asks.result) value) words (c.in_ok-below.ensures later counted) in
    recast (λ p. assign_sites p.names (frame_at later frame p) p.sight x value) (λ p. record p.sight { vars = give c.args.name.now.text p.sight.vars })
    (then_turned (both assigned below c.sooner.ensures) c.give.ensures)
    (ap (λ w. Site.assigns (quiet_at later (stand_of a)) x ∷ expr_sites n (quiet_at later (stand_of a)) w value)
    (c.asks.ensures ∙ ap (asks 23) (c.var_kind-kind.ensures ∙ ap (λ y. var_kind (find_var a.vars y)) text)))
    (ap (λ y. record (sight_of a) { vars = give y a.vars }) text)
