use Rattle.std.proofs.Common.{sym, ap, ap₂, ◌∙◌, subst}
use Rattle.rp_ast.specs.View.{expr_view}
use Rattle.type_rules.specs.Sites.{Site}
use Rattle.type_rules.specs.Typing.{is_plain}
use Rattle.type_tables.specs.Counts.{IsCounted}
use Rattle.type_judges.specs.Places.{want_view}
use Rattle.type_faults.specs.RightPlaces.{operator_kind, takes_own}
use Rattle.type_faults.specs.Walks.{names_at, scope_at, stand_of}
use Rattle.type_faults.proofs.RightLaws.{operator_quiet}
use Rattle.type_faults.proofs.Walked.{judged_at}
use Rattle.type_faults.proofs.walk.Walk.own_fault.Goals as goal

pub returns-then-takes_own : goal.returns-then-takes_own
returns-then-takes_own c = λ later counted told.
    let w = want_view c.args.want in
    let e = expr_view c.args.e.now in
    operator_quiet (names_at c.args.self.now) (scope_at later (stand_of c.args.self.now)) w e
    (sym (ap (takes_own w (operator_kind e)) told) ∙ sym (ap (λ o. takes_own w o c.args.plain) c.operator_kind.ensures)
    ∙ sym c.takes_own.ensures ∙ c.if-takes_own.true)

pub returns : goal.returns
returns c = λ later counted told.
    let e = expr_view c.args.e.now in
    let scope = c.scope.ensures.scope later in
    let listed = subst (λ entries. IsCounted entries later) (sym c.scope.ensures.later) counted in
    let plain = told ∙ sym (ap₂ (λ m vs. is_plain m vs e) c.scope.ensures.names (ap (λ sc. sc.vars) scope)) in
    judged_at (λ sc. Site.place sc (want_view c.args.want) e) c.scope.ensures.names scope (c.in_ok-fault.ensures later listed plain)
