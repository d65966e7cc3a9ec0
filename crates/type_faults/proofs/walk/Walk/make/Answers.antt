use Rattle.std.proofs.Common.{[], ◌∷◌, refl, sym, ap, ◌∙◌, subst}
use Rattle.rp_ast.specs.View.{ident_view}
use Rattle.type_rules.specs.Accesses.{find_var}
use Rattle.type_rules.specs.Sites.{Site}
use Rattle.type_rules.specs.Faults.{judged}
use Rattle.type_rules.specs.Flow.{give}
use Rattle.type_rules.specs.StmtSites.{new_sites}
use Rattle.type_tables.specs.Counts.{IsCounted}
use Rattle.type_faults.specs.Walks.{frame_at, names_at, scope_at, sight_of}
use Rattle.type_faults.proofs.Walked.{both, here_one, judged_at, quiet, recast, then_turned}
use Rattle.type_faults.proofs.walk.Walk.make.Goals as goal

pub returns : goal.returns
returns c = λ later frame counted words.
    let a = c.args.self.now in
    let n = names_at a in
    let x = ident_view c.args.name.now in
    let ty = ident_view c.args.ty.now in
    let text = c.as_slice-text.ensures.items in
    let listed = subst (λ entries. IsCounted entries later) (sym c.scope.ensures.later) counted in
    let assigned = quiet (λ n sc. Site.assigns sc x ∷ []) words
    (here_one {later = later} (λ p. Site.assigns (scope_at later p) x)
    (judged_at (λ sc. Site.assigns sc x) c.scope.ensures.names (c.scope.ensures.scope later) (c.judge_assigns-assigned.ensures later listed)) refl counted) in
    let made = here_one {later = later} (λ p. Site.made p.decl (find_var p.sight.vars c.args.name.now.text) ty)
    (c.judge_made-made.ensures ∙ ap (λ v. judged n (Site.made a.decl v ty)) (c.find.ensures ∙ ap (find_var a.vars) text)) refl counted in
    recast (λ p. new_sites (frame_at later frame p) p.sight x ty) (λ p. record p.sight { vars = give c.args.name.now.text p.sight.vars })
    (then_turned (both assigned made c.sooner.ensures) c.give.ensures)
    refl
    (ap (λ y. record (sight_of a) { vars = give y a.vars }) text)
