use Rattle.std.proofs.Common.{◌≡◌, ◌&&◌, not, refl, sym, ap, ap₂, ◌∙◌, subst}
use Rattle.rp_ast.specs.View.{access_view, args_view, ident_view}
use Rattle.rp_ast.specs.declared.expr.AccessStep.TheViews.{out-AccessNode}
use Rattle.rp_ast.proofs.ExprViews.{access_view-parts}
use Rattle.type_rules.specs.Faults.{judged}
use Rattle.type_rules.specs.Sites.{Site}
use Rattle.type_rules.specs.Accesses as accesses
use Rattle.type_rules.specs.Rules as spec
use Rattle.text_names.specs.Declarations.{names_view}
use Rattle.type_terms.specs.Meanings.{access_by, is_nothing}
use Rattle.type_terms.proofs.Meant.{node_meant}
use Rattle.type_judges.specs.Meant.{is_late}
use Rattle.type_judges.specs.Places.{scope_view}
use Rattle.type_judges.proofs.Meanings.{late, missing, out_of_sight}
use Rattle.type_judges.proofs.Noted.{noted}
use Rattle.type_judges.proofs.judge_places.judge_statement.Goals as goal

pub returns : goal.returns
returns c = λ later counted.
    let n = names_view c.args.scope.now.names.now in
    let sc = scope_view c.args.scope.now later in
    let node = out-AccessNode c.args.access.now in
    let x = ident_view node.root in
    let at = node.root.span in
    let a = access_view c.args.access.now in
    let parts = access_view-parts c.args.access.now in
    let is =
    c.in_ok-what.ensures n ∙ ap (λ m. access_by n m a) c.meaning_of-meaning.ensures
    ∙ node_meant n sc.vars c.args.access.now ∙ ap (accesses.access_of n sc.vars) parts in
    let nothing = c.is_nothing-nothing.ensures ∙ ap is_nothing c.meaning_of-meaning.ensures ∙ out_of_sight n sc x in
    let early = c.is_early-early.ensures later counted ∙ ap (λ b. b && spec.is_later sc x) nothing in
    let fit = c.args_fit-fit.ensures n ∙ ap (λ b. accesses.args_fit n b (args_view node.args)) is in
    let by15 = c.when.ensures ∙ ap (λ b. spec.when b at) early in
    let by14 = c.when-2.ensures ∙ ap (λ b. spec.when (not b) at) fit in
    let by13 = c.when-3.ensures ∙ ap (λ b. spec.when (not b) at) (c.is_statement.ensures n ∙ ap spec.is_statement is) in
    let by12 = c.misfit_in.ensures n ∙ ap spec.misfit_in is in
    let by9 = c.stray_returned.ensures ∙ ap (λ t. spec.unless sc.words (spec.returned_word t)) parts in
    let by4 = c.when-4.ensures
    ∙ ap (λ b. spec.when b at) (c.is_missing.ensures ∙ ap₂ (λ b d. b && not d) nothing early
    ∙ missing (spec.is_out_of_sight n sc x) (spec.is_later sc x)) in
    let by3 = c.late_root.ensures
    ∙ ap (λ b. spec.when b at) (ap (is_late sc.decl) c.meaning_of-meaning.ensures ∙ late n sc x) in
    subst (λ t. c.note.result ≡ judged n (Site.statement sc t)) (sym parts)
    (noted 3 c.note.ensures by3
    (noted 4 c.note-best-6.ensures by4
    (noted 9 c.note-best-5.ensures by9
    (noted 12 c.note-best-4.ensures by12
    (noted 13 c.note-best-3.ensures by13
    (noted 14 c.note-best-2.ensures by14
    (noted 15 c.note-best.ensures by15 refl)))))))
