use Rattle.std.proofs.Common.{◌≡◌, rules, sym, ap, ◌∙◌, subst}
use Rattle.std.specs.Prelude.{IfOk}
use Rattle.rp_grammar.specs.Trees.{ExprTree, ExprForm}
use Rattle.rp_ast.specs.View.{access_view, expr_view}
use Rattle.rp_ast.proofs.ExprViews.{expr_views}
use Rattle.type_rules.specs.Sites.{Site}
use Rattle.type_rules.specs.Typing.{is_plain}
use Rattle.type_rules.specs.Faults.{judged}
use Rattle.text_names.specs.Declarations.{names_view}
use Rattle.type_judges.specs.Places.{scope_view, want_view}
use Rattle.type_judges.proofs.judge_places.judge_place.Goals as goal

pub returns-in-Access : goal.returns-in-Access
returns-in-Access c = λ later counted told.
    let n = names_view c.args.scope.now.names.now in
    let vars = c.args.scope.now.vars.now in
    let at = c.args.e.now.span in
    let form : expr_view c.args.e.now ≡ ExprTree.node at (ExprForm.access (access_view c.get.result.now)) = search (rules, expr_views, c.in-Access.is, c.get.ensures) in
    let e = c.judge_access.ensures at later counted (told ∙ ap (is_plain n vars) form) in
    subst (λ t. IfOk c.judge_access.result (λ fault. fault ≡ judged n (Site.place (scope_view c.args.scope.now later) (want_view c.args.want) t))) (sym form) e
