use Rattle.std.proofs.Common.{◌≡◌, ◌||◌, not, sym, ap, ◌∙◌, subst}
use Rattle.std.specs.Prelude.{IfOk}
use Rattle.rp_ast.specs.View.{expr_view}
use Rattle.type_rules.specs.Starts.{start}
use Rattle.type_rules.specs.Rules as spec
use Rattle.text_names.specs.Declarations.{names_view}
use Rattle.type_judges.specs.Places.{scope_view, want_view}
use Rattle.type_judges.proofs.rule_terms.rule_14.Goals as goal
use Rattle.type_judges.proofs.rule_terms.rule_14.Goals.{then-wrong, else-wrong}

pub returns : goal.returns
returns c = λ later.
    let n = names_view c.args.scope.now.names.now in
    let sc = scope_view c.args.scope.now later in
    let e = expr_view c.args.e.now in
    let wrong = spec.is_wrong 14 n sc (want_view c.args.want) e in
    let misfit = not (spec.has_its_arguments n sc e) in
    let found = sym (c.in_ok-wrong.ensures later) in
    let either : c.if-wrong.when_at ≡ (wrong || misfit) =
    elim c.if-wrong.branch [
      | then-wrong w ↦ w.when_at-is ∙ w.if-wrong.true ∙ ap (λ b. b || misfit) (sym (found ∙ w.if-wrong.true))
      | else-wrong w ↦
          w.when_at-is ∙ ap not (c.has_its_arguments-fit.ensures n sc) ∙ ap (λ b. b || misfit) (sym (found ∙ w.if-wrong.false))
    ] in
    subst (λ broken. IfOk c.when_at.result (λ at. at ≡ spec.when broken (start e))) either c.when_at.ensures
