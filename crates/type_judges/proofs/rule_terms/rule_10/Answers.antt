use Rattle.std.proofs.Common.{◌≡◌, ◌||◌, sym, ap, ◌∙◌, subst}
use Rattle.std.specs.Prelude.{IfOk}
use Rattle.rp_ast.specs.View.{expr_view}
use Rattle.type_rules.specs.Starts.{start}
use Rattle.type_rules.specs.Rules as spec
use Rattle.text_names.specs.Declarations.{names_view}
use Rattle.type_judges.specs.Places.{scope_view, want_view}
use Rattle.type_judges.proofs.rule_terms.rule_10.Goals as goal
use Rattle.type_judges.proofs.rule_terms.rule_10.Goals.{then-wrong, else-wrong, then-is_lone_none, else-is_lone_none}

pub returns : goal.returns
returns c = λ later.
    let n = names_view c.args.scope.now.names.now in
    let sc = scope_view c.args.scope.now later in
    let want = want_view c.args.want in
    let e = expr_view c.args.e.now in
    let wrong = spec.is_wrong 10 n sc want e in
    let lone = spec.is_lone_none want e in
    let no_data = spec.is_some_of_no_data n sc want e in
    let found = sym (c.in_ok-wrong.ensures later) in
    let either : c.if-wrong.value ≡ (wrong || lone) =
    elim c.if-wrong.branch [
      | then-wrong w ↦ w.value-is ∙ w.if-wrong.true ∙ ap (λ b. b || lone) (sym (found ∙ w.if-wrong.true))
      | else-wrong w ↦ w.value-is ∙ w.is_lone_none.ensures ∙ ap (λ b. b || lone) (sym (found ∙ w.if-wrong.false))
    ] in
    let any : c.if-is_lone_none.when_at ≡ ((wrong || lone) || no_data) =
    elim c.if-is_lone_none.branch [
      | then-is_lone_none w ↦
          w.when_at-is ∙ w.if-is_lone_none.true ∙ ap (λ b. b || no_data) (sym (sym either ∙ w.if-is_lone_none.true))
      | else-is_lone_none w ↦
          w.when_at-is ∙ c.in_ok-no_data.ensures later ∙ ap (λ b. b || no_data) (sym (sym either ∙ w.if-is_lone_none.false))
    ] in
    subst (λ broken. IfOk c.when_at.result (λ at. at ≡ spec.when broken (start e))) any c.when_at.ensures
