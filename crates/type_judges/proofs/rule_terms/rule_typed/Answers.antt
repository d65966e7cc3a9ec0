use Rattle.std.proofs.Common.{◌≡◌, subst}
use Rattle.std.specs.Prelude.{IfOk}
use Rattle.rp_ast.specs.View.{expr_view}
use Rattle.type_rules.specs.Starts.{start}
use Rattle.type_rules.specs.Rules as spec
use Rattle.type_judges.proofs.rule_terms.rule_typed.Goals as goal

pub returns : goal.returns
returns c = λ later.
    subst (λ broken. IfOk c.when_at.result (λ at. at ≡ spec.when broken (start (expr_view c.args.e.now))))
    (c.in_ok-broken.ensures later) c.when_at.ensures
