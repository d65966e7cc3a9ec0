use Rattle.std.proofs.Common.{◌≡◌, not, subst}
use Rattle.std.specs.Prelude.{IfOk}
use Rattle.rp_ast.specs.View.{expr_view}
use Rattle.type_rules.specs.Starts.{start}
use Rattle.type_rules.specs.Rules as spec
use Rattle.text_names.specs.Declarations.{names_view}
use Rattle.type_judges.specs.Places.{scope_view}
use Rattle.type_judges.proofs.rule_terms.rule_13.Goals as goal

pub returns : goal.returns
returns c = λ later.
    subst (λ stands. IfOk c.when_at.result (λ at. at ≡ spec.when (not stands) (start (expr_view c.args.e.now))))
    (c.expr_stands-stands.ensures (names_view c.args.scope.now.names.now) (scope_view c.args.scope.now later)) c.when_at.ensures
