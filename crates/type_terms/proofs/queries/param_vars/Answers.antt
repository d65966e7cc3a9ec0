use Rattle.std.proofs.Common.{[], ◌∷◌, ◌++◌, ap, ◌∙◌}
use Rattle.rp_ast.specs.View.{param_view}
use Rattle.type_rules.specs.Queries as spec
use Rattle.text_names.specs.Declarations.{names_view}
use Rattle.type_terms.proofs.Found.{mapped_next}
use Rattle.type_terms.proofs.queries.param_vars.Goals as goal

pub loop-param-preserved : goal.loop-param-preserved
loop-param-preserved c =
    mapped_next (spec.param_var (names_view c.args.names.now)) param_view c.args.params.now c.loop-param.param-index
    c.param-item.result c.loop-param.vars c.push.new.self c.loop-param.invariant
    (c.in_ok-push.ensures.ok ∙ ap (λ var. c.loop-param.vars ++ var ∷ []) c.in_ok-var.ensures)
    c.loop-param-test.true c.param-item.is
