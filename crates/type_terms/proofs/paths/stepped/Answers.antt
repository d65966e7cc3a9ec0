use Rattle.std.proofs.Common.{◌≡◌, sym, subst}
use Rattle.std.specs.Prelude.{IfOk}
use Rattle.rp_ast.specs.View.{step_view}
use Rattle.type_rules.specs.Paths as spec
use Rattle.type_terms.specs.Views.{way_view}
use Rattle.type_terms.specs.declared.paths.Way as code_way
use Rattle.type_terms.proofs.paths.stepped.Goals as goal

pub returns-in-Came : goal.returns-in-Came
returns-in-Came c = λ n.
    subst
    (λ (way : code_way.Way). IfOk c.step_from.result
    (λ next. way_view n next ≡ spec.stepped n (way_view n way) (step_view c.args.step.now)))
    (sym c.in-Came.is)
    (c.step_from.ensures n)
