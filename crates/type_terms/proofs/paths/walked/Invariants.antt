use Rattle.std.proofs.Common.{◌≡◌, drop}
use Rattle.rp_ast.specs.View.{steps_view}
use Rattle.type_rules.specs.Names.{Names}
use Rattle.type_rules.specs.Paths as spec
use Rattle.type_terms.specs.Views.{way_view}
use Rattle.type_terms.proofs.paths.walked.Given as goal

abbrev pub invariant-loop-step : goal.invariant-loop-step
invariant-loop-step l =
    (n : Names) → spec.walked n (way_view n l.way) (steps_view (drop l.step-index l.steps))
    ≡ spec.walked n (way_view n l.fn.way) (steps_view l.steps)
