use Rattle.std.proofs.Common.{◌≡◌, drop}
use Rattle.rp_ast.specs.View.{steps_view}
use Rattle.type_rules.specs.Rules as spec
use Rattle.type_judges.proofs.rule_uses.returned_in.Given as goal

abbrev pub invariant-loop-step : goal.invariant-loop-step
invariant-loop-step l = spec.returned_in (steps_view (drop l.step-index l.steps)) ≡ spec.returned_in (steps_view l.steps)
