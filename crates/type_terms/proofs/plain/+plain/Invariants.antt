use Rattle.std.proofs.Common.{◌≡◌, drop}
use Rattle.rp_ast.specs.View.{exprs_view, steps_view}
use Rattle.type_rules.specs.Typing as spec
use Rattle.text_names.specs.Declarations.{names_view}
use Rattle.type_terms.proofs.plain.+plain.Given as goal

abbrev pub invariant-are_plain-loop-e : goal.invariant-are_plain-loop-e
invariant-are_plain-loop-e l =
    spec.are_plain (names_view l.names) l.vars (exprs_view (drop l.e-index l.es))
    ≡ spec.are_plain (names_view l.names) l.vars (exprs_view l.es)

abbrev pub invariant-are_plain_steps-loop-step : goal.invariant-are_plain_steps-loop-step
invariant-are_plain_steps-loop-step l =
    spec.are_plain_steps (names_view l.names) l.vars (steps_view (drop l.step-index l.steps))
    ≡ spec.are_plain_steps (names_view l.names) l.vars (steps_view l.steps)
