use Rattle.std.proofs.Common.{◌≡◌, ◌&&◌, List, drop, false, true}
use Rattle.std.specs.Option.{option_map}
use Rattle.rp_ast.specs.View.{expr_arms_view, exprs_view, steps_view}
use Rattle.type_rules.specs.declared.kind.Kind.{Kind}
use Rattle.type_rules.specs.Names.{Name}
use Rattle.type_rules.specs.Accesses.{args_of}
use Rattle.type_rules.specs.Typing.{are_plain, are_plain_steps}
use Rattle.type_rules.specs.Matches.{cases_of}
use Rattle.type_rules.specs.ExprSites as spec
use Rattle.type_tables.specs.Counts.{IsCounted}
use Rattle.type_terms.specs.Views.{access_view, cases_view, way_view}
use Rattle.type_faults.specs.Walks.{names_at, scope_at, stand_of}
use Rattle.type_faults.proofs.Meeting.{ExprArmsWalked}
use Rattle.type_faults.proofs.Walked.{Walked}
use Rattle.type_faults.proofs.walk.Walk.+exprs.Given as goal

abbrev pub invariant-operands-loop-operand : goal.invariant-operands-loop-operand
invariant-operands-loop-operand l =
    let n = names_at l.fn.self in
    (later : List Name) → IsCounted l.fn.self.later later
    → Walked later l.fn.self l.self l.best
    (spec.operand_sites n (scope_at later (stand_of l.fn.self)) (exprs_view (drop l.operand-index l.operands)))
    (spec.operand_sites n (scope_at later (stand_of l.fn.self)) (exprs_view l.operands)) (λ p. p.sight)

abbrev pub invariant-word-loop-place : goal.invariant-word-loop-place
invariant-word-loop-place l =
    let n = names_at l.fn.self in
    let kinds = spec.word_args n l.fn.self.vars l.word (exprs_view l.args) in
    (later : List Name) → IsCounted l.fn.self.later later
    → Walked later l.fn.self l.self l.best
    (spec.arg_sites n (scope_at later (stand_of l.fn.self)) false (drop l.place kinds) (exprs_view (drop l.place l.args)))
    (spec.arg_sites n (scope_at later (stand_of l.fn.self)) false kinds (exprs_view l.args)) (λ p. p.sight)
    × ((l.plain && are_plain n l.fn.self.vars (exprs_view (drop l.place l.args)))
    ≡ (l.initial.plain && are_plain n l.fn.self.vars (exprs_view l.args)))

abbrev pub invariant-args-loop-place : goal.invariant-args-loop-place
invariant-args-loop-place l =
    let n = names_at l.fn.self in
    let kinds = args_of n (access_view n l.what) in
    (later : List Name) → IsCounted l.fn.self.later later
    → Walked later l.fn.self l.self l.best
    (spec.arg_sites n (scope_at later (stand_of l.fn.self)) true (drop l.place kinds) (exprs_view (drop l.place l.args)))
    (spec.arg_sites n (scope_at later (stand_of l.fn.self)) true kinds (exprs_view l.args)) (λ p. p.sight)
    × ((l.plain && are_plain n l.fn.self.vars (exprs_view (drop l.place l.args))) ≡ are_plain n l.fn.self.vars (exprs_view l.args))

abbrev pub invariant-keys-loop-step : goal.invariant-keys-loop-step
invariant-keys-loop-step l =
    let n = names_at l.fn.self in
    (later : List Name) → IsCounted l.fn.self.later later
    → Walked later l.fn.self l.self l.best
    (spec.step_sites n (scope_at later (stand_of l.fn.self)) (way_view n l.way) (steps_view (drop l.step-index l.steps)))
    (spec.step_sites n (scope_at later (stand_of l.fn.self)) (way_view n l.fn.way) (steps_view l.steps)) (λ p. p.sight)
    × ((l.plain && are_plain_steps n l.fn.self.vars (steps_view (drop l.step-index l.steps))) ≡ are_plain_steps n l.fn.self.vars (steps_view l.steps))

abbrev pub invariant-each_arm-loop-arm : goal.invariant-each_arm-loop-arm
invariant-each_arm-loop-arm l =
    (later : List Name) (kind : Kind) → IsCounted l.fn.self.later later
    → option_map (cases_view (names_at l.fn.self)) l.cases ≡ cases_of (names_at l.fn.self) kind
    → ExprArmsWalked later kind l.before l.fn.self l.self l.best (expr_arms_view (drop l.arm-index l.arms)) (expr_arms_view l.arms)
