use Rattle.std.proofs.Common.{drop}
use Rattle.rp_ast.specs.View.{expr_arms_view, exprs_view, steps_view}
use Rattle.type_rules.specs.Accesses.{args_of}
use Rattle.type_rules.specs.ExprSites.{word_args}
use Rattle.type_terms.specs.Views.{access_view, way_view}
use Rattle.text_names.specs.Declarations.{names_view}
use Rattle.text_kinds.specs.means.Brought.{args_bring, arms_bring, operands_bring, steps_bring}
use Rattle.text_kinds.specs.means.Walked.{Goes, seen}
use Rattle.text_kinds.proofs.appearances.Seeker.+exprs.Given as goal

abbrev pub invariant-operands-loop-operand : goal.invariant-operands-loop-operand
invariant-operands-loop-operand l =
    Goes (seen l.fn.self) (seen l.self)
    (operands_bring (names_view l.fn.self.kinds.names.now) l.fn.self.vars (exprs_view (drop l.operand-index l.operands)))
    (operands_bring (names_view l.fn.self.kinds.names.now) l.fn.self.vars (exprs_view l.operands))

abbrev pub invariant-arms-loop-arm : goal.invariant-arms-loop-arm
invariant-arms-loop-arm l =
    Goes (seen l.fn.self) (seen l.self)
    (arms_bring (names_view l.fn.self.kinds.names.now) l.fn.self.vars l.kind (expr_arms_view (drop l.arm-index l.arms)))
    (arms_bring (names_view l.fn.self.kinds.names.now) l.fn.self.vars l.kind (expr_arms_view l.arms))

abbrev pub invariant-word-loop-place : goal.invariant-word-loop-place
invariant-word-loop-place l =
    Goes (seen l.fn.self) (seen l.self)
    (args_bring (names_view l.fn.self.kinds.names.now) l.fn.self.vars
    (drop l.place (word_args (names_view l.fn.self.kinds.names.now) l.fn.self.vars l.word (exprs_view l.args)))
    (exprs_view (drop l.place l.args)))
    (args_bring (names_view l.fn.self.kinds.names.now) l.fn.self.vars
    (word_args (names_view l.fn.self.kinds.names.now) l.fn.self.vars l.word (exprs_view l.args)) (exprs_view l.args))

abbrev pub invariant-args-loop-place : goal.invariant-args-loop-place
invariant-args-loop-place l =
    Goes (seen l.fn.self) (seen l.self)
    (args_bring (names_view l.fn.self.kinds.names.now) l.fn.self.vars
    (drop l.place (args_of (names_view l.fn.self.kinds.names.now) (access_view (names_view l.fn.self.kinds.names.now) l.what)))
    (exprs_view (drop l.place l.args)))
    (args_bring (names_view l.fn.self.kinds.names.now) l.fn.self.vars
    (args_of (names_view l.fn.self.kinds.names.now) (access_view (names_view l.fn.self.kinds.names.now) l.what))
    (exprs_view l.args))

abbrev pub invariant-keys-loop-step : goal.invariant-keys-loop-step
invariant-keys-loop-step l =
    Goes (seen l.fn.self) (seen l.self)
    (steps_bring (names_view l.fn.self.kinds.names.now) l.fn.self.vars (way_view (names_view l.fn.self.kinds.names.now) l.way)
    (steps_view (drop l.step-index l.steps)))
    (steps_bring (names_view l.fn.self.kinds.names.now) l.fn.self.vars
    (way_view (names_view l.fn.self.kinds.names.now) l.fn.way) (steps_view l.steps))
