use Rattle.std.proofs.Common.{◌++◌, drop}
use Rattle.rp_ast.specs.View.{params_view}
use Rattle.type_rules.specs.Queries.{param_vars}
use Rattle.text_names.specs.Declarations.{names_view}
use Rattle.text_kinds.specs.means.Brought.{params_bring}
use Rattle.text_kinds.specs.means.Walked.{Gains, seen}
use Rattle.text_kinds.proofs.appearances.Seeker.params.Given as goal

abbrev pub invariant-loop-param : goal.invariant-loop-param
invariant-loop-param l =
    Gains (seen l.fn.self) (seen l.self)
    (params_bring (names_view l.fn.self.kinds.names.now) (params_view (drop l.param-index l.params)))
    (params_bring (names_view l.fn.self.kinds.names.now) (params_view l.params))
    (l.self.vars ++ param_vars (names_view l.fn.self.kinds.names.now) (params_view (drop l.param-index l.params)))
    (l.fn.self.vars ++ param_vars (names_view l.fn.self.kinds.names.now) (params_view l.params))
