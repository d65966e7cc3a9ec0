use Rattle.std.proofs.Common.{◌≡◌, map, take}
use Rattle.rp_ast.specs.View.{param_view}
use Rattle.type_rules.specs.Queries as spec
use Rattle.text_names.specs.Declarations.{names_view}
use Rattle.type_terms.proofs.queries.param_vars.Given as goal

abbrev pub invariant-loop-param : goal.invariant-loop-param
invariant-loop-param l = l.vars ≡ map (spec.param_var (names_view l.names)) (map param_view (take l.param-index l.params))
