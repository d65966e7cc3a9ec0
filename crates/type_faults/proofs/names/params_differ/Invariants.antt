use Rattle.std.proofs.Common.{[], drop, map}
use Rattle.rp_ast.specs.View.{params_view}
use Rattle.type_rules.specs.Names.{Names, param_name}
use Rattle.type_faults.proofs.Named.{NamedSo}
use Rattle.type_faults.proofs.names.params_differ.Given as goal

abbrev pub invariant-loop-param : goal.invariant-loop-param
invariant-loop-param l =
    (n : Names) → NamedSo n l.before l.best [] (map param_name (params_view (drop l.param-index l.params))) (map param_name (params_view l.params))
