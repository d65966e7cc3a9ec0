use Rattle.std.proofs.Common.{List, drop}
use Rattle.rp_ast.specs.View.{params_view}
use Rattle.type_rules.specs.Names.{Name}
use Rattle.type_tables.specs.Counts.{IsCounted}
use Rattle.type_faults.proofs.Bound.{ParamsSo}
use Rattle.type_faults.proofs.walk.Walk.bring_all.Given as goal

abbrev pub invariant-loop-param : goal.invariant-loop-param
invariant-loop-param l =
    (later : List Name) → IsCounted l.fn.self.later later
    → ParamsSo later l.fn.self l.self l.best (params_view (drop l.param-index l.params)) (params_view l.params)
