use Rattle.std.proofs.Common.{List, drop, map}
use Rattle.rp_ast.specs.View.{con_view}
use Rattle.type_rules.specs.Names.{Name, Names, con_name}
use Rattle.type_terms.specs.Views.{IsTableOf}
use Rattle.type_faults.proofs.Named.{NamedSo}
use Rattle.type_faults.proofs.names.con_faults.Given as goal

abbrev pub invariant-loop-con : goal.invariant-loop-con
invariant-loop-con l =
    (n : Names) (names : List Name) → IsTableOf l.fn.before names
    → NamedSo n l.before l.best names (map con_name (map con_view (drop l.con-index l.cons))) (map con_name (map con_view l.cons))
