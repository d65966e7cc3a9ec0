use Rattle.std.proofs.Common.{◌≡◌, drop, map}
use Rattle.rp_ast.specs.View.{con_view}
use Rattle.type_rules.specs.DeclSites.{con_sites}
use Rattle.type_rules.specs.Faults.{first, sooner}
use Rattle.type_faults.specs.Walks.{names_at}
use Rattle.type_faults.proofs.walk.Walk.cons.Given as goal

abbrev pub invariant-loop-con : goal.invariant-loop-con
invariant-loop-con l =
    sooner l.best (first (names_at l.self) (con_sites l.self.decl (map con_view (drop l.con-index l.cons))))
    ≡ first (names_at l.self) (con_sites l.self.decl (map con_view l.cons))
