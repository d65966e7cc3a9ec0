use Rattle.std.proofs.Common.{◌≡◌, drop}
use Rattle.rp_ast.specs.View.{params_view}
use Rattle.type_rules.specs.DeclSites.{written_all}
use Rattle.type_rules.specs.Faults.{first, sooner}
use Rattle.type_faults.specs.Walks.{names_at}
use Rattle.type_faults.proofs.walk.Walk.written.Given as goal

abbrev pub invariant-loop-param : goal.invariant-loop-param
invariant-loop-param l =
    sooner l.best (first (names_at l.self) (written_all l.self.decl l.role (params_view (drop l.param-index l.params))))
    ≡ first (names_at l.self) (written_all l.self.decl l.role (params_view l.params))
