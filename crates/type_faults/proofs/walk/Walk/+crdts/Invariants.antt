use Rattle.std.proofs.Common.{◌≡◌, drop}
use Rattle.rp_ast.specs.View.{fields_view}
use Rattle.type_rules.specs.DeclSites.{fields_sites}
use Rattle.type_rules.specs.Faults.{first, sooner}
use Rattle.type_faults.specs.Walks.{names_at}
use Rattle.type_faults.proofs.walk.Walk.+crdts.Given as goal

abbrev pub invariant-fields-loop-field : goal.invariant-fields-loop-field
invariant-fields-loop-field l =
    sooner l.best (first (names_at l.self) (fields_sites l.self.decl (fields_view (drop l.field-index l.fields))))
    ≡ first (names_at l.self) (fields_sites l.self.decl (fields_view l.fields))
