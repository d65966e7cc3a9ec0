use Rattle.std.proofs.Common.{[], drop}
use Rattle.rp_ast.specs.View.{fields_view}
use Rattle.type_rules.specs.Names.{Names}
use Rattle.type_rules.specs.DeclSites.{field_names}
use Rattle.type_faults.proofs.Named.{NamedSo}
use Rattle.type_faults.proofs.names.fields_differ.Given as goal

abbrev pub invariant-loop-field : goal.invariant-loop-field
invariant-loop-field l =
    (n : Names) → NamedSo n l.before l.best [] (field_names (fields_view (drop l.field-index l.fields))) (field_names (fields_view l.fields))
