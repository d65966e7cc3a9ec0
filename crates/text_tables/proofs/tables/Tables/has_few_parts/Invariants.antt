use Rattle.std.proofs.Common.{◌≡◌, ◌&&◌, Some, drop, length}
use Rattle.rp_value.specs.declared.tables.ConTable.{ConTable}
use Rattle.rp_lang.specs.Types.{are_within_parts}
use Rattle.desugaring.specs.Tables.{con_table, type_table}
use Rattle.text_tables.specs.Seen.{tables_view}
use Rattle.text_tables.proofs.PartsLaw.{IsTold}
use Rattle.text_tables.proofs.tables.Tables.has_few_parts.Given as goal

abbrev pub invariant-loop-kind : goal.invariant-loop-kind
invariant-loop-kind l =
    let t = tables_view l.self in
    (length l.before ≡ l.kind-index)
    × ((cons : ConTable) → con_table t ≡ Some cons
    → IsTold t cons l.before
    × ((l.few && are_within_parts (type_table t) cons l.kind-index (drop l.kind-index (type_table t).datatypes))
    ≡ are_within_parts (type_table t) cons 0 (type_table t).datatypes))
