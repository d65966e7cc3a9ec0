use Rattle.std.proofs.Common.{◌≡◌, ◌++◌, drop}
use Rattle.desugaring.specs.Tables.{data_decls}
use Rattle.text_names.specs.Declarations.{names_view}
use Rattle.text_tables.proofs.type_table.datatypes.Given as goal

abbrev pub invariant-loop-kind : goal.invariant-loop-kind
invariant-loop-kind l =
    l.decls ++ data_decls (names_view l.names) l.next (drop l.kind-index l.kinds) ≡ data_decls (names_view l.names) 0 l.kinds
