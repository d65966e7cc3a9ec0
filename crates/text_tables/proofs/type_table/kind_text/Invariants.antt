use Rattle.std.proofs.Common.{◌≡◌, ◌++◌}
use Rattle.std.specs.Prelude.{codes}
use Rattle.desugaring.specs.Tables.{base_text}
use Rattle.text_names.specs.Declarations.{names_view}
use Rattle.text_tables.specs.means.Texts.{repeated}
use Rattle.text_tables.proofs.type_table.kind_text.Given as goal

abbrev pub invariant-loop-opened : goal.invariant-loop-opened
invariant-loop-opened l = l.text ≡ repeated (codes "Maybe[") l._opened

abbrev pub invariant-loop-closed : goal.invariant-loop-closed
invariant-loop-closed l =
    l.text ≡ repeated (codes "Maybe[") l.fn.kind.maybes ++ base_text (names_view l.names) l.fn.kind.base ++ repeated (codes "]") l._closed
