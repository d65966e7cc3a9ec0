-- What the code's table of datatypes is seen as.
use Rattle.text_names.specs.Declarations.{names_view}
use Rattle.text_kinds.specs.Numbered.{Numbered, numbered}
use Rattle.text_kinds.specs.declared.table.KindTable.{KindTable}

abbrev pub kinds_view : KindTable → Numbered
kinds_view t = numbered (names_view t.names.now) t.kinds
