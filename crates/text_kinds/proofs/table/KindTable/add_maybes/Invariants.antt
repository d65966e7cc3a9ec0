use Rattle.desugaring.specs.Appearances.{maybes_of}
use Rattle.text_kinds.specs.Seen.{kinds_view}
use Rattle.text_kinds.specs.means.Rows.{Adds}
use Rattle.text_kinds.proofs.table.KindTable.add_maybes.Given as goal

abbrev pub invariant-loop-held : goal.invariant-loop-held
invariant-loop-held l = Adds (maybes_of l.base l.held) (kinds_view l.initial.self) (kinds_view l.self)
