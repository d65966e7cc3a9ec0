use Rattle.std.proofs.Common.{◌-◌, [], drop}
use Rattle.rp_ast.specs.View.{decls_view}
use Rattle.type_tables.specs.Counts.{IsCounted}
use Rattle.type_tables.specs.Marks.{IsMarked}
use Rattle.type_faults.specs.Walks.{names_at}
use Rattle.type_faults.proofs.Entered.{EnteredSo}
use Rattle.type_faults.proofs.walk.Walk.decls.Given as goal

abbrev pub invariant-loop-behind : goal.invariant-loop-behind
invariant-loop-behind l =
    IsMarked l.fn.self.used [] → IsCounted l.fn.self.later []
    → EnteredSo (names_at l.fn.self) l.self l.best (l.count - l.behind) (drop (l.count - l.behind) (decls_view l.decls))
