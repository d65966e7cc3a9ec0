use Rattle.std.proofs.Common.{[], drop, List}
use Rattle.std.specs.Option.{option_map_or}
use Rattle.rp_ast.specs.View.{idents_view}
use Rattle.type_rules.specs.Names.{Name}
use Rattle.type_tables.specs.Counts.{IsCounted}
use Rattle.type_terms.specs.Views.{fields_of}
use Rattle.type_faults.specs.Walks.{names_at}
use Rattle.type_faults.proofs.Bound.{BoundSo}
use Rattle.type_faults.proofs.walk.Walk.bind_all.Given as goal

abbrev pub invariant-loop-place : goal.invariant-loop-place
invariant-loop-place l =
    (later : List Name) → IsCounted l.fn.self.later later
    → BoundSo later l.fn.self l.self l.best l.place (idents_view (drop l.place l.vars)) (idents_view l.vars)
    (option_map_or (fields_of (names_at l.fn.self)) l.case [])
