use Rattle.std.proofs.Common.{◌≡◌, ◌++◌, map, take}
use Rattle.rp_ast.specs.View.{con_view}
use Rattle.type_rules.specs.Names.{con_entry}
use Rattle.text_names.specs.Declarations.{names_view}
use Rattle.text_names.proofs.names.TextNames.add_cons.Given as goal

abbrev pub invariant-loop-con : goal.invariant-loop-con
invariant-loop-con l =
    let names = names_view l.initial.self in
    names_view l.self
    ≡ record names { entries = names.entries ++ map (con_entry l.decl l.number) (map con_view (take l.con-index l.cons)) }
