use Rattle.type_rules.specs.Names.{con_entry}
use Rattle.text_names.specs.Declarations.{names_view}
use Rattle.text_names.proofs.Entries.{cons_next}
use Rattle.text_names.proofs.names.TextNames.add_cons.Goals as goal

pub loop-con-preserved : goal.loop-con-preserved
loop-con-preserved c =
    cons_next (names_view c.args.self.now) (names_view c.loop-con.self) (names_view c.add_item.new.self)
    (con_entry c.args.decl c.args.number) c.args.cons.now c.loop-con.con-index c.con-item.result c.loop-con.invariant
    c.in_ok-add_item.ensures c.loop-con-test.true c.con-item.is
