use Rattle.std.proofs.Common.{refl}
use Rattle.rp_ast.specs.View.{crdt_view}
use Rattle.text_tables.proofs.Adding.{root_is}
use Rattle.text_tables.proofs.object.ObjectTable.add_root.Goals as goal

pub returns : goal.returns
returns c =
    root_is c.args.self.now c.add_crdt.new.self _ (crdt_view c.args.crdt.now) c.in_ok-add_crdt.ensures refl refl refl c.in_ok-roots.ensures
