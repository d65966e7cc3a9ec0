use Rattle.program_names.proofs.FirstNames.{made_next}
use Rattle.program_names.proofs.tables.made_tables.Goals as goal

pub loop-n-preserved : goal.loop-n-preserved
loop-n-preserved c =
    made_next c.args.cons.now c.loop-n.n c.get.result.now c.loop-n.tables.items c.add_con.new.tables.items c.loop-n.invariant
    c.get.ensures c.in_ok-add_con.ensures
