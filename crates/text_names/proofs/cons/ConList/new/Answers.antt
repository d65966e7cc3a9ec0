use Rattle.text_names.proofs.Tables.{indexed_more}
use Rattle.text_names.proofs.cons.ConList.new.Goals as goal

pub loop-number-preserved : goal.loop-number-preserved
loop-number-preserved c =
    indexed_more (λ con. con.name.text) c.args.cons.now c.loop-number.number c.get-con.result.now c.as_slice.result.now
    c.loop-number.numbers c.add.new.self c.loop-number.invariant c.get-con.ensures c.as_slice.ensures.items c.in_ok-add.ensures.ok
