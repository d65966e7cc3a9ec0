use Rattle.std.proofs.Common.{ap, sym}
use Rattle.type_rules.specs.Names.{same_name}
use Rattle.program_names.specs.Called.{con_is_called}
use Rattle.program_names.proofs.FirstNames.{found_next}
use Rattle.program_names.proofs.tables.con_table.Goals as goal

pub loop-n-preserved : goal.loop-n-preserved
loop-n-preserved c =
    found_next con_is_called c.args.cons.now c.loop-n.n c.get-con.result.now c.as_slice.result.now c.loop-n.table c.add.new.self c.loop-n.invariant
    c.get-con.ensures (λ x. ap (λ z. same_name z x) (sym c.as_slice.ensures.items)) c.in_ok-add.ensures.ok
