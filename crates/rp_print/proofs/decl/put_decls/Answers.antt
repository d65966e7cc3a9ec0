use Rattle.rp_print.proofs.Appends.{line_item}
use Rattle.rp_print.proofs.decl.put_decls.Goals as goal

pub loop-d-preserved : goal.loop-d-preserved
loop-d-preserved c =
    line_item c.args.decls.now c.loop-d.d-index c.d-item.result c.loop-d-test.true c.d-item.is
    c.loop-d.out.items c.put_decl.new.out.items _ c.loop-d.invariant c.in_ok-put_decl.ensures
