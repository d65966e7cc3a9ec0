use Rattle.std.proofs.Common.{refl}
use Rattle.rp_print.specs.Printed.{stmt_terminals, stmts_terminals, block_arm_terminals, block_arms_terminals}
use Rattle.rp_ast.specs.View.{stmt_view, stmts_view, block_arm_view, block_arms_view}
use Rattle.rp_print.proofs.Appends.{plain_item}
use Rattle.rp_print.proofs.stmt.+put_stmts.Goals as goal

pub put_stmts-loop-s-preserved : goal.put_stmts-loop-s-preserved
put_stmts-loop-s-preserved t c =
    plain_item (λ ss. stmts_terminals (stmts_view ss)) c.args.stmts.now c.loop-s.s-index c.s-item.result (stmt_terminals (stmt_view c.s-item.result)) refl c.loop-s-test.true c.s-item.is
    c.loop-s.out.items c.put_stmt.new.out.items _ c.loop-s.invariant c.in_ok-put_stmt.ensures

pub put_block_arms-loop-a-preserved : goal.put_block_arms-loop-a-preserved
put_block_arms-loop-a-preserved t c =
    plain_item (λ as_. block_arms_terminals (block_arms_view as_)) c.args.arms.now c.loop-a.a-index c.a-item.result (block_arm_terminals (block_arm_view c.a-item.result)) refl c.loop-a-test.true c.a-item.is
    c.loop-a.out.items c.put_block_arm.new.out.items _ c.loop-a.invariant c.in_ok-put_block_arm.ensures
