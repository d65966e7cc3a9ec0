use Rattle.std.proofs.Common.{◌≡◌, ◌++◌, drop}
use Rattle.rp_print.specs.Printed.{followed, stmts_terminals, block_arms_terminals}
use Rattle.rp_ast.specs.View.{stmts_view, block_arms_view}
use Rattle.rp_print.proofs.stmt.+put_stmts.Given as goal

-- what is still to come completes the whole

abbrev pub invariant-put_stmts-loop-s : goal.invariant-put_stmts-loop-s
invariant-put_stmts-loop-s l = l.out.items ++ followed (stmts_terminals (stmts_view (drop l.s-index l.stmts))) ≡ l.initial.out.items ++ followed (stmts_terminals (stmts_view l.stmts))

abbrev pub invariant-put_block_arms-loop-a : goal.invariant-put_block_arms-loop-a
invariant-put_block_arms-loop-a l = l.out.items ++ followed (block_arms_terminals (block_arms_view (drop l.a-index l.arms))) ≡ l.initial.out.items ++ followed (block_arms_terminals (block_arms_view l.arms))
