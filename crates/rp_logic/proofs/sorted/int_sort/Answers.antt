use Rattle.std.proofs.Common.{arith}
use Rattle.rp_logic.specs.Signatures.{is_int}
use Rattle.rp_logic.proofs.SortLaws.{first_here, not_here}
use Rattle.rp_logic.proofs.sorted.int_sort.Goals as goal

pub returns-then-is_int_sort : goal.returns-then-is_int_sort
returns-then-is_int_sort c = first_here is_int c.args.sig.now.sorts c.loop-s.s c.loop-s.invariant c.if-is_int_sort.ensures (omega arith)

pub loop-s-preserved : goal.loop-s-preserved
loop-s-preserved c = not_here is_int c.args.sig.now.sorts c.loop-s.s c.loop-s.invariant c.if-is_int_sort.ensures (omega arith)
