use Rattle.std.proofs.Common.{arith}
use Rattle.rp_logic.specs.Signatures.{is_str}
use Rattle.rp_logic.proofs.SortLaws.{first_here, not_here}
use Rattle.rp_logic.proofs.sorted.str_sort.Goals as goal

pub returns-then-is_str_sort : goal.returns-then-is_str_sort
returns-then-is_str_sort c = first_here is_str c.args.sig.now.sorts c.loop-s.s c.loop-s.invariant c.if-is_str_sort.ensures (omega arith)

pub loop-s-preserved : goal.loop-s-preserved
loop-s-preserved c = not_here is_str c.args.sig.now.sorts c.loop-s.s c.loop-s.invariant c.if-is_str_sort.ensures (omega arith)
