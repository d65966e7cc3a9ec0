use Rattle.std.proofs.Common.{arith}
use Rattle.rp_logic.proofs.KeptLaws.{own_refused, own_so_far}
use Rattle.rp_logic.proofs.kept.list_their_own.Goals as goal

pub returns-then-not-are_own : goal.returns-then-not-are_own
returns-then-not-are_own c =
    own_refused c.args.cons.now c.args.sorts.now c.loop-s.s c.listed.result.now c.loop-s.invariant c.listed.ensures c.if-not-are_own.ensures (omega arith)

pub loop-s-preserved : goal.loop-s-preserved
loop-s-preserved c =
    own_so_far c.args.cons.now c.args.sorts.now c.loop-s.s c.listed.result.now c.loop-s.invariant c.listed.ensures c.if-not-are_own.ensures (omega arith)
