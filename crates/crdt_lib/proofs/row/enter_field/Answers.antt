use Rattle.std.proofs.Common.{arith}
use Rattle.crdt_defs.specs.Snapshots.{bit}
use Rattle.crdt_defs.specs.Doing as spec
use Rattle.crdt_lib.proofs.BitLemmas.{row_is_among}
use Rattle.crdt_lib.proofs.row.enter_field.Goals as goal

pub returns : goal.returns
returns c = row_is_among c.args.h.now _ (bit c.args.counted.now) (spec.goes_to_field c.args.ops.now c.args.depth c.args.n) (omega arith) (λ k lt. c.loop-c.invariant k (omega arith))
