use Rattle.std.proofs.Common.{◌<◌, length, arith}
use Rattle.rp_value.specs.ValueView.{value_view}
use Rattle.crdt_defs.specs.Snapshots.{bit}
use Rattle.crdt_defs.specs.Doing as spec
use Rattle.crdt_lib.proofs.BitLemmas.{row_is_among, row_more}
use Rattle.crdt_lib.proofs.row.enter_key.Goals as goal

pub returns : goal.returns
returns c = row_is_among c.args.h.now _ (bit c.args.counted.now) (spec.goes_to_key c.args.ops.now c.args.depth (value_view c.args.k.now)) (omega arith) (λ k lt. c.loop-c.invariant k (omega arith))

pub loop-c-preserved : goal.loop-c-preserved
loop-c-preserved c =
    let within : c.loop-c.c < length c.loop-c.row = omega arith in
    row_more c.loop-c.row c.loop-c.c _ _ within c.loop-c.invariant c.is_at_key.ensures
