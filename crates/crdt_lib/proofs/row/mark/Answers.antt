use Rattle.std.proofs.Common.{◌<◌, length, arith}
use Rattle.std.specs.FinSet as set
use Rattle.crdt_defs.specs.Doing as spec
use Rattle.crdt_lib.proofs.BitLemmas.{row_is_among, row_more}
use Rattle.crdt_lib.proofs.row.mark.Goals as goal

pub returns : goal.returns
returns g c = row_is_among c.args.h.now _ (set.contains (g.V.View.calls c.args.view.now)) (spec.on_root c.args.ops.now c.args.root) (omega arith) (λ k lt. c.loop-c.invariant k (omega arith))

pub loop-c-preserved : goal.loop-c-preserved
loop-c-preserved g c =
    let within : c.loop-c.c < length c.loop-c.row = omega arith in
    row_more c.loop-c.row c.loop-c.c _ _ within c.loop-c.invariant c.is_seen.ensures
