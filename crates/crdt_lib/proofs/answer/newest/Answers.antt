use Rattle.std.proofs.Common.{◌≡◌, ◌∙◌, ap, slice_get, arith, length}
use Rattle.rp_lang.specs.declared.op.OpKind.TheVariants.{Assign}
use Rattle.crdt_defs.specs.Calls.{calls_view}
use Rattle.crdt_defs.specs.Snapshots.{bit}
use Rattle.crdt_defs.specs.Doing as spec
use Rattle.crdt_defs.specs.Meaning.{among, stamp_of}
use Rattle.crdt_defs.proofs.NewestLemmas.{newest_below, newest_is_latest}
use Rattle.crdt_lib.proofs.answer.newest.Goals as goal

pub returns : goal.returns
returns c =
    let h = calls_view c.args.h.now in
    let all : c.loop-c.c ≡ length (calls_view c.args.h.now) = omega (arith, c.len-c-end.ensures.seen) in
    c.loop-c.invariant.here
    ∙ ap (newest_below (among h (bit c.args.counted.now) (spec.is_of c.args.ops.now Assign)) (λ d. stamp_of (slice_get h d))) all
    ∙ newest_is_latest c.args.ops.now h (bit c.args.counted.now)
