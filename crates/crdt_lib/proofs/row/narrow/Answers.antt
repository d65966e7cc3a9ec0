use Rattle.std.proofs.Common.{◌&&◌, not, ◌∙◌, ap}
use Rattle.rp_value.specs.ValueView.{value_view}
use Rattle.crdt_defs.specs.Calls.{calls_view}
use Rattle.crdt_defs.specs.Histories.{some_call}
use Rattle.crdt_defs.specs.Snapshots.{bit}
use Rattle.crdt_defs.specs.Doing as spec
use Rattle.crdt_defs.specs.Meaning.{among, loses}
use Rattle.crdt_lib.proofs.row.narrow.Goals as goal

pub returns : goal.returns
returns c =
    let h = calls_view c.args.h.now in
    c.hide.ensures
    ∙ ap (λ set. λ k. set k && not (some_call h (λ d. among h (bit c.args.counted.now) (spec.deletes c.args.ops.now c.args.depth (value_view c.args.k.now)) d && loses h c.args.winner k d))) c.enter_key.ensures
