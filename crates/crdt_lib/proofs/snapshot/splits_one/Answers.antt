use Rattle.std.proofs.Common.{◌≡◌, ◌+◌, ◌*◌, ◌/◌, ◌%◌, ◌<◌, sym, arith, div-add-mod'}
use Rattle.crdt_lib.specs.means.Blocks.{blocks}
use Rattle.crdt_defs.proofs.BelowLemmas.{any_found}
use Rattle.crdt_lib.proofs.snapshot.splits_one.Goals as goal

pub splits_in-requires : goal.splits_in-requires
splits_in-requires g c =
    let at : c.args.bound / 16384 * 16384 + c.args.bound % 16384 ≡ c.args.bound = div-add-mod' c.args.bound 16384 in
    omega arith

pub returns-then-splits_in : goal.returns-then-splits_in
returns-then-splits_in g c =
    let below : c.loop-block.block < blocks c.args.bound = omega arith in
    sym (any_found _ _ _ below (sym c.if-splits_in.ensures))
