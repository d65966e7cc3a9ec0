use Rattle.std.proofs.Common.{◌*◌, ◌∙◌}
use Rattle.std.specs.FinSet as set
use Rattle.crdt_defs.specs.Calls.{calls_view}
use Rattle.crdt_lib.proofs.BlockLemmas.{none_marked, missed_calls}
use Rattle.crdt_lib.proofs.snapshot.splits_in.Goals as goal

pub mark_seen-requires-clause-none : goal.mark_seen-requires-clause-none
mark_seen-requires-clause-none g c = none_marked 16384

pub returns : goal.returns
returns g c =
    c.misses_one.ensures
    ∙ missed_calls (calls_view c.args.h.now) (set.contains (g.V.View.calls c.args.view.now)) _ (c.args.block * 16384) c.mark_seen.ensures.block c.mark_seen.ensures.seen
