use Rattle.std.proofs.Common.{◌≡◌, ◌≤◌, length, arith}
use Rattle.crdt_defs.specs.Calls.{calls_view}
use Rattle.crdt_lib.proofs.HistoryLemmas.{seen_length}
use Rattle.machine_tests.proofs.stamps.stamp_read.Goals as goal

pub bounds-row-c : goal.bounds-row-c
bounds-row-c c =
    let few : length (calls_view c.args.h.now) ≤ 16384 = c.len-calls.ensures.history.few in
    let same : length (calls_view c.args.h.now) ≡ length c.args.h.now = seen_length c.args.h.now in
    omega arith
