use Rattle.std.proofs.Common.{◌≡◌, ◌≤◌, ℕ, Bool, length, ap, arith}
use Rattle.crdt_defs.specs.Calls.{calls_view}
use Rattle.crdt_lib.proofs.HistoryLemmas.{seen_length}
use Rattle.machine_tests.proofs.closed.is_seen.Goals as goal

pub bounds-seen-d : goal.bounds-seen-d
bounds-seen-d c =
    let few : length (calls_view c.args.h.now) ≤ 16384 = c.len-calls.ensures.history.few in
    let same : length (calls_view c.args.h.now) ≡ length c.args.h.now = seen_length c.args.h.now in
    omega arith

pub returns : goal.returns
returns c = ap (λ (set : ℕ → Bool). set c.args.d) c.requires.seen
