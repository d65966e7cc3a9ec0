use Rattle.std.proofs.Common.{sym, ◌∙◌, arith}
use Rattle.std.proofs.lemmas.Bool.{le-ltb}
use Rattle.crdt_defs.specs.Calls.{calls_view}
use Rattle.crdt_defs.specs.Snapshots.{bit}
use Rattle.crdt_truth.proofs.RangeLemmas.{no_call}
use Rattle.crdt_truth.proofs.ranges.is_done.Goals as goal

pub returns-else-c-len : goal.returns-else-c-len
returns-else-c-len c = le-ltb c.args.c c.len.result (omega arith) ∙ sym (no_call (calls_view c.args.r.now.history.now) (λ call. bit c.args.r.now.committed.now call.tx) c.args.c (omega arith))
