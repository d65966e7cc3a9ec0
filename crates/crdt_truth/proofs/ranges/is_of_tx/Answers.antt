use Rattle.std.proofs.Common.{sym, ◌∙◌, arith, nat_eq}
use Rattle.std.proofs.lemmas.Bool.{le-ltb}
use Rattle.crdt_defs.specs.Calls.{calls_view}
use Rattle.crdt_truth.proofs.RangeLemmas.{no_call}
use Rattle.crdt_truth.proofs.ranges.is_of_tx.Goals as goal

pub returns-else-d-len : goal.returns-else-d-len
returns-else-d-len c = le-ltb c.args.d c.len.result (omega arith) ∙ sym (no_call (calls_view c.args.r.now.history.now) (λ b. nat_eq c.args.tx b.tx) c.args.d (omega arith))
