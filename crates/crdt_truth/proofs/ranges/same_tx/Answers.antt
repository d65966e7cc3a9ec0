use Rattle.std.proofs.Common.{sym, ◌∙◌, arith, nat_eq}
use Rattle.std.proofs.lemmas.Bool.{le-ltb}
use Rattle.crdt_defs.specs.Calls.{calls_view}
use Rattle.crdt_defs.specs.Histories.{call_is}
use Rattle.crdt_truth.proofs.RangeLemmas.{no_call}
use Rattle.crdt_truth.proofs.ranges.same_tx.Goals as goal

pub returns-else-c-len : goal.returns-else-c-len
returns-else-c-len c = le-ltb c.args.c c.len.result (omega arith) ∙ sym (no_call (calls_view c.args.r.now.history.now) (λ a. call_is (calls_view c.args.r.now.history.now) (λ b. nat_eq a.tx b.tx) c.args.d) c.args.c (omega arith))
