use Rattle.std.proofs.Common.{sym, ◌∙◌, arith, nat_eq}
use Rattle.std.proofs.lemmas.Bool.{le-ltb}
use Rattle.std.specs.List.{list_any}
use Rattle.crdt_defs.specs.Calls.{calls_view}
use Rattle.crdt_truth.proofs.RangeLemmas.{no_call}
use Rattle.crdt_truth.proofs.ranges.call_before.Goals as goal

pub returns-else-d-len : goal.returns-else-d-len
returns-else-d-len c = le-ltb c.args.d c.len.result (omega arith) ∙ sym (no_call (calls_view c.args.r.now.history.now) (λ call. list_any (λ b. nat_eq b c.args.c) call.past) c.args.d (omega arith))
