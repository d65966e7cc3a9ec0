use Rattle.std.proofs.Common.{sym, ◌∙◌, ap, not}
use Rattle.std.proofs.lemmas.Bool.{and_right}
use Rattle.crdt_defs.specs.Snapshots.{bit}
use Rattle.event_machine.specs.Machine as spec
use Rattle.machine_tests.proofs.RowLemmas.{and_this}
use Rattle.machine_tests.proofs.closed.is_unseen.Goals as goal

pub returns-then-needed-tx : goal.returns-then-needed-tx
returns-then-needed-tx c = ap not c.is_in.ensures ∙ and_this (not (spec.is_in c.args.sees.now c.args.tx)) (bit c.args.needed.now c.args.tx) c.if-needed-tx.true

pub returns-else-needed-tx : goal.returns-else-needed-tx
returns-else-needed-tx c = sym (and_right (not (spec.is_in c.args.sees.now c.args.tx)) (bit c.args.needed.now c.args.tx) c.if-needed-tx.false)
