use Rattle.std.specs.Prelude.{false}
use Rattle.crdt_defs.specs.Histories.{before}
use Rattle.event_machine.specs.OldCalls.{old, old_part}
use Rattle.event_machine.proofs.ViewLemmas.{closed-snapshot, snapshot-closed}
use Rattle.event_machine.proofs.SnapshotLemmas.{nothing-closed, old-closed, mark-closed, part-closed, step-keeps}
use Rattle.event_machine.proofs.QuietLemmas.{snapshot-back}
use Rattle.event_machine.proofs.histories.snapshots.Goals as goal

pub returns-clause-nothing : goal.returns-clause-nothing
returns-clause-nothing c = λ s. snapshot-closed s.calls s.txs (λ c. false) (nothing-closed s)

pub returns-clause-all : goal.returns-clause-all
returns-clause-all c = λ p s valid. snapshot-closed s.calls s.txs (old s) (old-closed s valid.formed.history)

pub returns-clause-before_marker : goal.returns-clause-before_marker
returns-clause-before_marker c = λ p s m mark valid at is.
    snapshot-closed s.calls s.txs (λ c. before s.calls c m) (mark-closed s m mark valid.formed.history at is)

pub returns-clause-old_parts : goal.returns-clause-old_parts
returns-clause-old_parts c = λ p s new label seen valid l snapshot.
    snapshot-closed s.calls s.txs (old_part s seen) (part-closed s new.calls new.txs seen valid.formed.history
    (step-keeps p s label new valid.formed.history l) (closed-snapshot new.calls new.txs seen snapshot))

pub returns-clause-earlier : goal.returns-clause-earlier
returns-clause-earlier c = λ p s new label seen valid other l snapshot.
    snapshot-closed s.calls s.txs seen (snapshot-back p s label new seen valid other l (closed-snapshot new.calls new.txs seen snapshot))
