use Rattle.event_machine.proofs.HistoryLaws.{has-one_marker, pasts-grow, pasts-own, own-are_seen, markers-are_seen, views-are_marked}
use Rattle.event_machine.proofs.histories.own_calls.Goals as goal

pub returns-clause-one_marker : goal.returns-clause-one_marker
returns-clause-one_marker c = has-one_marker

pub returns-clause-growing : goal.returns-clause-growing
returns-clause-growing c = pasts-grow

pub returns-clause-pasts : goal.returns-clause-pasts
returns-clause-pasts c = pasts-own

pub returns-clause-seen : goal.returns-clause-seen
returns-clause-seen c = own-are_seen

pub returns-clause-markers_seen : goal.returns-clause-markers_seen
returns-clause-markers_seen c = markers-are_seen

pub returns-clause-views : goal.returns-clause-views
returns-clause-views c = views-are_marked
