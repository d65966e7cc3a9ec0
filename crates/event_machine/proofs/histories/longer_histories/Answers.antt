use Rattle.crdt_defs.proofs.QueryLonger.{query-same}
use Rattle.event_machine.proofs.HistoryLaws.{truth-beside}
use Rattle.event_machine.proofs.histories.longer_histories.Goals as goal

pub returns-clause-answers : goal.returns-clause-answers
returns-clause-answers c = λ p query h longer_h visible args longer within. query-same h longer_h longer p query visible within args

pub returns-clause-truths : goal.returns-clause-truths
returns-clause-truths c = truth-beside
