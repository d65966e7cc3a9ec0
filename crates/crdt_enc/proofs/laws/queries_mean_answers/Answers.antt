use Rattle.crdt_enc.proofs.ClosedLaws.{query-law}
use Rattle.crdt_enc.proofs.laws.queries_mean_answers.Goals as goal

pub returns : goal.returns
returns c = λ r M at stage n query e get vars ts vs m f. query-law r M at stage n query e get vars ts vs m f
