use Rattle.hist_struct.proofs.AtomLaws.{snapshots}
use Rattle.hist_struct.proofs.StepPrograms.{program-is}
use Rattle.hist_struct.proofs.StageLaws.{stages}
use Rattle.hist_struct.proofs.ViewLaws.{views-fit}
use Rattle.hist_struct.proofs.PartLaws.{before-fits, after-fits}
use Rattle.hist_struct.proofs.laws.structures_fit.Goals as goal

pub returns : goal.returns
returns c = record { before = before-fits; after = after-fits; views = views-fit; stages = stages; snapshots = λ x w m. snapshots x (program-is x.program w) m }
