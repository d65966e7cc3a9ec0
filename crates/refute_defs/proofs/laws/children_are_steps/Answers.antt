use Rattle.refute_defs.proofs.SignatureFacts.{one_of_each}
use Rattle.refute_defs.proofs.Meets.{meets}
use Rattle.refute_defs.proofs.Gives.{gives}
use Rattle.refute_defs.proofs.laws.children_are_steps.Goals as goal

pub returns : goal.returns
returns c = λ S keeps b u adds. ((λ e. meets S (one_of_each S keeps) b u adds e), λ step. gives S (one_of_each S keeps) b u adds step)
