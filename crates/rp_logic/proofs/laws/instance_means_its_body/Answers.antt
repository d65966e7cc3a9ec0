use Rattle.std.proofs.Common.{[]}
use Rattle.rp_logic.proofs.InstanceLaws.{instance_law}
use Rattle.rp_logic.proofs.laws.instance_means_its_body.Goals as goal

pub returns : goal.returns
returns c = λ t f closed M vars. instance_law f M [] vars t closed
