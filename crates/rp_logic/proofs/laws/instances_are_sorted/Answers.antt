use Rattle.std.proofs.Common.{[]}
use Rattle.rp_logic.proofs.SortedInstances.{instance_sorted}
use Rattle.rp_logic.proofs.laws.instances_are_sorted.Goals as goal

pub returns : goal.returns
returns c = λ S added scope sort t body g h. instance_sorted body S added [] scope sort t g h
