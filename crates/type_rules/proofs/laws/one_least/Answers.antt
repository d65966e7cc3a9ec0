use Rattle.type_rules.proofs.Least.{one_fault}
use Rattle.type_rules.proofs.laws.one_least.Goals as goal

pub returns : goal.returns
returns c = one_fault
