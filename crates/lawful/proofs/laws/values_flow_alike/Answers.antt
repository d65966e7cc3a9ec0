use Rattle.lawful.proofs.ProcFlows.{flows_through}
use Rattle.lawful.proofs.laws.values_flow_alike.Goals as goal

pub returns : goal.returns
returns c = flows_through
