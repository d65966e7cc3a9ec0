use Rattle.lawful.proofs.Results.{results_returned}
use Rattle.lawful.proofs.laws.results_are_returned.Goals as goal

pub returns : goal.returns
returns c = results_returned
