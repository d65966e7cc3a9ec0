use Rattle.query_laws.proofs.Accessed.{access_says, nothing_says}
use Rattle.query_laws.proofs.forms.accesses_are_said.Goals as goal

pub returns : goal.returns
returns c = record {
  call = access_says;
  nothing = nothing_says;
}
