use Rattle.lawful_programs.proofs.Tables.{ops_there, queries_there, roots_there}
use Rattle.lawful_programs.proofs.laws.roots_are_there.Goals as goal

pub returns : goal.returns
returns c = record {
  roots = roots_there;
  operations = ops_there;
  queries = queries_there;
}
