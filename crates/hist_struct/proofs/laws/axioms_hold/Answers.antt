use Rattle.std.specs.Prelude.{length}
use Rattle.hist_struct.specs.Steps.{begins}
use Rattle.hist_struct.specs.Structure.{sig_at, meaning_of}
use Rattle.hist_struct.proofs.Together.{met, all-true}
use Rattle.hist_struct.proofs.laws.axioms_hold.Goals as goal

pub returns : goal.returns
returns c = record {
  met = met;
  true_there = λ x consts w m. all-true x.program (begins x) (length x.reads) (meaning_of (sig_at x consts) x) (met x consts w m);
}
