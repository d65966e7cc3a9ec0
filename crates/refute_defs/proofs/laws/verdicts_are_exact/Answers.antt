use Rattle.std.proofs.Common.{[], ◌∷◌}
use Rattle.refute_defs.specs.Branches.{root}
use Rattle.refute_defs.proofs.SignatureFacts.{one_of_each}
use Rattle.refute_defs.proofs.VerdictLaws.{closed_exact, bad_exact}
use Rattle.refute_defs.proofs.laws.verdicts_are_exact.Goals as goal

pub returns : goal.returns
returns c = record {
  accepted = λ S keeps given nodes. closed_exact S (one_of_each S keeps) nodes 0 (root given ∷ []);
  bad = λ S keeps given nodes k q. bad_exact S (one_of_each S keeps) nodes 0 (root given ∷ []) k q;
}
