use Rattle.refute_defs.proofs.SignatureFacts.{kept}
use Rattle.refute_defs.proofs.ConclusionLaws as law
use Rattle.refute_defs.proofs.laws.refutations_conclude.Goals as goal

pub returns : goal.returns
returns c = record {
  claim = λ S given claim refuted M fits t. law.follows S given claim refuted M fits t;
  disjunct = λ M vars parts decided h. law.some_disjunct M vars parts decided h;
  witness = λ M keeps vars s body plain decided h. law.witness M (kept M.sig keeps) vars s body plain decided h;
  literal = λ M vars sign atom. law.literal_decided M vars sign atom;
}
