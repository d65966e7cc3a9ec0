use Rattle.rp_logic.specs.Structures.{own_consts}
use Rattle.refute_defs.proofs.Sound as sound
use Rattle.refute_defs.proofs.laws.no_structure.Goals as goal

pub returns : goal.returns
returns c = record {
  refuted = λ S given nodes keeps sorted closed M fits t. sound.refutes S given nodes keeps sorted closed M (own_consts M) fits t;
  meanings = λ S given nodes keeps sorted closed M k fits t. sound.refutes S given nodes keeps sorted closed M k fits t;
}
