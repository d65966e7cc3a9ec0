-- Constants that stand nowhere on a branch.
use Rattle.std.specs.Prelude.{ℕ, Bool, ◌&&◌, nat_le, length}
use Rattle.rp_logic.specs.Signatures.{Signature}
pub use Rattle.rp_logic.specs.Constants.{lacks, all_lack, atom_lacks, formula_lacks, formulas_lack, each_lacks}
use Rattle.refute_defs.specs.Branches.{Branch}

-- the constant's number is past those of the signature, and it stands nowhere on the branch
abbrev pub is_new : Signature → Branch → ℕ → Bool
is_new S b c = nat_le (length S.consts) c && each_lacks c b.formulas
