-- What the verdict of a tree says of the tree and of its given formulas.
use Rattle.std.proofs.Common.{◌∷◌, [], List, Result, Ok, Err, OnOk}
use Rattle.rp_logic.specs.Formulas.{Fm}
use Rattle.rp_logic.specs.Signatures.{Signature}
use Rattle.rp_logic.specs.Structures.{own_consts}
use Rattle.rp_logic.specs.Truth.{IsRefuted}
use Rattle.refute_defs.specs.Uses.{Nd}
use Rattle.refute_defs.specs.Branches.{root}
use Rattle.refute_defs.specs.Closed.{IsClosedTree, IsFirstBad, AreWellSorted, IsSignature}
use Rattle.refute_defs.specs.Verdicts.{verdict}
use Rattle.refute_defs.proofs.SignatureFacts.{one_of_each}
use Rattle.refute_defs.proofs.VerdictLaws.{closed_exact, bad_exact}
use Rattle.refute_defs.proofs.Sound.{refutes}
use Rattle.refute_check.specs.declared.error.CheckErr.{CheckErr}
use Rattle.refute_check.specs.declared.error.CheckErr.TheVariants as err
use Rattle.refute_check.specs.Answers.{IsVerdict, IfBad}

module _ (S : Signature) (keeps : IsSignature S) (given : List Fm) (nodes : List Nd) where
  pub closed : (r : Result (Unit {0}) CheckErr) → IsVerdict r (verdict S given nodes)
      → OnOk r (IsClosedTree S given nodes)
  closed (Ok u) e = (closed_exact S (one_of_each S keeps) nodes 0 (root given ∷ [])).0 e
  closed (Err x) e = tt

  pub first_bad : (r : Result (Unit {0}) CheckErr) → IsVerdict r (verdict S given nodes)
      → IfBad r (λ node rule. IsFirstBad S given nodes node rule)
  first_bad (Ok u) e = tt
  first_bad (Err (err.Bad node rule)) e =
      (bad_exact S (one_of_each S keeps) nodes 0 (root given ∷ []) node rule).0 e
  first_bad (Err err.Memory) e = tt

  pub refuted : AreWellSorted S given → (r : Result (Unit {0}) CheckErr)
      → IsVerdict r (verdict S given nodes) → OnOk r (IsRefuted S given)
  refuted sorted (Ok u) e =
      let c = (closed_exact S (one_of_each S keeps) nodes 0 (root given ∷ [])).0 e in
      λ M fits t. refutes S given nodes keeps sorted c M (own_consts M) fits t
  refuted sorted (Err x) e = tt
