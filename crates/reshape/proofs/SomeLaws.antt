-- The steps for `some`, by duals.
use Rattle.std.proofs.Common.{◌≡◌, ℕ, List, ◌∷◌, Some, subst}
use Rattle.rp_logic.specs.declared.sort.NewConst.{NewConst}
use Rattle.rp_logic.specs.Formulas.{Fm, Fms, And, Or, All, Ex}
use Rattle.rp_logic.specs.Signatures.{Signature}
use Rattle.rp_logic.specs.Sorted.{AreSorted}
use Rattle.rp_logic.specs.Dual.{dual, duals}
use Rattle.rp_logic.specs.Filling.{MeansSame}
use Rattle.rp_logic.proofs.DualSorts.{duals-duals, duals-sorted}
use Rattle.rp_logic.proofs.Options.{mapped}
use Rattle.reshape.specs.Eliminating.{eliminated_some}
use Rattle.reshape.proofs.PassLaws.{same-dual, eliminated-is}

pub some-eliminated-is : (S : Signature) (added : List NewConst) (scope : List ℕ) (s : ℕ) (parts : Fms) (g : Fm) → AreSorted S added (s ∷ scope) parts → eliminated_some parts ≡ Some g
    → MeansSame S added scope g (Ex s (And parts))
some-eliminated-is S added scope s parts g h e =
    let k = mapped _ _ g e in
    let d = same-dual S added scope k.0 (All s (Or (duals parts))) (eliminated-is S added scope s (duals parts) k.0 (duals-sorted parts S added (s ∷ scope) h) k.1) in
    subst (λ g. MeansSame S added scope g (Ex s (And parts))) k.2 (subst (λ fs. MeansSame S added scope (dual k.0) (Ex s (And fs))) (duals-duals parts) d)
