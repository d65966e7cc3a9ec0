-- A tree is accepted exactly where it is counted.
use Rattle.std.proofs.Common.{◌≡◌, ◌↔◌, ℕ, Bool, true, false, ◌==◌, if◌then◌else◌, List, [], ◌∷◌, Option, Some, None, refl, sym, ◌∙◌, eqb-true, eq-eqb}
use Rattle.std.proofs.lemmas.Option.{none-some}
use Rattle.rp_logic.specs.Signatures.{Signature}
use Rattle.refute_defs.specs.Verdicts.{Accepted, Bad}
use Rattle.spent_defs.specs.Tours.{Tour}
use Rattle.spent_defs.specs.Counted.{broken, lapse, currents, count, leaf_verdict, bad_or, IsCounted}

never : {P : Type 0} (n r : ℕ) → Bad n r ≡ Accepted → P
never n r e = absurd cc

no_leaf : {P : Type 0} (x : ℕ) → [] ≡ x ∷ [] → P
no_leaf x e = absurd cc

two_leaves : {P : Type 0} (x y z : ℕ) (zs : List ℕ) → y ∷ z ∷ zs ≡ x ∷ [] → P
two_leaves x y z zs e = absurd cc

clash : {P : Type 0} → true ≡ false → P
clash e = absurd cc

at_leaf : (leaf n budget : ℕ) (b : Bool) → (n == budget) ≡ b
    → ((if b then Accepted else Bad leaf 0) ≡ Accepted) ↔ (n ≡ budget)
at_leaf leaf n budget true e = ((λ h. eqb-true n budget e), λ h. refl)
at_leaf leaf n budget false e =
    ((λ h. never leaf 0 h), λ h. clash (sym (eq-eqb n budget h) ∙ e))

leaf_exact : (nodes budget : ℕ) (leaves : List ℕ) (n : ℕ)
    → (leaf_verdict nodes budget leaves n ≡ Accepted)
    ↔ (((leaf : ℕ) × (leaves ≡ leaf ∷ [])) × (n ≡ budget))
leaf_exact nodes budget [] n = ((λ h. never nodes 0 h), λ h. no_leaf h.0.0 h.0.1)
leaf_exact nodes budget (leaf ∷ []) n =
    let e = at_leaf leaf n budget (n == budget) refl in
    ((λ h. ((leaf, refl), e.0 h)), λ h. e.1 h.1)
leaf_exact nodes budget (leaf ∷ second ∷ more) n =
    ((λ h. never second 0 h), λ h. two_leaves h.0.0 leaf second more h.0.1)

pub counted_exact : (S : Signature) (nodes budget depth : ℕ) (t : Tour) (o p : Option (ℕ × ℕ))
    → broken t ≡ o → lapse S depth t ≡ p
    → (bad_or o (bad_or p (leaf_verdict nodes budget (currents t) (count t))) ≡ Accepted)
    ↔ IsCounted S budget depth t
counted_exact S nodes budget depth t (Some x) p e k =
    ((λ h. never x.0 x.1 h), λ h. absurd (none-some x (sym h.met ∙ e)))
counted_exact S nodes budget depth t None (Some x) e k =
    ((λ h. never x.0 x.1 h), λ h. absurd (none-some x (sym h.kept ∙ k)))
counted_exact S nodes budget depth t None None e k =
    let l = leaf_exact nodes budget (currents t) (count t) in (
      (λ h. let r = l.0 h in record { met = e; kept = k; leaf = r.0; number = r.1 }),
      λ h. l.1 (h.leaf, h.number),
    )
