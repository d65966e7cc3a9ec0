-- The axioms of begins, one begin at a time.
use Rattle.std.proofs.Common.{◌≡◌, ◌≢◌, ◌<◌, ℕ, zero, suc, ◌-◌, List, ◌∷◌, ◌++◌, ap, sym, ◌∙◌, refl, arith}
use Rattle.std.proofs.lemmas.List.{append-nil}
use Rattle.rp_lang.specs.Programs.{Prog}
use Rattle.rp_logic.specs.Formulas.{Fm}
use Rattle.hist_struct.specs.Axioms.{of_view, of_views, of_chain, part_of}
use Rattle.rp_symbols.specs.Numbers.{seen_rel}
use Rattle.axiom_forms.specs.Together.{link}
use Rattle.axiom_forms.proofs.Chains.{behind}

pub views_none : (p : Prog) (n : ℕ) (old : List Fm) → n ≡ 0 → old ≡ old ++ of_views p n
views_none p zero old h = sym (append-nil old)
views_none p (suc n) old h = absurd (omega arith)

pub views_some : (p : Prog) (n : ℕ) (old mid new : List Fm) → n ≢ 0 → mid ≡ old ++ of_view p (n - 1) → new ≡ mid ++ of_views p (n - 1) → new ≡ old ++ of_views p n
views_some p zero old mid new h k l = absurd (h refl)
views_some p (suc n) old mid new h k l =
    behind old mid new (of_view p (suc n - 1)) (of_views p (suc n - 1)) k l
    ∙ ap (λ m. old ++ (of_view p m ++ of_views p m)) (let e : suc n - 1 ≡ n = omega arith in e)

pub chain_none : (p : Prog) (n : ℕ) (old : List Fm) → n < 2 → old ≡ old ++ of_chain p n
chain_none p zero old h = sym (append-nil old)
chain_none p (suc zero) old h = sym (append-nil old)
chain_none p (suc (suc n)) old h = absurd (omega arith)

pub chain_some : (p : Prog) (n : ℕ) (old mid new : List Fm) → ¬ (n < 2) → mid ≡ old ++ link p (n - 1) → new ≡ mid ++ of_chain p (n - 1) → new ≡ old ++ of_chain p n
chain_some p zero old mid new h k l = absurd (h (omega arith))
chain_some p (suc zero) old mid new h k l = absurd (h (omega arith))
chain_some p (suc (suc n)) old mid new h k l =
    behind old mid new (link p (suc (suc n) - 1)) (of_chain p (suc (suc n) - 1)) k l
    ∙ (ap (λ m. old ++ (link p m ++ of_chain p m)) (let e : suc (suc n) - 1 ≡ suc n = omega arith in e)
    ∙ ap (λ m. old ++ part_of (seen_rel p m) (seen_rel p (suc n)) ∷ of_chain p (suc n)) (let e : suc n - 1 ≡ n = omega arith in e))
