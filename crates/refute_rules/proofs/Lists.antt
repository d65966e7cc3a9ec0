-- Lists of terms, atoms and formulas, seen element by element.
use Rattle.std.proofs.Common.{◌≡◌, ◌≤◌, ℕ, zero, suc, length, arith, List, [], ◌∷◌, slice_get, Some, None, option_map, refl, ap}
use Rattle.rp_logic.specs.declared.term.Term.{Term}
use Rattle.rp_logic.specs.declared.formula.Fml.{Fml}
use Rattle.rp_logic.specs.Views.{term_view, formula_view, formulas_view, terms_view}
use Rattle.refute_defs.specs.Parts.{nth_tm, nth_fm}

pub formula_found : (fs : List Fml) (n : ℕ) (f : Fml) → slice_get fs n ≡ Some f
    → nth_fm (formulas_view fs) n ≡ Some (formula_view f)
formula_found [] n f e = absurd cc
formula_found (g ∷ fs) zero f e = ap (option_map formula_view) e
formula_found (g ∷ fs) (suc n) f e = formula_found fs n f e

pub formula_missing : (fs : List Fml) (n : ℕ) → length fs ≤ n → nth_fm (formulas_view fs) n ≡ None
formula_missing [] n h = refl
formula_missing (g ∷ fs) zero h = absurd (omega (arith, h))
formula_missing (g ∷ fs) (suc n) h = formula_missing fs n (omega arith)

pub term_found : (ts : List Term) (n : ℕ) (t : Term) → slice_get ts n ≡ Some t
    → nth_tm (terms_view ts) n ≡ Some (term_view t)
term_found [] n t e = absurd cc
term_found (u ∷ ts) zero t e = ap (option_map term_view) e
term_found (u ∷ ts) (suc n) t e = term_found ts n t e

pub term_missing : (ts : List Term) (n : ℕ) → length ts ≤ n → nth_tm (terms_view ts) n ≡ None
term_missing [] n h = refl
term_missing (u ∷ ts) zero h = absurd (omega (arith, h))
term_missing (u ∷ ts) (suc n) h = term_missing ts n (omega arith)

pub ruleset nths = (formula_found, formula_missing, term_found, term_missing)
