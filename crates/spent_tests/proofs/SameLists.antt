-- Lists of different lengths aren't the same.
use Rattle.std.proofs.Common.{◌≡◌, ◌≢◌, ℕ, suc, List, [], ◌∷◌, length, Bool, true, false, ◌&&◌, refl, ap}
use Rattle.rp_logic.specs.declared.formula.Fml.{Fml}
use Rattle.rp_logic.specs.declared.term.Term.{Term}
use Rattle.rp_logic.specs.Terms.{Tm}
use Rattle.rp_logic.specs.Views.{formula_view, formulas_view, term_view, terms_view}
use Rattle.spent_defs.specs.SameFormulas.{same_fm, same_fms}
use Rattle.spent_defs.specs.Matching.{Likeness, fits, all_fit}

not_both : (a b : Bool) → false ≡ b → false ≡ a && b
not_both true b e = e
not_both false b e = refl

pub formulas_differ : (fs gs : List Fml) → length fs ≢ length gs
    → false ≡ same_fms (formulas_view fs) (formulas_view gs)
formulas_differ [] [] h = absurd (h refl)
formulas_differ [] (g ∷ gs) h = refl
formulas_differ (f ∷ fs) [] h = refl
formulas_differ (f ∷ fs) (g ∷ gs) h =
    not_both (same_fm (formula_view f) (formula_view g)) (same_fms (formulas_view fs) (formulas_view gs))
    (formulas_differ fs gs (λ e. h (ap suc e)))

pub terms_differ : (like : Likeness) (t : Tm) (k : ℕ) (ss us : List Term) → length ss ≢ length us
    → false ≡ all_fit like t k (terms_view ss) (terms_view us)
terms_differ like t k [] [] h = absurd (h refl)
terms_differ like t k [] (u ∷ us) h = refl
terms_differ like t k (s ∷ ss) [] h = refl
terms_differ like t k (s ∷ ss) (u ∷ us) h =
    not_both (fits like t k (term_view s) (term_view u)) (all_fit like t k (terms_view ss) (terms_view us))
    (terms_differ like t k ss us (λ e. h (ap suc e)))
