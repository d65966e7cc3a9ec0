-- Clauses as the code makes them, and how many `all`s stand in front of a formula.
use Rattle.std.proofs.Common.{◌≡◌, ◌<◌, ℕ, suc, List, map, ap, sym, ◌∙◌, arith}
use Rattle.rp_logic.specs.declared.formula.Fml.{Fml}
use Rattle.rp_logic.specs.declared.formula.Fml.TheVariants as formula
use Rattle.rp_logic.specs.Formulas.{Fm, And, Or, All, Ex, Lit}
use Rattle.rp_logic.specs.Dual.{dual}
use Rattle.rp_logic.specs.Filling.{filled_in, filled_ins, behind}
use Rattle.rp_logic.specs.Views.{formula_view, formulas_view}
use Rattle.rp_logic.proofs.FormulaViews.{formula_view-And, formula_view-Or, formula_view-All}
use Rattle.reshaped.specs.Clauses.{beside, either, clause}
use Rattle.reshaped.specs.Shapes.{shaped}
use Rattle.reshaped.proofs.WalkViews.{made_shapes, made_denials}

abbrev pub alls_of : Fm → ℕ
alls_of (All s f) = suc (alls_of f)
alls_of (And fs) = 0
alls_of (Or fs) = 0
alls_of (Ex s f) = 0
alls_of (Lit sign atom) = 0

pub fewer_alls : (f body b : Fml) (s : ℕ) → f ≡ formula.All s body → b ≡ body → alls_of (formula_view b) < alls_of (formula_view f)
fewer_alls f body b s is e =
    let n : alls_of (formula_view b) ≡ alls_of (formula_view body) = ap (λ g. alls_of (formula_view g)) e in
    let m : alls_of (formula_view f) ≡ suc (alls_of (formula_view body)) = ap alls_of (ap formula_view is ∙ formula_view-All s body) in
    omega (arith, n, m)

pub beside-All : (fs outer xs : List Fml) (g body b made : Fml) (s : ℕ) → g ≡ formula.All s body → b ≡ body → formulas_view outer ≡ filled_ins behind (formulas_view fs) → xs ≡ outer
    → formula_view made ≡ beside (formulas_view xs) (formula_view b) → formula_view (formula.All s made) ≡ beside (formulas_view fs) (formula_view g)
beside-All fs outer xs g body b made s is e k x h =
    formula_view-All s made
    ∙ (ap (All s) (h ∙ (ap (λ ys. beside ys (formula_view b)) (ap formulas_view x ∙ k) ∙ ap (λ c. beside (filled_ins behind (formulas_view fs)) (formula_view c)) e))
    ∙ ap (beside (formulas_view fs)) (sym (ap formula_view is ∙ formula_view-All s body)))

pub either-All : (f g body b outer x made : Fml) (s : ℕ) → f ≡ formula.All s body → b ≡ body → formula_view outer ≡ filled_in behind (formula_view g) → x ≡ outer
    → formula_view made ≡ either (formula_view b) (formula_view x) → formula_view (formula.All s made) ≡ either (formula_view f) (formula_view g)
either-All f g body b outer x made s is e k y h =
    formula_view-All s made
    ∙ (ap (All s) (h ∙ (ap (either (formula_view b)) (ap formula_view y ∙ k) ∙ ap (λ c. either (formula_view c) (filled_in behind (formula_view g))) e))
    ∙ ap (λ c. either c (formula_view g)) (sym (ap formula_view is ∙ formula_view-All s body)))

pub shaped-And : (f : Fml) (fs xs made : List Fml) → f ≡ formula.And fs → xs ≡ fs → map formula_view made ≡ map (λ f. dual (shaped (formula_view f))) xs
    → dual (clause (formulas_view made)) ≡ shaped (formula_view f)
shaped-And f fs xs made is e h = ap (λ gs. dual (clause gs)) (made_denials fs xs made e h) ∙ ap shaped (sym (ap formula_view is ∙ formula_view-And fs))

pub shaped-Or : (f : Fml) (fs xs made : List Fml) → f ≡ formula.Or fs → xs ≡ fs → map formula_view made ≡ map (λ f. shaped (formula_view f)) xs
    → clause (formulas_view made) ≡ shaped (formula_view f)
shaped-Or f fs xs made is e h = ap clause (made_shapes fs xs made e h) ∙ ap shaped (sym (ap formula_view is ∙ formula_view-Or fs))
