-- Marks of the branch that a walk keeps.
use Rattle.std.proofs.Common.{◌≡◌, ◌≤◌, ℕ, List, [], ◌∷◌, ◌++◌, map, take, length, reverse, slice_get, Some, ap, sym, ◌∙◌, subst, arith}
use Rattle.std.proofs.lemmas.List.{map_push, length-map, take-map, take_all}
use Rattle.rp_logic.specs.declared.formula.Fml.{Fml}
use Rattle.rp_logic.specs.Views.{formula_view}
use Rattle.refute_defs.specs.Branches.{root}
use Rattle.refute_defs.specs.Views.{given_view}
use Rattle.refute_branch.specs.declared.branch.OpenBranch.{OpenBranch}
use Rattle.refute_branch.specs.declared.marks.Mark.{Mark}
use Rattle.refute_branch.specs.Views.{branch_view}
use Rattle.refute_branch.specs.Marks.{AreMarks}
use Rattle.refute_branch.specs.means.Marking.{dropped, with_formula}
use Rattle.refute_branch.proofs.Marking.{marks_added, marks_dropped}

last_one : (fs : List Fml) (f g : Fml) → slice_get (fs ++ f ∷ []) (length fs) ≡ Some g → f ≡ g
last_one [] f g e = cc
last_one (x ∷ fs) f g e = last_one fs f g e

-- a formula is added, and its constants are marked
pub formula_marked : (consts place : ℕ) (fs new : List Fml) (f g : Fml) (old marks : List Mark)
    → place ≡ length fs → new ≡ fs ++ f ∷ [] → slice_get new place ≡ Some g
    → reverse marks ≡ with_formula consts place (formula_view g) (reverse old)
    → AreMarks consts (reverse old) (map formula_view fs)
    → AreMarks consts (reverse marks) (map formula_view new)
formula_marked consts place fs new f g old marks at grown got are k =
    let found : slice_get (fs ++ f ∷ []) (length fs) ≡ Some g =
    (λ i. slice_get (sym grown i) (sym at i)) ∙ got in
    let same : f ≡ g = last_one fs f g found in
    let places : length (map formula_view fs) ≡ place = length-map fs formula_view ∙ sym at in
    let ms : with_formula consts (length (map formula_view fs)) (formula_view f) (reverse old)
    ≡ reverse marks =
    (λ i. with_formula consts (places i) (formula_view (same i)) (reverse old)) ∙ sym are in
    let gs : map formula_view fs ++ formula_view f ∷ [] ≡ map formula_view new =
    sym (map_push formula_view fs f) ∙ ap (map formula_view) (sym grown) in
    subst (λ x. AreMarks consts x (map formula_view new)) ms
    (subst
    (λ x. AreMarks consts
    (with_formula consts (length (map formula_view fs)) (formula_view f) (reverse old)) x) gs
    (marks_added consts (reverse old) (map formula_view fs) (formula_view f) k))

-- all but the first formulas are let go, and the marks of those
pub formulas_dropped : (consts n : ℕ) (fs new : List Fml) (old marks : List Mark)
    → n ≤ length fs → new ≡ take n fs → reverse marks ≡ dropped n (reverse old)
    → AreMarks consts (reverse old) (map formula_view fs)
    → AreMarks consts (reverse marks) (map formula_view new)
formulas_dropped consts n fs new old marks h less are k =
    let few = length-map fs formula_view in
    let gs : take n (map formula_view fs) ≡ map formula_view new =
    take-map formula_view n fs ∙ ap (map formula_view) (sym less) in
    subst (λ x. AreMarks consts x (map formula_view new)) (sym are)
    (subst (λ x. AreMarks consts (dropped n (reverse old)) x) gs
    (marks_dropped consts n (reverse old) (map formula_view fs) (omega (arith, h, few)) k))

-- all given formulas are added
pub started : (b : OpenBranch) (given : List Fml) (n : ℕ) → length given ≤ n
    → b.formulas ≡ take n given → b.added ≡ [] → branch_view b ≡ root (given_view given)
started b given n h e d =
    let fs : map formula_view b.formulas ≡ given_view given =
    ap (map formula_view) (e ∙ take_all n given h) in
    (λ i. record { formulas = fs i; added = d i })
