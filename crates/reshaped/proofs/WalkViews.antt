-- Walks over lists of terms and formulas, at one element.
use Rattle.std.proofs.Common.{◌≡◌, ◌<◌, ℕ, zero, suc, ◌+◌, List, [], ◌∷◌, ◌++◌, length, map, drop, get_or, slice_get, true≢false, Some, None, true, false, ◌||◌, refl, ap, sym, ◌∙◌, arith}
use Rattle.std.specs.Option.{is_some, option_or, unwrap_or}
use Rattle.std.proofs.lemmas.List.{drop_more}
use Rattle.rp_logic.specs.declared.term.Term.{Term}
use Rattle.rp_logic.specs.declared.formula.Fml.{Fml}
use Rattle.rp_logic.specs.Terms.{Tm, Sel}
use Rattle.rp_logic.specs.Formulas.{also_fm}
use Rattle.rp_logic.specs.Dual.{dual, duals}
use Rattle.rp_logic.specs.Views.{term_view, terms_view, formula_view, formulas_view, fms_of}
use Rattle.reshape.specs.Determining.{found, found_among}
use Rattle.reshape.specs.Eliminating.{told_by, told_among}
use Rattle.reshape.specs.Joined.{joined}
use Rattle.reshaped.specs.Occurring.{stands, stands_among}
use Rattle.reshaped.specs.Shapes.{shaped, shaped_each, is_quantified, are_quantified}

-- # Whether the variable stands in a term

stands-at : (ts : List Term) (i : ℕ) (t d : Term) → i < length ts → t ≡ get_or ts i d → stands_among (terms_view (drop i ts)) ≡ (stands (term_view t) || stands_among (terms_view (drop (i + 1) ts)))
stands-at ts i t d l is = ap (λ us. stands_among (terms_view us)) (drop_more ts i d l) ∙ ap (λ u. stands (term_view u) || stands_among (terms_view (drop (i + 1) ts))) (sym is)

pub stands_here : (ts : List Term) (i : ℕ) (t d : Term) → i < length ts → t ≡ get_or ts i d → stands_among (terms_view ts) ≡ stands_among (terms_view (drop i ts))
    → true ≡ stands (term_view t) → true ≡ stands_among (terms_view ts)
stands_here ts i t d l is inv h = ap (λ b. b || stands_among (terms_view (drop (i + 1) ts))) h ∙ sym (inv ∙ stands-at ts i t d l is)

pub stands_later : (ts : List Term) (i : ℕ) (t d : Term) → i < length ts → t ≡ get_or ts i d → stands_among (terms_view ts) ≡ stands_among (terms_view (drop i ts))
    → false ≡ stands (term_view t) → stands_among (terms_view ts) ≡ stands_among (terms_view (drop (i + 1) ts))
stands_later ts i t d l is inv h = inv ∙ (stands-at ts i t d l is ∙ ap (λ b. b || stands_among (terms_view (drop (i + 1) ts))) (sym h))

-- # Whether a formula has quantifiers

quantified-at : (fs : List Fml) (i : ℕ) (f d : Fml) → i < length fs → f ≡ get_or fs i d → are_quantified (formulas_view (drop i fs)) ≡ (is_quantified (formula_view f) || are_quantified (formulas_view (drop (i + 1) fs)))
quantified-at fs i f d l is = ap (λ us. are_quantified (formulas_view us)) (drop_more fs i d l) ∙ ap (λ u. is_quantified (formula_view u) || are_quantified (formulas_view (drop (i + 1) fs))) (sym is)

pub quantified_here : (fs : List Fml) (i : ℕ) (f d : Fml) → i < length fs → f ≡ get_or fs i d → are_quantified (formulas_view fs) ≡ are_quantified (formulas_view (drop i fs))
    → true ≡ is_quantified (formula_view f) → true ≡ are_quantified (formulas_view fs)
quantified_here fs i f d l is inv h = ap (λ b. b || are_quantified (formulas_view (drop (i + 1) fs))) h ∙ sym (inv ∙ quantified-at fs i f d l is)

pub quantified_later : (fs : List Fml) (i : ℕ) (f d : Fml) → i < length fs → f ≡ get_or fs i d → are_quantified (formulas_view fs) ≡ are_quantified (formulas_view (drop i fs))
    → false ≡ is_quantified (formula_view f) → are_quantified (formulas_view fs) ≡ are_quantified (formulas_view (drop (i + 1) fs))
quantified_later fs i f d l is inv h = inv ∙ (quantified-at fs i f d l is ∙ ap (λ b. b || are_quantified (formulas_view (drop (i + 1) fs))) (sym h))

-- # What a list of parts tells

told-at : (fs : List Fml) (i : ℕ) (f d : Fml) → i < length fs → f ≡ get_or fs i d → told_among (formulas_view (drop i fs)) ≡ option_or (told_by (formula_view f)) (told_among (formulas_view (drop (i + 1) fs)))
told-at fs i f d l is = ap (λ us. told_among (formulas_view us)) (drop_more fs i d l) ∙ ap (λ u. option_or (told_by (formula_view u)) (told_among (formulas_view (drop (i + 1) fs)))) (sym is)

pub told_here : (fs : List Fml) (i : ℕ) (f d : Fml) (w : Tm) → i < length fs → f ≡ get_or fs i d → told_among (formulas_view fs) ≡ told_among (formulas_view (drop i fs))
    → told_by (formula_view f) ≡ Some w → told_among (formulas_view fs) ≡ Some w
told_here fs i f d w l is inv h = inv ∙ (told-at fs i f d l is ∙ ap (λ o. option_or o (told_among (formulas_view (drop (i + 1) fs)))) h)

pub told_later : (fs : List Fml) (i : ℕ) (f d : Fml) → i < length fs → f ≡ get_or fs i d → told_among (formulas_view fs) ≡ told_among (formulas_view (drop i fs))
    → told_by (formula_view f) ≡ None → told_among (formulas_view fs) ≡ told_among (formulas_view (drop (i + 1) fs))
told_later fs i f d l is inv h = inv ∙ (told-at fs i f d l is ∙ ap (λ o. option_or o (told_among (formulas_view (drop (i + 1) fs)))) h)

-- # Where the variable is found

drop_at : {X : Type 0} (xs : List X) (k m : ℕ) (x : X) → m ≡ k + 1 → slice_get xs k ≡ Some x → drop k xs ≡ x ∷ drop m xs
drop_at [] k m x e h = absurd (true≢false (sym (ap is_some h)))
drop_at (y ∷ xs) zero zero x e h = absurd (omega arith)
drop_at (y ∷ xs) zero (suc zero) x e h = ap (λ o. unwrap_or o y ∷ xs) h
drop_at (y ∷ xs) zero (suc (suc m)) x e h = absurd (omega arith)
drop_at (y ∷ xs) (suc k) zero x e h = absurd (omega arith)
drop_at (y ∷ xs) (suc k) (suc m) x e h = drop_at xs k m x (omega arith) h

found-at : (ts : List Term) (con : ℕ) (whole : Tm) (i : ℕ) (t : Term) → slice_get ts i ≡ Some t
    → found_among (terms_view (drop i ts)) con i whole ≡ option_or (found (term_view t) (Sel con i whole)) (found_among (terms_view (drop (i + 1) ts)) con (i + 1) whole)
found-at ts con whole i t is =
    ap (λ us. found_among (terms_view us) con i whole) (drop_at ts i (i + 1) t refl is)
    ∙ ap (λ k. option_or (found (term_view t) (Sel con i whole)) (found_among (terms_view (drop (i + 1) ts)) con k whole)) (let e : suc i ≡ i + 1 = omega arith in e)

pub found_here : (ts : List Term) (con : ℕ) (whole part w : Tm) (i : ℕ) (t : Term) → slice_get ts i ≡ Some t
    → found_among (terms_view ts) con 0 whole ≡ found_among (terms_view (drop i ts)) con i whole → part ≡ Sel con i whole → found (term_view t) part ≡ Some w
    → found_among (terms_view ts) con 0 whole ≡ Some w
found_here ts con whole part w i t is inv p h =
    inv ∙ (found-at ts con whole i t is ∙ ap (λ o. option_or o (found_among (terms_view (drop (i + 1) ts)) con (i + 1) whole)) (ap (found (term_view t)) (sym p) ∙ h))

pub found_later : (ts : List Term) (con : ℕ) (whole part : Tm) (i : ℕ) (t : Term) → slice_get ts i ≡ Some t
    → found_among (terms_view ts) con 0 whole ≡ found_among (terms_view (drop i ts)) con i whole → part ≡ Sel con i whole → found (term_view t) part ≡ None
    → found_among (terms_view ts) con 0 whole ≡ found_among (terms_view (drop (i + 1) ts)) con (i + 1) whole
found_later ts con whole part i t is inv p h =
    inv ∙ (found-at ts con whole i t is ∙ ap (λ o. option_or o (found_among (terms_view (drop (i + 1) ts)) con (i + 1) whole)) (ap (found (term_view t)) (sym p) ∙ h))

-- # Lists of formulas

pub joined_seen : (fs gs : List Fml) → formulas_view (fs ++ gs) ≡ joined (formulas_view fs) (formulas_view gs)
joined_seen [] gs = refl
joined_seen (f ∷ fs) gs = ap (also_fm (formula_view f)) (joined_seen fs gs)

shapes_seen : (fs : List Fml) → shaped_each (formulas_view fs) ≡ fms_of (map (λ f. shaped (formula_view f)) fs)
shapes_seen [] = refl
shapes_seen (f ∷ fs) = ap (also_fm (shaped (formula_view f))) (shapes_seen fs)

pub made_shapes : (fs xs gs : List Fml) → xs ≡ fs → map formula_view gs ≡ map (λ f. shaped (formula_view f)) xs → formulas_view gs ≡ shaped_each (formulas_view fs)
made_shapes fs xs gs e h = ap fms_of (h ∙ ap (λ ys. map (λ f. shaped (formula_view f)) ys) e) ∙ sym (shapes_seen fs)

denials_seen : (fs : List Fml) → duals (shaped_each (formulas_view fs)) ≡ fms_of (map (λ f. dual (shaped (formula_view f))) fs)
denials_seen [] = refl
denials_seen (f ∷ fs) = ap (also_fm (dual (shaped (formula_view f)))) (denials_seen fs)

pub made_denials : (fs xs gs : List Fml) → xs ≡ fs → map formula_view gs ≡ map (λ f. dual (shaped (formula_view f))) xs → formulas_view gs ≡ duals (shaped_each (formulas_view fs))
made_denials fs xs gs e h = ap fms_of (h ∙ ap (λ ys. map (λ f. dual (shaped (formula_view f))) ys) e) ∙ sym (denials_seen fs)
