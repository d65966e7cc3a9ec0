-- The additions for the children, made one after another.
use Rattle.std.proofs.Common.{◌≡◌, ◌≤◌, ℕ, zero, suc, ◌+◌, length, take, List, [], ◌∷◌, ◌++◌, map, refl, ap, sym, ◌∙◌, arith}
use Rattle.std.proofs.lemmas.List.{map_push, take_all}
use Rattle.rp_logic.specs.declared.term.Term.{Term}
use Rattle.rp_logic.specs.declared.formula.Fml.{Fml}
use Rattle.rp_logic.specs.Terms.{Tm, Sel, no_tm, also_tm}
use Rattle.rp_logic.specs.Signatures.{Signature}
use Rattle.rp_logic.specs.Views.{term_view, terms_view, tms_of, formula_view, formulas_view}
use Rattle.refute_defs.specs.Branches.{formula_alone}
use Rattle.refute_defs.specs.Parts.{selections, built_with}
use Rattle.refute_defs.specs.Children.{child_for_each, child_for_each_con}
use Rattle.refute_rules.specs.declared.additions.Addition.{Addition}
use Rattle.refute_rules.specs.Added.{addition_view}

pub children_of_parts : (fs : List Fml) → child_for_each (formulas_view fs) ≡ map
    (λ f. formula_alone (formula_view f)) fs
children_of_parts [] = refl
children_of_parts (f ∷ fs) = ap
    (λ adds. formula_alone (formula_view f) ∷ adds) (children_of_parts fs)

pub children_of_cons : (S : Signature) (t : Tm) (cons : List ℕ) → child_for_each_con S t cons ≡ map
    (λ con. formula_alone (built_with S t con)) cons
children_of_cons S t [] = refl
children_of_cons S t (con ∷ cons) = ap
    (λ adds. formula_alone (built_with S t con) ∷ adds) (children_of_cons S t cons)

selection_last : (con i n j : ℕ) (t : Tm) (us : List Tm) → j ≡ i + n → tms_of us
    ≡ selections con i n t → tms_of (us ++ Sel con j t ∷ []) ≡ selections con i (suc n) t
selection_last con i zero j t [] e h = ap (λ k. also_tm (Sel con k t) no_tm) (e ∙ grind arith)
selection_last con i zero j t (u ∷ us) e h = absurd cc
selection_last con i (suc n) j t [] e h = absurd cc
selection_last con i (suc n) j t (u ∷ us) e h =
    let first : u ≡ Sel con i t = cc in
    let rest : tms_of us ≡ selections con (suc i) n t = cc in
    let later = selection_last con (suc i) n j t us (omega arith) rest in
    (λ k. also_tm (first k) (later k))

pub one_selection_more : (con n : ℕ) (t : Tm) (us : List Term) (u : Term) → terms_view us
    ≡ selections con 0 n t → term_view u ≡ Sel con n t
    → terms_view (us ++ u ∷ []) ≡ selections con 0 (suc n) t
one_selection_more con n t us u h e =
    ap tms_of (map_push term_view us u ∙ ap (λ x. map term_view us ++ x ∷ []) e)
    ∙ selection_last con 0 n n t (map term_view us) (omega arith) h

pub each_part : (fs : List Fml) (adds : List Addition) (n : ℕ) → length fs ≤ n
    → map addition_view adds ≡ map (λ f. formula_alone (formula_view f)) (take n fs)
    → map addition_view adds ≡ child_for_each (formulas_view fs)
each_part fs adds n h e = e ∙ ap (map (λ f. formula_alone (formula_view f))) (take_all n fs h)
    ∙ sym (children_of_parts fs)

pub each_con : (S : Signature) (t : Tm) (cons : List ℕ) (adds : List Addition) (n : ℕ)
    → length cons ≤ n
    → map addition_view adds ≡ map (λ con. formula_alone (built_with S t con)) (take n cons)
    → map addition_view adds ≡ child_for_each_con S t cons
each_con S t cons adds n h e = e
    ∙ ap (map (λ con. formula_alone (built_with S t con))) (take_all n cons h)
    ∙ sym (children_of_cons S t cons)
