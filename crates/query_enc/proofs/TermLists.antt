-- Lists of terms, seen element by element, and what is made of them.
use Rattle.std.proofs.Common.{◌≡◌, ℕ, zero, suc, ◌+◌, List, [], ◌∷◌, ◌++◌, map, refl, sym, ap, ap₂, append_assoc, ◌∙◌, arith}
use Rattle.std.proofs.lemmas.List.{map-append}
use Rattle.rp_logic.specs.declared.term.Term.{Term}
use Rattle.rp_logic.specs.declared.term.Term.TheVariants as term
use Rattle.rp_logic.specs.Filling.{raised, raised_each}
use Rattle.rp_logic.specs.Terms as tm
use Rattle.rp_logic.specs.Terms.{Tm, Sel, Tms, also_tm}
use Rattle.rp_logic.specs.Views.{term_view, terms_view, tms_of}
use Rattle.rp_logic.proofs.TermViews.{term_view-Fn, term_view-Con}
use Rattle.crdt_enc.specs.Builders as builders
use Rattle.crdt_enc.specs.Builders.{selectors}
use Rattle.crdt_enc.specs.FormulaFormulas.{list_of}

raised_seen : (k : ℕ) (us : List Term) → raised_each k (terms_view us) ≡ tms_of (map (λ u. raised k (term_view u)) us)
raised_seen k [] = refl
raised_seen k (u ∷ us) = ap (also_tm (raised k (term_view u))) (raised_seen k us)

raised_terms : (k : ℕ) (us xs vs : List Term) → xs ≡ us → map term_view vs ≡ map (λ u. raised k (term_view u)) xs → terms_view vs ≡ raised_each k (terms_view us)
raised_terms k us xs vs e h = ap tms_of (h ∙ ap (λ ys. map (λ u. raised k (term_view u)) ys) e) ∙ sym (raised_seen k us)

pub raised-Fn : (k : ℕ) (u : Term) (f : ℕ) (us xs vs : List Term) → u ≡ term.Fn f us → xs ≡ us
    → map term_view vs ≡ map (λ u. raised k (term_view u)) xs → term_view (term.Fn f vs) ≡ raised k (term_view u)
raised-Fn k u f us xs vs is e h =
    term_view-Fn f vs ∙ ap (tm.Fn f) (raised_terms k us xs vs e h) ∙ ap (raised k) (sym (term_view-Fn f us)) ∙ ap (λ v. raised k (term_view v)) (sym is)

pub raised-Con : (k : ℕ) (u : Term) (c : ℕ) (us xs vs : List Term) → u ≡ term.Con c us → xs ≡ us
    → map term_view vs ≡ map (λ u. raised k (term_view u)) xs → term_view (term.Con c vs) ≡ raised k (term_view u)
raised-Con k u c us xs vs is e h =
    term_view-Con c vs ∙ ap (tm.Con c) (raised_terms k us xs vs e h) ∙ ap (raised k) (sym (term_view-Con c us)) ∙ ap (λ v. raised k (term_view v)) (sym is)

-- the two definitions of terms one behind the other
pub same_terms : (ts : List Tm) → builders.tms_of ts ≡ tms_of ts
same_terms [] = refl
same_terms (t ∷ ts) = ap (also_tm t) (same_terms ts)

pub listed : (ts : List Tm) → list_of (tms_of ts) ≡ ts
listed [] = refl
listed (t ∷ ts) = ap (λ us. t ∷ us) (listed ts)

-- one place more
pub selectors_more : (con a n : ℕ) (t : Tm) → selectors con a (n + 1) t ≡ selectors con a n t ++ Sel con (a + n) t ∷ []
selectors_more con a zero t = ap (λ k. Sel con k t ∷ []) (let e : a ≡ a + 0 = omega arith in e)
selectors_more con a (suc n) t =
    let more : suc n + 1 ≡ suc (n + 1) = omega arith in
    ap (λ k. selectors con a k t) more
    ∙ ap (λ ts. Sel con a t ∷ ts) (selectors_more con (suc a) n t ∙ ap (λ k. selectors con (suc a) n t ++ Sel con k t ∷ []) (let e : suc a + n ≡ a + suc n = omega arith in e))

pub one_selected : (con first i place : ℕ) (t : Tm) (start now new : List Term) (made : Term) → map term_view now ≡ map term_view start ++ selectors con first i t → new ≡ now ++ made ∷ []
    → term_view made ≡ Sel con place t → place ≡ first + i → map term_view new ≡ map term_view start ++ selectors con first (i + 1) t
one_selected con first i place t start now new made h e is at =
    ap (map term_view) e
    ∙ (map-append term_view now (made ∷ [])
    ∙ (ap₂ (λ xs x. xs ++ x ∷ []) h (is ∙ ap (λ k. Sel con k t) at)
    ∙ (append_assoc (map term_view start) (selectors con first i t) (Sel con (first + i) t ∷ []) ∙ ap (λ xs. map term_view start ++ xs) (sym (selectors_more con first i t)))))
