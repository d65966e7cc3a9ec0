-- Terms that are built with a constructor, as the code makes them.
use Rattle.std.proofs.Common.{◌≡◌, ℕ, zero, suc, ◌+◌, ◌-◌, List, [], ◌∷◌, ◌++◌, map, refl, ap, ap₂, sym, ◌∙◌, arith}
use Rattle.std.proofs.lemmas.List.{map-append}
use Rattle.rp_logic.specs.declared.term.Term.{Term}
use Rattle.rp_logic.specs.declared.term.Term.TheVariants as term
use Rattle.rp_logic.specs.Terms.{Tm, Con, Sel, also_tm}
use Rattle.rp_logic.specs.Views as views
use Rattle.rp_logic.specs.Views.{term_view}
use Rattle.rp_logic.proofs.TermViews.{term_view-Con}
use Rattle.crdt_enc.specs.Builders.{tms_of, selectors, built}

tms_same : (ts : List Tm) → views.tms_of ts ≡ tms_of ts
tms_same [] = refl
tms_same (t ∷ ts) = ap (also_tm t) (tms_same ts)

selectors-more : (con i n : ℕ) (t : Tm) → selectors con i (suc n) t ≡ selectors con i n t ++ Sel con (i + n) t ∷ []
selectors-more con i zero t = ap (λ k. Sel con k t ∷ []) (let e : i ≡ i + 0 = omega arith in e)
selectors-more con i (suc n) t =
    ap (λ ts. Sel con i t ∷ ts) (selectors-more con (suc i) n t ∙ ap (λ k. selectors con (suc i) n t ++ Sel con k t ∷ []) (let e : suc i + n ≡ i + suc n = omega arith in e))

pub one_selected : (con i : ℕ) (t : Tm) (old new : List Term) (part : Term) → map term_view old ≡ selectors con 0 i t → new ≡ old ++ part ∷ [] → term_view part ≡ Sel con i t
    → map term_view new ≡ selectors con 0 (i + 1) t
one_selected con i t old new part h e p =
    ap (map term_view) e
    ∙ (map-append term_view old (part ∷ [])
    ∙ (ap₂ (λ xs x. xs ++ x ∷ []) h (p ∙ ap (λ k. Sel con k t) (let m : i ≡ 0 + i = omega arith in m))
    ∙ (sym (selectors-more con 0 i t) ∙ ap (λ k. selectors con 0 k t) (let m : suc i ≡ i + 1 = omega arith in m))))

pub built_is : (con places : ℕ) (t : Tm) (parts : List Term) → map term_view parts ≡ selectors con 0 places t → term_view (term.Con con parts) ≡ built con places [] t
built_is con places t parts h =
    term_view-Con con parts
    ∙ ap (Con con) (tms_same (map term_view parts) ∙ ap tms_of (h ∙ ap (λ n. selectors con 0 n t) (let m : places ≡ places - 0 = omega arith in m)))
