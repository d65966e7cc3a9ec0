-- The laws of queries and of invariants.
use Rattle.std.proofs.Common.{◌≡◌, ◌↔◌, ℕ, List, [], ◌∷◌, map, slice_get, true, false, Some, refl, sym, ap, ◌∙◌, subst}
use Rattle.std.proofs.lemmas.Option.{none-some}
use Rattle.rp_value.specs.Values.{Val}
use Rattle.rp_lang.specs.declared.query.QueryDecl.{QueryDecl}
use Rattle.rp_lang.specs.Formulas.{Fo}
use Rattle.rp_lang.specs.Typing.{in_invariant, is_typed, is_get}
use Rattle.crdt_defs.specs.Fitting.{all_fit}
use Rattle.crdt_defs.specs.Queries.{answer_in, is_true}
use Rattle.crdt_defs.specs.Truths.{Reading, truth}
use Rattle.rp_logic.specs.Terms.{Tm}
use Rattle.rp_logic.specs.Elements.{Elem}
use Rattle.rp_logic.specs.Truth.{Meaning, Holds, value}
use Rattle.crdt_enc.specs.Elements.{elem_of}
use Rattle.crdt_enc.specs.Places.{At}
use Rattle.crdt_enc.specs.QueryFormulas.{query_formula}
use Rattle.crdt_enc.specs.FormulaFormulas.{formula_of, nothing_around}
use Rattle.crdt_enc.specs.Stages.{Stage}
use Rattle.crdt_enc.proofs.StageFacts.{staged}
use Rattle.crdt_enc.specs.means.Counting.{Both}
use Rattle.crdt_enc.proofs.AskLaws.{AllRead, terms_of, vals_of, query-is}
use Rattle.crdt_enc.proofs.AskFacts.{asks-of}
use Rattle.crdt_enc.proofs.FormulaLaws.{formula-is}

abbrev zip : List Tm → List Val → List Both
zip (t ∷ ts) (v ∷ vs) = record { term = t; val = v } ∷ zip ts vs
zip _ _ = []

record Zip (M : Meaning) (vars : List Elem) (ts : List Tm) (vs : List Val) : Type 0 where
  read : AllRead M vars (zip ts vs)
  terms : terms_of (zip ts vs) ≡ ts
  vals : vals_of (zip ts vs) ≡ vs

zip-is : (M : Meaning) (vars : List Elem) (ts : List Tm) (vs : List Val) → map (value M vars) ts ≡ map elem_of vs → Zip M vars ts vs
zip-is M vars [] [] e = record { read = tt; terms = refl; vals = refl }
zip-is M vars [] (v ∷ vs) e = cc
zip-is M vars (t ∷ ts) [] e = cc
zip-is M vars (t ∷ ts) (v ∷ vs) e =
    let r = zip-is M vars ts vs cc in
    let first : value M vars t ≡ elem_of v = cc in
    record { read = (first, r.read); terms = ap (λ xs. t ∷ xs) r.terms; vals = ap (λ xs. v ∷ xs) r.vals }

pub query-law : (r : Reading) (M : Meaning) (at : At) → Stage r M at → (n : ℕ) (query : QueryDecl) → slice_get r.program.queries n ≡ Some query → is_get query.kind ≡ false
    → (vars : List Elem) (ts : List Tm) (vs : List Val) → map (value M vars) ts ≡ map elem_of vs → all_fit r.program query.args vs ≡ true
    → Holds M vars (query_formula r.program at.view n ts) ↔ (is_true (answer_in r.program n r.parts.calls r.visible vs) ≡ true)
query-law r M at stage n query e get vars ts vs m f =
    let z = zip-is M vars ts vs m in
    let fit : all_fit r.program query.args (vals_of (zip ts vs)) ≡ true = ap (all_fit r.program query.args) z.vals ∙ f in
    let l = query-is r.program M r.parts.calls at.view r.visible vars stage.parts.calls stage.view stage.calls_fit n query (zip ts vs) e z.read ((asks-of r M at (staged r M at stage)).fit n query (zip ts vs) e get fit) in (
      (λ h. ap (λ vs. is_true (answer_in r.program n r.parts.calls r.visible vs)) (sym z.vals) ∙ l.0 (subst (λ ts. Holds M vars (query_formula r.program at.view n ts)) (sym z.terms) h)),
      λ h. subst (λ ts. Holds M vars (query_formula r.program at.view n ts)) z.terms (l.1 (ap (λ vs. is_true (answer_in r.program n r.parts.calls r.visible vs)) z.vals ∙ h)),
    )

pub formula-law : (r : Reading) (M : Meaning) (at : At) → Stage r M at → (f : Fo) → is_typed r.program in_invariant [] f ≡ true → (vars : List Elem)
    → Holds M vars (formula_of r.program at nothing_around f) ↔ (truth r [] f ≡ true)
formula-law r M at stage f h vars = formula-is r M at (staged r M at stage) (asks-of r M at (staged r M at stage)) in_invariant f vars nothing_around [] [] ((λ s t e. absurd (none-some t e)), tt) h
