-- The formula of a program's query is well sorted, at terms of the sorts of its arguments.
use Rattle.std.proofs.Common.{◌≡◌, ℕ, List, [], ◌∷◌, map, slice_get, true, Some, refl, sym, ap, subst, ◌∙◌}
use Rattle.std.proofs.lemmas.Bool.{and_parts, and_from}
use Rattle.rp_value.specs.declared.tables.Ty.{Ty}
use Rattle.rp_lang.specs.declared.query.QueryDecl.{QueryDecl}
use Rattle.rp_lang.specs.Types.{is_ordinary, are_ordinary}
use Rattle.rp_lang.specs.Paths.{root_crdt}
use Rattle.rp_lang.specs.Programs.{Prog}
use Rattle.rp_lang.proofs.ProgramFacts.{op-is}
use Rattle.crdt_defs.specs.Fitting.{fits, all_fit}
use Rattle.rp_logic.specs.Terms.{Tm, Tms, no_tm, also_tm}
use Rattle.rp_logic.specs.Sorted.{has_sort, have_sorts, IsSorted}
use Rattle.rp_logic.proofs.SortLaws.{no}
use Rattle.rp_symbols.specs.Signatures.{sort_of}
use Rattle.crdt_enc.specs.Ways.{Root}
use Rattle.crdt_enc.specs.Builders.{tms_of}
use Rattle.crdt_enc.specs.FormulaFormulas.{list_of}
use Rattle.crdt_enc.specs.QueryFormulas.{query_by, query_formula}
use Rattle.crdt_enc.specs.means.Counting.{Both}
use Rattle.crdt_enc.proofs.AskFacts.{ops-stand}
use Rattle.crdt_enc.proofs.AskLaws.{terms_of, vals_of}
use Rattle.crdt_enc.proofs.ProgramLaws.{question-fits}
use Rattle.crdt_enc.proofs.StageFacts.{query-is}
use Rattle.hist_struct.specs.Defaults.{default_val}
use Rattle.hist_struct.proofs.DefaultLaws.{default-is}
use Rattle.hist_struct.proofs.OrdinaryLaws.{query-ordinary}
use Rattle.well_sorted.proofs.QuerySorts.{AllTyped, ask-sorted}
use Rattle.well_sorted.proofs.TermSorts.{Setting}

-- terms with values of these types
abbrev pub zipped : Prog → List Ty → List Tm → List Both
zipped p (t ∷ tys) (u ∷ us) = record { term = u; val = default_val p t } ∷ zipped p tys us
zipped p _ _ = []

pub record Zipped (p : Prog) (g : Setting p) (scope : List ℕ) (tys : List Ty) (us : List Tm) : Type 0 where
  pub typed : AllTyped p g.sig g.added g.has g.at.view g.place.view scope (zipped p tys us)
  pub terms : terms_of (zipped p tys us) ≡ us
  pub fit : all_fit p tys (vals_of (zipped p tys us)) ≡ true

pub zipped-is : (p : Prog) (g : Setting p) (scope : List ℕ) (tys : List Ty) (us : List Tm) → are_ordinary p.types tys ≡ true → have_sorts g.sig g.added scope (map (sort_of p) tys) (tms_of us) ≡ true → Zipped p g scope tys us
zipped-is p g scope [] [] o h = record { typed = tt; terms = refl; fit = refl }
zipped-is p g scope [] (u ∷ us) o h = no h
zipped-is p g scope (t ∷ tys) [] o h = no h
zipped-is p g scope (t ∷ tys) (u ∷ us) o h =
    let b = and_parts (is_ordinary p.types t) (are_ordinary p.types tys) o in
    let c = and_parts (has_sort g.sig g.added scope (sort_of p t) u) (have_sorts g.sig g.added scope (map (sort_of p) tys) (tms_of us)) h in
    let r = zipped-is p g scope tys us b.1 c.1 in
    let f = default-is p g.formed t b.0 in
    record { typed = (record { ty = t; fit = f; sorted = c.0 }, r.typed); terms = ap (λ xs. u ∷ xs) r.terms; fit = and_from (fits p t (default_val p t)) _ f r.fit }

back : (ts : Tms) → tms_of (list_of ts) ≡ ts
back no_tm = refl
back (also_tm t ts) = ap (also_tm t) (back ts)

pub query-sorted : (p : Prog) (g : Setting p) (scope : List ℕ) (n : ℕ) (query : QueryDecl) (ts : Tms) → slice_get p.queries n ≡ Some query → have_sorts g.sig g.added scope (map (sort_of p) query.args) ts ≡ true
    → IsSorted g.sig g.added scope (query_formula p g.at.view n (list_of ts))
query-sorted p g scope n query ts e h =
    let us = list_of ts in
    let z = zipped-is p g scope query.args us (query-ordinary p g.facts n query e) (ap (have_sorts g.sig g.added scope (map (sort_of p) query.args)) (back ts) ∙ h) in
    let fit = question-fits p (ops-stand p (λ o decl q. op-is p.roots p.ops o decl g.facts.ops q)) query (zipped p query.args us) (and_parts _ _ (query-is p g.facts n query e)).1 z.fit in
    subst (λ o. IsSorted g.sig g.added scope (query_by p g.at.view o us)) (sym e)
    (subst (λ us. IsSorted g.sig g.added scope (query_by p g.at.view (Some query) us)) z.terms
    (ask-sorted p g.sig g.added g.has g.at.view g.place.view scope query.kind (root_crdt (slice_get p.roots query.root)) query.path (Root query.root) (zipped p query.args us) tt tt z.typed fit))
