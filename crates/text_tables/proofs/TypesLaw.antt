-- How many types a text declares, told without the program's tables.
use Rattle.std.proofs.Common.{◌≡◌, ℕ, ◌+◌, Bool, true, false, cond, not, List, [], ◌∷◌, ◌++◌, length, Some, refl, sym, ap, ap₂, ◌∙◌, arith}
use Rattle.std.specs.Prelude.{count_by, unwrap_or, codes, nat_eq, if◌then◌else◌}
use Rattle.std.specs.List.{flat_map, slice_get}
use Rattle.std.specs.Cmp.Lexicographic.{pointwise}
use Rattle.std.proofs.lemmas.List.{append_assoc, length-append}
use Rattle.std.proofs.lemmas.List.Sums.{sum_by-cons}
use Rattle.rp_value.specs.declared.tables.ConDecl.{ConDecl}
use Rattle.rp_value.specs.declared.tables.ConTable.{ConTable}
use Rattle.rp_lang.specs.Types as types
use Rattle.type_rules.specs.declared.kind.Kind.{Kind}
use Rattle.type_rules.specs.Matches.{Case}
use Rattle.desugaring.specs.Parts.{each}
use Rattle.desugaring.specs.Tables.{Tables, con_decl, con_of, con_table, cons_of, data_decls, datatype_number, kind_text, ty_of, type_table, up_from}
use Rattle.desugaring.proofs.Fields.{table_there}
use Rattle.desugaring.proofs.Options.{both_there}
use Rattle.text_tables.specs.means.Cases.{cons_with}
use Rattle.text_tables.specs.means.Limited.{all_cases, begins_with_none, is_declared}
use Rattle.text_tables.proofs.Growing.{each_both}
use Rattle.text_tables.proofs.PartsLaw.{each_length, seam}

name_kept : (t : Tables) (k : Kind) (c : Case) (d : ConDecl) → con_decl t (record { name = c.name; of = k; fields = c.fields }) ≡ Some d → d.name ≡ c.name
name_kept t k c d e =
    both_there (λ d. d.name ≡ c.name) (con_of c.name) (datatype_number t k) (each (ty_of t) c.fields) d e (λ of fields a b. refl)

first_called : (t : Tables) (k : Kind) (cases : List Case) (before own behind : List ConDecl) (cons : ConTable)
    → each (con_decl t) (cons_with k cases) ≡ Some own → cons.cons ≡ before ++ (own ++ behind)
    → types.is_called_none (types.first_con cons (up_from (length before) (length own))) ≡ begins_with_none cases
first_called t k [] before own behind cons e split =
    let none : own ≡ [] = sym (ap (λ o. unwrap_or o own) e) in
    ap (λ ds. types.is_called_none (types.first_con cons (up_from (length before) (length ds)))) none
first_called t k (c ∷ cases) before own behind cons e split =
    both_there (λ own. cons.cons ≡ before ++ (own ++ behind) → types.is_called_none (types.first_con cons (up_from (length before) (length own))) ≡ begins_with_none (c ∷ cases))
    ◌∷◌ (con_decl t (record { name = c.name; of = k; fields = c.fields })) (each (con_decl t) (cons_with k cases)) own e
    (λ d ds a b split.
    ap types.is_called_none (ap (λ xs. slice_get xs (length before)) split ∙ seam before d (ds ++ behind))
    ∙ ap (λ x. pointwise nat_eq x (codes "none")) (name_kept t k c d a))
    split

count_step : {X : Type 0} (p : X → Bool) (x : X) (xs : List X) (n : ℕ) → count_by p xs ≡ n → count_by p (x ∷ xs) ≡ (if p x then 1 + n else n)
count_step p x xs n e = sum_by-cons (λ x. cond (p x) 1 0) x xs ∙ by (p x)
  where
    by : (b : Bool) → cond b 1 0 + count_by p xs ≡ (if b then 1 + n else n)
    by true = omega (arith, e)
    by false = omega (arith, e)

counts_are : (t : Tables) (cons : ConTable) (ks : List Kind) (before rest : List ConDecl) (next : ℕ) → each (con_decl t) (flat_map (cons_of t.names) ks) ≡ Some rest
    → cons.cons ≡ before ++ rest → length before ≡ next
    → count_by (types.is_declared cons) (data_decls t.names next ks) ≡ count_by (is_declared t.names) ks
counts_are t cons [] before rest next e split long = refl
counts_are t cons (k ∷ ks) before rest next e split long =
    both_there (λ rest. cons.cons ≡ before ++ rest → count_by (types.is_declared cons) (data_decls t.names next (k ∷ ks)) ≡ count_by (is_declared t.names) (k ∷ ks))
    (λ a b. a ++ b) (each (con_decl t) (cons_of t.names k)) (each (con_decl t) (flat_map (cons_of t.names) ks)) rest
    (sym (each_both (con_decl t) (cons_of t.names k) (flat_map (cons_of t.names) ks)) ∙ e)
    (λ own behind a b split.
    let many = each_length (con_decl t) (cons_of t.names k) own a in
    let later = counts_are t cons ks (before ++ own) behind (next + length (cons_of t.names k)) b
    (split ∙ sym (append_assoc before own behind)) (length-append before own ∙ ap₂ (λ a b. a + b) long many) in
    let first : types.is_declared cons (record { name = kind_text t.names k; cons = up_from next (length (cons_of t.names k)) }) ≡ is_declared t.names k =
    ap₂ (λ m n. not (types.is_called_none (types.first_con cons (up_from m n)))) (sym long) (sym many)
    ∙ ap not (first_called t k (all_cases t.names k) before own behind cons a split) in
    count_step (types.is_declared cons) (record { name = kind_text t.names k; cons = up_from next (length (cons_of t.names k)) })
    (data_decls t.names (next + length (cons_of t.names k)) ks) (count_by (is_declared t.names) ks) later
    ∙ ap (λ b. if b then 1 + count_by (is_declared t.names) ks else count_by (is_declared t.names) ks) first
    ∙ sym (count_step (is_declared t.names) k ks (count_by (is_declared t.names) ks) refl))
    split

pub few_law : (t : Tables) (cons : ConTable) → con_table t ≡ Some cons
    → count_by (types.is_declared cons) (type_table t).datatypes ≡ count_by (is_declared t.names) t.datatypes
few_law t cons e = counts_are t cons t.datatypes [] cons.cons 0 (table_there t cons e) refl refl
