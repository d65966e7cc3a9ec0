-- The queries that names of a text stand for are declared there.
use Rattle.std.proofs.Common.{◌≡◌, ◌+◌, ℕ, suc, Bool, true, false, cond, List, [], ◌∷◌, ◌++◌, map, length, Option, Some, None, ◌⊎◌, inl, inr, refl, ap, subst, sym, ◌∙◌, arith}
use Rattle.rp_span.specs.declared.Span.{Span}
use Rattle.rp_grammar.specs.Trees.{ConTree, QueryTree, ProcTree, DeclForm, DeclTree}
use Rattle.type_rules.specs.Names.{Name, Names, Entry, Declared, same_name, types_in, con_entry, entries_in, entries_from, first_entry}
use Rattle.type_rules.specs.Queries.{names_of, with_formulas, with_flag, is_formula_decl, declared_names}
use Rattle.query_laws.specs.Whole.{IsQueryAt, AreOf}

-- its query, if it is one, is declared at that place behind number k
abbrev IsIn : ℕ → List DeclTree → Entry → Type 0
IsIn k ds e = (q : QueryTree) → e.what ≡ Declared.query q → (i : ℕ) × (k + i ≡ e.decl) × IsQueryAt ds i q

first_split : (a b : List Entry) (x : Name) (e : Entry) → first_entry (a ++ b) x ≡ Some e
    → (first_entry a x ≡ Some e) ⊎ (first_entry b x ≡ Some e)
first_split [] b x e is = inr is
first_split (y ∷ a) b x e is = by_name (same_name y.name x) (first_entry a x) (first_entry (a ++ b) x) is (first_split a b x e)
  where
    by_name : (same : Bool) (o p : Option Entry) → cond same (Some y) p ≡ Some e
        → (p ≡ Some e → (o ≡ Some e) ⊎ (first_entry b x ≡ Some e))
        → (cond same (Some y) o ≡ Some e) ⊎ (first_entry b x ≡ Some e)
    by_name true o p is rest = inl is
    by_name false o p is rest = rest is

one_first : (y : Entry) (x : Name) (e : Entry) → first_entry (y ∷ []) x ≡ Some e → y ≡ e
one_first y x e is = by_name (same_name y.name x) is where
  by_name : (same : Bool) → cond same (Some y) None ≡ Some e → y ≡ e
  by_name true is = cc
  by_name false is = absurd cc

cons_first : (k type : ℕ) (cons : List ConTree) (x : Name) (e : Entry) → first_entry (map (con_entry k type) cons) x ≡ Some e
    → (q : QueryTree) → e.what ≡ Declared.query q → ⊥
cons_first k type [] x e is q what = absurd cc
cons_first k type (c ∷ cons) x e is q what =
    by_name (same_name (con_entry k type c).name x) is (λ later. cons_first k type cons x e later q what) where
      by_name : (same : Bool) → cond same (Some (con_entry k type c)) (first_entry (map (con_entry k type) cons) x) ≡ Some e
          → (first_entry (map (con_entry k type) cons) x ≡ Some e → ⊥) → ⊥
      by_name true is rest =
          let here : con_entry k type c ≡ e = cc in
          let clash : Declared.con type c ≡ Declared.query q = ap (λ (y : Entry). y.what) here ∙ what in cc
      by_name false is rest = rest is

further : (k : ℕ) (d : DeclTree) (ds : List DeclTree) (e : Entry) → IsIn (k + 1) ds e → IsIn k (d ∷ ds) e
further k d ds e is q what =
    let found = is q what in
    let number : k + suc found.0 ≡ e.decl = omega (arith, found.1) in
    (suc found.0, number, found.2)

here_in : (k type : ℕ) (at : Span) (form : DeclForm) (ds : List DeclTree) (x : Name) (e : Entry)
    → first_entry (entries_in k type (DeclTree.node at form)) x ≡ Some e
    → IsIn k (DeclTree.node at form ∷ ds) e
here_in k type at (DeclForm.id_type y) ds x e is q what = absurd cc
here_in k type at (DeclForm.opaque y) ds x e is q what = absurd cc
here_in k type at (DeclForm.datatype y cons) ds x e is q what = absurd (cons_first k type cons x e is q what)
here_in k type at (DeclForm.crdt y c) ds x e is q what =
    let same = one_first _ x e is in
    let clash : Declared.root c ≡ Declared.query q = ap (λ (z : Entry). z.what) same ∙ what in absurd cc
here_in k type at (DeclForm.query (QueryTree.query y params result body)) ds x e is q what =
    let same = one_first _ x e is in
    let r = QueryTree.query y params result body in
    let equal : Declared.query r ≡ Declared.query q = ap (λ (z : Entry). z.what) same ∙ what in
    let query : r ≡ q = cc in
    let number : k ≡ e.decl = ap (λ (z : Entry). z.decl) same in
    let place : k + 0 ≡ e.decl = omega (arith, number) in
    (0, place, (at, ap (λ (z : QueryTree). Some (DeclTree.node at (DeclForm.query z))) query))
here_in k type at (DeclForm.invariant y body) ds x e is q what = absurd cc
here_in k type at (DeclForm.proc (ProcTree.proc y params result body)) ds x e is q what =
    let same = one_first _ x e is in
    let clash : Declared.proc (ProcTree.proc y params result body) ≡ Declared.query q = ap (λ (z : Entry). z.what) same ∙ what in
    absurd cc

all_in : (k type : ℕ) (ds : List DeclTree) (x : Name) (e : Entry) → first_entry (entries_from k type ds) x ≡ Some e → IsIn k ds e
all_in k type [] x e is = absurd cc
all_in k type (DeclTree.node at form ∷ ds) x e is =
    by_side (first_split (entries_in k type d) (entries_from (k + 1) next ds) x e is) (all_in (k + 1) next ds x e) where
      d : DeclTree
      d = DeclTree.node at form

      next : ℕ
      next = type + length (types_in k d)

      by_side : (first_entry (entries_in k type d) x ≡ Some e) ⊎ (first_entry (entries_from (k + 1) next ds) x ≡ Some e)
          → (first_entry (entries_from (k + 1) next ds) x ≡ Some e → IsIn (k + 1) ds e) → IsIn k (d ∷ ds) e
      by_side (inl there) rest = here_in k type at form ds x e there
      by_side (inr there) rest = further k d ds e (rest there)

entries_stay : (n : Names) (ds : List DeclTree) → (with_formulas n ds).entries ≡ n.entries
entries_stay n [] = refl
entries_stay n (d ∷ ds) = entries_stay (with_flag n (is_formula_decl n d)) ds

pub names_told : (tree : List DeclTree) → AreOf (names_of tree) tree
names_told tree k q named =
    let there : first_entry (entries_from 0 0 tree) named.name ≡ Some named.entry =
    ap (λ (es : List Entry). first_entry es named.name) (sym (entries_stay (declared_names tree) tree)) ∙ named.there in
    let found = all_in 0 0 tree named.name named.entry there q named.what in
    let number : found.0 ≡ k = omega (arith, found.1, named.decl) in
    subst (λ i. IsQueryAt tree i q) number found.2
