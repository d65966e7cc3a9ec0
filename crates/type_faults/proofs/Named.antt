-- Names that differ, places that use no query, and the declarations of a text.
use Rattle.std.proofs.Common.{◌≡◌, ℕ, ◌+◌, Bool, true, false, not, ◌||◌, nat_eq, List, [], ◌∷◌, ◌++◌, map, Option, Some, None, refl, sym, ap, ap₂, ◌∙◌, subst, append_assoc, append-nil, arith}
use Rattle.std.specs.Prelude.{if◌then◌else◌}
use Rattle.std.proofs.lemmas.Bool.Decides.{nat_tests}
use Rattle.std.proofs.lemmas.List.Folds.{list_any-append}
use Rattle.rp_span.specs.declared.Span.{Span}
use Rattle.rp_grammar.specs.Trees.{Ident, TypeTree, ParamTree, CrdtTree, CrdtForm, FieldTree, FieldTrees, ConTree, QueryTree, DeclForm, DeclTree}
use Rattle.rp_ast.specs.declared.crdt.CrdtNode.{CrdtNode}
use Rattle.rp_ast.specs.View.{crdt_form_view, crdt_view}
use Rattle.rp_ast.proofs.TypeViews.{crdt_view-parts}
use Rattle.type_rules.specs.declared.fault.Fault.{Fault}
use Rattle.type_rules.specs.declared.role.Role.{Role}
use Rattle.type_rules.specs.declared.role.Role.TheVariants as role
use Rattle.type_rules.specs.Names.{Name, Names, is_among, param_name, same_name, text_of}
use Rattle.type_rules.specs.Sites.{Site}
use Rattle.type_rules.specs.DeclSites.{con_sites, crdt_form_sites, crdt_sites, field_names, fields_sites, named_all, query_sites, result_sites, written_all}
use Rattle.type_rules.specs.TextSites.{Seen, decl_sites, inner_sites, is_number_of, name_sites, names_in, used, used_from, with_decl, with_query}
use Rattle.type_rules.specs.Faults.{first, is_before, judged, keep, sooner}
use Rattle.type_rules.proofs.Order.{assoc, first_append, sooner_none, yes, no}
use Rattle.type_tables.specs.Marks.{with_marks}
use Rattle.type_tables.specs.Tables.{Entries}
use Rattle.type_terms.specs.Views.{IsTableOf}
use Rattle.type_faults.specs.Texts.{AreNamed, AreSeen, Differ, inner_from, named_from, seen_with, used_with}
use Rattle.type_faults.specs.declared.names.Seen as code_seen
use Rattle.type_faults.proofs.Walked.{used_append}

-- # The sooner of two faults, whichever comes first

one_way : (x y : Fault) → is_before y x ≡ true → is_before x y ≡ false
one_way x y h = grind (arith, nat_tests)

neither : (x y : Fault) → is_before x y ≡ false → is_before y x ≡ false → x ≡ y
neither x y h k =
    let a : x.span.from ≡ y.span.from = grind (arith, nat_tests) in
    let b : x.rule ≡ y.rule = grind (arith, nat_tests) in
    let c : x.span.to ≡ y.span.to = grind (arith, nat_tests) in
    let place : ℕ → ℕ → Span = λ from to. record { from = from; to = to } in
    let made : ℕ → Span → Fault = λ rule span. record { rule = rule; span = span } in
    ap₂ made b (ap₂ place a c)

keep_comm : (x y : Fault) (p q : Bool) → is_before y x ≡ p → is_before x y ≡ q → keep x y ≡ keep y x
keep_comm x y true q a b = yes x y a ∙ sym (no y x (one_way x y a))
keep_comm x y false true a b = no x y a ∙ sym (yes y x b)
keep_comm x y false false a b = no x y a ∙ neither x y b a ∙ sym (no y x b)

sooner_comm : (a b : Option Fault) → sooner a b ≡ sooner b a
sooner_comm None None = refl
sooner_comm None (Some y) = refl
sooner_comm (Some x) None = refl
sooner_comm (Some x) (Some y) = ap Some (keep_comm x y _ _ refl refl)

swapped : (a b c d : Option Fault) → sooner a (sooner b (sooner c d)) ≡ sooner (sooner a c) (sooner b d)
swapped a b c d =
    ap (sooner a) (sym (assoc b c d) ∙ ap (λ o. sooner o d) (sooner_comm b c) ∙ assoc c b d) ∙ sym (assoc a c (sooner b d))

-- # Places that use no query

pub named_unused : (n : Names) (before : List Name) (xs : List Ident) → used n (named_all before xs) ≡ []
named_unused n before [] = refl
named_unused n before (x ∷ xs) = named_unused n (text_of x ∷ before) xs

pub written_unused : (n : Names) (k : ℕ) (r : Role) (params : List ParamTree) → used n (written_all k r params) ≡ []
written_unused n k r [] = refl
written_unused n k r (p ∷ params) = written_unused n k r params

pub result_unused : (n : Names) (k : ℕ) (t : Option TypeTree) → used n (result_sites k t) ≡ []
result_unused n k None = refl
result_unused n k (Some t) = refl

pub con_unused : (n : Names) (k : ℕ) (cons : List ConTree) → used n (con_sites k cons) ≡ []
con_unused n k [] = refl
con_unused n k (ConTree.con x params ∷ cons) =
    let names = named_all [] (map param_name params) in
    let written = written_all k role.Field params in
    used_append n (names ++ written) (con_sites k cons)
    ∙ ap₂ (λ a b. a ++ b)
    (used_append n names written ∙ ap₂ (λ a b. a ++ b) (named_unused n [] (map param_name params)) (written_unused n k role.Field params))
    (con_unused n k cons)

mutual
  pub crdt_unused : (n : Names) (k : ℕ) (c : CrdtTree) → used n (crdt_sites k c) ≡ []
  crdt_unused n k (CrdtTree.node at form) = form_unused n k form

  form_unused : (n : Names) (k : ℕ) (form : CrdtForm) → used n (crdt_form_sites k form) ≡ []
  form_unused n k (CrdtForm.set_aw t) = refl
  form_unused n k (CrdtForm.set_rw t) = refl
  form_unused n k (CrdtForm.reg t) = refl
  form_unused n k (CrdtForm.mv_reg t) = refl
  form_unused n k CrdtForm.counter = refl
  form_unused n k (CrdtForm.map_uw t c) = crdt_unused n k c
  form_unused n k (CrdtForm.map_dw t c) = crdt_unused n k c
  form_unused n k (CrdtForm.struct parts) =
      used_append n (named_all [] (field_names parts)) (fields_sites k parts)
      ∙ ap₂ (λ a b. a ++ b) (named_unused n [] (field_names parts)) (fields_unused n k parts)

  fields_unused : (n : Names) (k : ℕ) (parts : FieldTrees) → used n (fields_sites k parts) ≡ []
  fields_unused n k FieldTrees.no_fields = refl
  fields_unused n k (FieldTrees.more_fields (FieldTree.field x c) parts) =
      used_append n (crdt_sites k c) (fields_sites k parts) ∙ ap₂ (λ a b. a ++ b) (crdt_unused n k c) (fields_unused n k parts)

-- # Names one behind another

-- the names so far have this first fault; with the rest they are all
pub record NamedSo (n : Names) (table : Entries) (best : Option Fault) (before : List Name) (rest all : List Ident) : Type 0 where
  pub now : List Name
  pub table_is : IsTableOf table now
  pub whole : sooner best (first n (named_all now rest)) ≡ first n (named_all before all)
  pub names_are : seen_with now rest ≡ seen_with before all

pub named_started : {n : Names} {table : Entries} {before : List Name} {all : List Ident} → IsTableOf table before
    → NamedSo n table None before all all
named_started {before = before} t = record { now = before; table_is = t; whole = refl; names_are = refl }

pub named_next : {n : Names} {table more : Entries} {best f h : Option Fault} {before : List Name} {x : Ident} {rest all : List Ident}
    (v : NamedSo n table best before (x ∷ rest) all) → Differ n more v.now f (x ∷ []) → h ≡ sooner best f
    → NamedSo n more h before rest all
named_next {n} {table} {more} {best} {f} {h} {before} {x} {rest} {all} v d e =
    let own = judged n (Site.named v.now x) in
    let next = first n (named_all (text_of x ∷ v.now) rest) in
    record {
      now = text_of x ∷ v.now;
      table_is = d.table_is;
      whole = ap (λ o. sooner o next) (e ∙ ap (sooner best) (d.fault_is ∙ sooner_none own)) ∙ assoc best own next ∙ v.whole;
      names_are = v.names_are;
    }

pub named_ended : {n : Names} {table : Entries} {best : Option Fault} {before : List Name} {all : List Ident}
    → NamedSo n table best before [] all → Differ n table before best all
named_ended {table = table} {best = best} v = record {
  fault_is = sym (sooner_none best) ∙ v.whole;
  table_is = subst (IsTableOf table) v.names_are v.table_is;
}

-- the same names are seen
seen_among : (y : Name) (before : List Name) (own : List Ident) → is_among y (seen_with before own) ≡ is_among y (names_in own ++ before)
seen_among y before [] = refl
seen_among y before (x ∷ own) =
    seen_among y (text_of x ∷ before) own
    ∙ list_any-append (same_name y) (names_in own) (text_of x ∷ before)
    ∙ by (is_among y (names_in own)) (same_name y (text_of x)) (is_among y before)
    ∙ ap (λ b. same_name y (text_of x) || b) (sym (list_any-append (same_name y) (names_in own) before))
  where
    by : (a b c : Bool) → (a || (b || c)) ≡ (b || (a || c))
    by true true c = refl
    by true false c = refl
    by false b c = refl

pub seen_table : (table : Entries) (before : List Name) (own : List Ident) → IsTableOf table (seen_with before own)
    → IsTableOf table (names_in own ++ before)
seen_table table before own t = λ y. t y ∙ seen_among y before own

pub record DeclsNamed (n : Names) (tables : code_seen.Seen) (best : Option Fault) (start : Seen) (rest all : List DeclTree) : Type 0 where
  pub now : Seen
  pub are : AreSeen tables now
  pub whole : sooner best (first n (named_from now rest)) ≡ first n (named_from start all)

pub decls_named : {n : Names} {tables more : code_seen.Seen} {best f h : Option Fault} {start : Seen} {at : Span} {form : DeclForm} {rest all : List DeclTree}
    (v : DeclsNamed n tables best start (DeclTree.node at form ∷ rest) all) → AreNamed n more v.now f form → h ≡ sooner best f
    → DeclsNamed n more h start rest all
decls_named {n} {tables} {more} {best} {f} {h} {start} {at} {form} {rest} {all} v d e =
    let own = first n (name_sites v.now form) in
    let next = first n (named_from (with_decl v.now form) rest) in
    record {
      now = with_decl v.now form;
      are = d.tables_are;
      whole = ap (λ o. sooner o next) (e ∙ ap (sooner best) d.fault_is) ∙ assoc best own next
          ∙ ap (sooner best) (sym (first_append n (name_sites v.now form) (named_from (with_decl v.now form) rest))) ∙ v.whole;
    }

-- # Declarations

-- names first, and then what stands inside
pub names_apart : (n : Names) (seen : Seen) (k : ℕ) (ds : List DeclTree)
    → sooner (first n (named_from seen ds)) (first n (inner_from n k ds)) ≡ first n (decl_sites n seen k ds)
names_apart n seen k [] = refl
names_apart n seen k (DeclTree.node at form ∷ ds) =
    let own = name_sites seen form in
    let names = named_from (with_decl seen form) ds in
    let inside = inner_sites n k (used_from n (k + 1) ds) form in
    let next = inner_from n (k + 1) ds in
    let rest = decl_sites n (with_decl seen form) (k + 1) ds in
    ap₂ sooner (first_append n own names) (first_append n inside next)
    ∙ sym (swapped (first n own) (first n inside) (first n names) (first n next))
    ∙ ap (λ o. sooner (first n own) (sooner (first n inside) o)) (names_apart n (with_decl seen form) (k + 1) ds)
    ∙ ap (sooner (first n own)) (sym (first_append n inside rest))
    ∙ sym (first_append n own (inside ++ rest)) ∙ ap (first n) (sym (append_assoc own inside rest))

pub used_is : (n : Names) (k : ℕ) (at : Span) (form : DeclForm) (ds : List DeclTree)
    → used_from n k (DeclTree.node at form ∷ ds) ≡ used_with n k form (used_from n (k + 1) ds)
used_is n k at (DeclForm.id_type x) ds = refl
used_is n k at (DeclForm.opaque x) ds = refl
used_is n k at (DeclForm.datatype x cons) ds = refl
used_is n k at (DeclForm.crdt x c) ds = refl
used_is n k at (DeclForm.query q) ds = refl
used_is n k at (DeclForm.invariant x e) ds = refl
used_is n k at (DeclForm.proc p) ds = refl

or_comm : (a b : Bool) → (a || b) ≡ (b || a)
or_comm true true = refl
or_comm true false = refl
or_comm false true = refl
or_comm false false = refl

or_false : (a : Bool) → (a || false) ≡ a
or_false true = refl
or_false false = refl

-- the marks behind a procedure
pub proc_marked : (u v : ℕ → Bool) (own behind : List ℕ) → ((i : ℕ) → u i ≡ is_number_of i behind) → v ≡ with_marks true own u
    → (i : ℕ) → v i ≡ is_number_of i (own ++ behind)
proc_marked u v own behind was e i =
    ap (λ (v : ℕ → Bool). v i) e ∙ ap (λ b. b || is_number_of i own) (was i)
    ∙ or_comm (is_number_of i behind) (is_number_of i own) ∙ sym (list_any-append (nat_eq i) own behind)

-- where no marks are made
pub none_new : (u v : ℕ → Bool) (own behind : List ℕ) → ((i : ℕ) → u i ≡ is_number_of i behind) → v ≡ with_marks false own u
    → (i : ℕ) → v i ≡ is_number_of i behind
none_new u v own behind was e i = ap (λ (v : ℕ → Bool). v i) e ∙ or_false (u i) ∙ was i

-- behind a query, which makes marks where it is used itself
pub query_marked : (n : Names) (k : ℕ) (q : QueryTree) (behind : List ℕ) (u v : ℕ → Bool) (words : Bool)
    → ((i : ℕ) → u i ≡ is_number_of i behind) → words ≡ not (is_number_of k behind)
    → v ≡ with_marks (not words) (used n (query_sites n k words q)) u
    → (i : ℕ) → v i ≡ is_number_of i (with_query n k q behind)
query_marked n k q behind u v words was w e i = by (is_number_of k behind) refl
  where
    by : (b : Bool) → is_number_of k behind ≡ b → v i ≡ is_number_of i (with_query n k q behind)
    by true h =
        proc_marked u v (used n (query_sites n k false q)) behind was
        (e ∙ ap (λ w. with_marks (not w) (used n (query_sites n k w q)) u) (w ∙ ap not h)) i
        ∙ ap (λ b. is_number_of i (if b then used n (query_sites n k false q) ++ behind else behind)) (sym h)
    by false h =
        none_new u v (used n (query_sites n k true q)) behind was
        (e ∙ ap (λ w. with_marks (not w) (used n (query_sites n k w q)) u) (w ∙ ap not h)) i
        ∙ ap (λ b. is_number_of i (if b then used n (query_sites n k false q) ++ behind else behind)) (sym h)

-- the best so far and the first of the rest are the first of all: one step further
pub best_next : (best own next : Option Fault) {h whole rest : Option Fault} → sooner best rest ≡ whole → rest ≡ sooner own next → h ≡ sooner best own
    → sooner h next ≡ whole
best_next best own next before split e =
    ap (λ o. sooner o next) e ∙ assoc best own next ∙ ap (sooner best) (sym split) ∙ before

pub best_ended : (best : Option Fault) {whole rest : Option Fault} → sooner best rest ≡ whole → rest ≡ None → best ≡ whole
best_ended best before e = sym (sooner_none best) ∙ ap (sooner best) (sym e) ∙ before

-- of constructors, the first and then the others
pub con_split : (n : Names) (k : ℕ) (con : ConTree) (cons : List ConTree)
    → first n (con_sites k (con ∷ cons)) ≡ sooner (first n (con_sites k (con ∷ []))) (first n (con_sites k cons))
con_split n k (ConTree.con x params) cons =
    let names = named_all [] (map param_name params) in
    let written = written_all k role.Field params in
    let own = con_sites k (ConTree.con x params ∷ []) in
    let same : own ++ con_sites k cons ≡ con_sites k (ConTree.con x params ∷ cons) =
    ap (λ l. l ++ con_sites k cons) (append-nil (names ++ written)) in
    ap (first n) (sym same) ∙ first_append n own (con_sites k cons)

pub con_parts : (n : Names) (k : ℕ) (x : Ident) (params : List ParamTree)
    → first n (con_sites k (ConTree.con x params ∷ []))
    ≡ sooner (first n (named_all [] (map param_name params))) (first n (written_all k role.Field params))
con_parts n k x params =
    let names = named_all [] (map param_name params) in
    let written = written_all k role.Field params in
    ap (first n) (append-nil (names ++ written)) ∙ first_append n names written

-- # Replicated types

pub crdt_form_is : (n : Names) (k : ℕ) (c : CrdtNode) {form : CrdtForm} → crdt_form_view c.what ≡ form
    → first n (crdt_sites k (crdt_view c)) ≡ first n (crdt_form_sites k form)
crdt_form_is n k c e = ap (λ t. first n (crdt_sites k t)) (crdt_view-parts c) ∙ ap (λ form. first n (crdt_form_sites k form)) e

pub one_written : (n : Names) (k : ℕ) (t : TypeTree) → judged n (Site.written k role.Field t) ≡ first n (Site.written k role.Field t ∷ [])
one_written n k t = sym (sooner_none (judged n (Site.written k role.Field t)))
