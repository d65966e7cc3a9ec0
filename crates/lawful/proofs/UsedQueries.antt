-- What the use of a query calls is typed as it is asked.
use Rattle.std.proofs.Common.{◌≡◌, ◌+◌, ℕ, suc, true, List, [], ◌∷◌, ◌++◌, map, length, Some, refl, subst, sym, arith, inl, inr}
use Rattle.std.specs.Prelude.{slice_get}
use Rattle.std.specs.List.{AllByRecursion}
use Rattle.rp_span.specs.declared.Span.{Span}
use Rattle.rp_value.specs.declared.tables.Ty.{Ty}
use Rattle.rp_grammar.specs.Trees.{Ident, TypeTree, ParamTree, ExprTree, StepTrees, ConTree, QueryTree, ProcTree, DeclForm, DeclTree}
use Rattle.rp_lang.specs.Exprs.{Ex}
use Rattle.rp_lang.specs.Programs.{Prog}
use Rattle.rp_grammar.proofs.Formed.{FormedDecls}
use Rattle.rp_grammar.proofs.FormedTexts.{Lexable}
use Rattle.type_rules.specs.declared.kind.Kind.{Kind}
use Rattle.type_rules.specs.declared.role.Role.{Role}
use Rattle.type_rules.specs.declared.role.Role.TheVariants as role
use Rattle.type_rules.specs.Names.{Name, Entry, Declared, text_of, param_name, param_type, types_in, con_entry, entries_in, entries_from, entry_named}
use Rattle.type_rules.specs.Kinds.{kind_of, param_kinds}
use Rattle.type_rules.specs.Accesses.{Access, alone, of_entry}
use Rattle.type_rules.specs.Queries.{names_of}
use Rattle.type_rules.specs.Sites.{Site}
use Rattle.type_rules.specs.DeclSites.{named_all, written_all, declares_all, param_sites, query_sites}
use Rattle.type_rules.specs.TextSites.{nothing_seen}
use Rattle.type_rules.specs.Rules.{rules, rule, rule02, is_query}
use Rattle.type_rules.specs.Faults.{IsOneOf, IsLawful}
use Rattle.desugaring.specs.Parts.{each}
use Rattle.desugaring.specs.Appearances.{site_kinds}
use Rattle.desugaring.specs.Tables.{Tables, tables_of, ty_of}
use Rattle.desugaring.specs.Callees.{Vars, Called, of_access}
use Rattle.desugaring.proofs.Options.{both_is}
use Rattle.lawful.specs.Kept.{has_number, may_speak}
use Rattle.lawful.specs.Typed.{IsCall, IsKnown, Along}
use Rattle.lawful.proofs.Forms.{one}
use Rattle.lawful.proofs.Distinct.{at_place, all_changed}
use Rattle.lawful.proofs.Places.{Lawfully, all_parts, all_both, all_lawful, all_kept, is_one_of}
use Rattle.lawful.proofs.Entries.{entries_are, entry_there}
use Rattle.lawful.proofs.Constructors.{entry_of}
use Rattle.lawful.proofs.TextNumbers.{decl_numbers}
use Rattle.lawful.proofs.Behind.{query_there}
use Rattle.lawful.proofs.Quiet.{body_sites, body_there, body_quiet}
use Rattle.lawful.proofs.Listed.{in_left, in_right, in_flat}
use Rattle.lawful.proofs.WrittenTypes.{written_known}

-- # Queries stand where their entries say

abbrev pub IsQueryIn : ℕ → List DeclTree → ℕ → Declared → Type 0
IsQueryIn k ds decl (Declared.query q) = (i : ℕ) × (at : Span) × (k + i ≡ decl) × (slice_get ds i ≡ Some (DeclTree.node at (DeclForm.query q)))
IsQueryIn k ds decl (Declared.root c) = Unit {0}
IsQueryIn k ds decl (Declared.proc p) = Unit {0}
IsQueryIn k ds decl (Declared.con type c) = Unit {0}

abbrev pub EntryIn : ℕ → List DeclTree → Entry → Type 0
EntryIn k ds e = IsQueryIn k ds e.decl e.what

pub one_further : (k : ℕ) (d : DeclTree) (ds : List DeclTree) (decl : ℕ) (what : Declared) → IsQueryIn (k + 1) ds decl what → IsQueryIn k (d ∷ ds) decl what
one_further k d ds decl (Declared.query q) is =
    let number : k + suc is.0 ≡ decl = omega (arith, is.2) in (suc is.0, is.1, number, is.3)
one_further k d ds decl (Declared.root c) is = tt
one_further k d ds decl (Declared.proc p) is = tt
one_further k d ds decl (Declared.con type c) is = tt

cons_pass : (k type : ℕ) (ds : List DeclTree) (cons : List ConTree) → AllByRecursion (EntryIn k ds) (map (con_entry k type) cons)
cons_pass k type ds [] = tt
cons_pass k type ds (c ∷ cons) = (tt, cons_pass k type ds cons)

first_in : (k type : ℕ) (at : Span) (form : DeclForm) (ds : List DeclTree)
    → AllByRecursion (EntryIn k (DeclTree.node at form ∷ ds)) (entries_in k type (DeclTree.node at form))
first_in k type at (DeclForm.id_type x) ds = tt
first_in k type at (DeclForm.opaque x) ds = tt
first_in k type at (DeclForm.datatype x cons) ds = cons_pass k type (DeclTree.node at (DeclForm.datatype x cons) ∷ ds) cons
first_in k type at (DeclForm.crdt x c) ds = (tt, tt)
first_in k type at (DeclForm.query (QueryTree.query x params result body)) ds =
    let number : k + 0 ≡ k = omega arith in ((0, at, number, refl), tt)
first_in k type at (DeclForm.invariant x e) ds = tt
first_in k type at (DeclForm.proc (ProcTree.proc x params result body)) ds = (tt, tt)

all_in : (k type : ℕ) (ds : List DeclTree) → AllByRecursion (EntryIn k ds) (entries_from k type ds)
all_in k type [] = tt
all_in k type (DeclTree.node at form ∷ ds) =
    let d = DeclTree.node at form in
    let later = entries_from (k + 1) (type + length (types_in k d)) ds in
    all_both (EntryIn k (d ∷ ds)) (entries_in k type d) later (first_in k type at form ds)
    (all_changed (EntryIn (k + 1) ds) (EntryIn k (d ∷ ds)) later (λ e is. one_further k d ds e.decl e.what is) (all_in (k + 1) (type + length (types_in k d)) ds))

pub entries_in_text : (tree : List DeclTree) → AllByRecursion (EntryIn 0 tree) (names_of tree).entries
entries_in_text tree = subst (AllByRecursion (EntryIn 0 tree)) (sym (entries_are tree)) (all_in 0 0 tree)

-- # Types of parameters and results are known

abbrev pub Stands : List DeclTree → ℕ → Span → QueryTree → Type 0
Stands tree m at q = slice_get tree m ≡ Some (DeclTree.node at (DeclForm.query q))

pub site_known : (tree : List DeclTree) (m : ℕ) (at : Span) (q : QueryTree) → Stands tree m at q → (r : Role) (written : TypeTree)
    → IsOneOf (Site.written m r written) (query_sites (names_of tree) m true q) → Lawfully (names_of tree) (Site.written m r written)
    → IsKnown (tables_of tree) (kind_of (names_of tree) written)
site_known tree m at q there r written among law =
    let n = names_of tree in
    written_known tree m at (DeclForm.query q) written there
    (λ c part before. in_flat (site_kinds n) (query_sites n m true q) (Site.written m r written) c among part)
    (law (rule 2 rule02) (is_one_of rules 1 _ refl))

pub params_known : (tree : List DeclTree) (m : ℕ) (at : Span) (q : QueryTree) → Stands tree m at q → (params : List ParamTree)
    → AllByRecursion (Lawfully (names_of tree)) (written_all m role.QueryParam params)
    → ((s : Site) → IsOneOf s (written_all m role.QueryParam params) → IsOneOf s (query_sites (names_of tree) m true q))
    → AllByRecursion (IsKnown (tables_of tree)) (param_kinds (names_of tree) params)
params_known tree m at q there [] laws among = tt
params_known tree m at q there (p ∷ params) laws among = (
  site_known tree m at q there role.QueryParam (param_type p) (among (Site.written m role.QueryParam (param_type p)) (inl refl)) laws.0,
  params_known tree m at q there params laws.1 (λ s h. among s (inr h)),
)

each_known : (t : Tables) (ks : List Kind) → AllByRecursion (IsKnown t) ks → (tys : List Ty) × (each (ty_of t) ks ≡ Some tys)
each_known t [] all = ([], refl)
each_known t (k ∷ ks) all =
    let r = each_known t ks all.1 in
    (all.0.0 ∷ r.0, both_is ◌∷◌ (ty_of t k) (each (ty_of t) ks) all.0.0 r.0 all.0.1 r.1)

pub record IsQueryKnown (tree : List DeclTree) (params : List ParamTree) (written : TypeTree) : Type 0 where
  pub tys : List Ty
  pub are : each (ty_of (tables_of tree)) (param_kinds (names_of tree) params) ≡ Some tys
  pub result : IsKnown (tables_of tree) (kind_of (names_of tree) written)

pub query_known : (tree : List DeclTree) → IsLawful tree → (m : ℕ) (at : Span) (name : Ident) (params : List ParamTree) (result : TypeTree) (body : ExprTree)
    → Stands tree m at (QueryTree.query name params result body) → IsQueryKnown tree params result
query_known tree lawful m at name params result body there =
    let n = names_of tree in
    let q = QueryTree.query name params result body in
    let names = named_all [] (map param_name params) ++ declares_all n [] params in
    let front = param_sites n m role.QueryParam params in
    let behind = Site.written m role.QueryResult result ∷ body_sites tree m true params result body in
    let laws = all_parts (Lawfully n) front _ (query_there (Lawfully n) tree (all_lawful tree lawful) m at q there) in
    let written = (all_parts (Lawfully n) names (written_all m role.QueryParam params) laws.0).1 in
    let kinds = params_known tree m at q there params written
    (λ s h. in_left s front behind (in_right s names (written_all m role.QueryParam params) h)) in
    let types = each_known (tables_of tree) (param_kinds n params) kinds in
    record {
      tys = types.0;
      are = types.1;
      result = site_known tree m at q there role.QueryResult result
          (in_right (Site.written m role.QueryResult result) front behind (inl refl)) laws.1.0;
    }

-- # Uses

use_called : (tree : List DeclTree) (p : Prog) → IsLawful tree → FormedDecls Lexable tree
    → (vs : Vars) (x : Ident) (steps : StepTrees) (name : Name) (m : ℕ) (at : Span) (q : QueryTree) → Stands tree m at q
    → (c : Called Ex) → of_access (tables_of tree) vs x steps (alone x steps (Access.use_of m q)) ≡ Some c
    → IsCall (tables_of tree) p (may_speak tree) (Some (entry_of name m (Declared.query q))) x steps c
use_called tree p lawful formed vs x (StepTrees.more_steps s steps) name m at q there c e = absurd cc
use_called tree p lawful formed vs x StepTrees.no_steps name m at (QueryTree.query own params result body) there c e =
    let n = names_of tree in
    let q = QueryTree.query own params result body in
    let is = query_known tree lawful m at own params result body there in
    let laws = body_there (Lawfully n) tree (all_lawful tree lawful) m at own params result body there in
    let numbers = body_there (λ s. has_number s ≡ true) tree (decl_numbers Lexable (λ i h. h) n nothing_seen 0 tree formed) m at own params result body there in
    let quiet = body_quiet tree lawful m at own params result body there in
    subst (IsCall (tables_of tree) p (may_speak tree) (Some (entry_of name m (Declared.query q))) x StepTrees.no_steps) (one e) (record {
      along = Along.ends;
      args = refl;
      tys = is.tys;
      are = is.are;
      gives = (refl, refl, refl, is.result, all_kept n (may_speak tree) (body_sites tree m (may_speak tree m) params result body) laws numbers quiet);
    })

entry_called : (tree : List DeclTree) (p : Prog) → IsLawful tree → FormedDecls Lexable tree
    → (vs : Vars) (x : Ident) (steps : StepTrees) (name : Name) (decl : ℕ) (what : Declared) → IsQueryIn 0 tree decl what → is_query what ≡ true
    → (c : Called Ex) → of_access (tables_of tree) vs x steps (of_entry (names_of tree) x steps (Some (entry_of name decl what))) ≡ Some c
    → IsCall (tables_of tree) p (may_speak tree) (Some (entry_of name decl what)) x steps c
entry_called tree p lawful formed vs x steps name decl (Declared.query q) is query c e =
    let number : is.0 ≡ decl = omega (arith, is.2) in
    use_called tree p lawful formed vs x steps name decl is.1 q (subst (λ i. slice_get tree i ≡ Some (DeclTree.node is.1 (DeclForm.query q))) number is.3) c e
entry_called tree p lawful formed vs x steps name decl (Declared.root r) is query c e = absurd cc
entry_called tree p lawful formed vs x steps name decl (Declared.proc q) is query c e = absurd cc
entry_called tree p lawful formed vs x steps name decl (Declared.con type kind) is query c e = absurd cc

-- a use of a query of the text, by its entry
pub query_called : (tree : List DeclTree) (p : Prog) → IsLawful tree → FormedDecls Lexable tree
    → (vs : Vars) (x : Ident) (steps : StepTrees) (c : Called Ex) (e : Entry) → entry_named (names_of tree) (text_of x) ≡ Some e → is_query e.what ≡ true
    → of_access (tables_of tree) vs x steps (of_entry (names_of tree) x steps (Some e)) ≡ Some c
    → IsCall (tables_of tree) p (may_speak tree) (Some e) x steps c
query_called tree p lawful formed vs x steps c e found query called =
    let s = entry_there (names_of tree).entries (text_of x) e found in
    entry_called tree p lawful formed vs x steps e.name e.decl e.what
    (at_place (EntryIn 0 tree) (names_of tree).entries s.place e (entries_in_text tree) s.there) query c called
