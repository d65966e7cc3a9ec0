-- Constructors and procedures that are called, by their entries.
use Rattle.std.proofs.Common.{◌≡◌, ◌+◌, ℕ, zero, suc, Bool, true, List, [], ◌∷◌, ◌++◌, map, length, get_or, Option, Some, None, refl, ap, subst, sym, ◌∙◌}
use Rattle.std.specs.Prelude.{slice_get, option_map, filter_map}
use Rattle.std.specs.List.{AllByRecursion, cons_option}
use Rattle.std.proofs.lemmas.Option.{slice_get-map, slice_get-get_or}
use Rattle.std.proofs.lemmas.Cmp.{nat_list_eq_equiv}
use Rattle.std.proofs.lemmas.List.Elements.{filter_map-append}
use Rattle.std.proofs.lemmas.List.Quantifiers.{position-Some}
use Rattle.rp_value.specs.declared.tables.Ty.{Ty}
use Rattle.rp_grammar.specs.Trees.{Ident, TypeTree, ConTree, QueryTree, ProcTree, StepTree, StepTrees, DeclForm, DeclTree}
use Rattle.rp_lang.specs.Exprs.{Ex}
use Rattle.rp_lang.specs.Programs.{Prog, Proc}
use Rattle.rp_lang.specs.Types.{fields_of}
use Rattle.rp_lang.specs.Typing as typing
use Rattle.type_rules.specs.declared.kind.Base.TheVariants as base
use Rattle.type_rules.specs.Names.{Name, Names, Entry, Declared, same_name, text_of, con_name, con_fields, con_entry, types_in, entries_from}
use Rattle.type_rules.specs.Kinds.{plain_kind, param_kinds, kind_of}
use Rattle.type_rules.specs.Accesses.{of_entry, of_proc, proc_params, proc_result, result_args}
use Rattle.type_rules.specs.Queries.{names_of}
use Rattle.type_rules.specs.Matches.{con_case, cases_of, case_named, case_fields, declared_cases, sort_cases}
use Rattle.type_rules.specs.Faults.{IsLawful}
use Rattle.desugaring.specs.Parts.{each, Pointwise, no_members, more_members}
use Rattle.desugaring.specs.Tables.{Tables, con_table, con_number, proc_name, proc_in, proc_number, tables_of, ty_of}
use Rattle.desugaring.specs.Callees.{Vars, Called, taking, constructor, procedure, outcome, of_access}
use Rattle.desugaring.specs.Programs.{ProcDecl, procs_from, IsProc, result_ty}
use Rattle.desugaring.proofs.Options.{map_there}
use Rattle.lawful.specs.Typed.{IsCall, Along, IsOutcome}
use Rattle.lawful.proofs.Forms.{one}
use Rattle.lawful.proofs.Cons.{con_is}
use Rattle.lawful.proofs.Distinct.{at_place, unique}
use Rattle.lawful.proofs.Arms.{CasesDiffer, flipped, same_text}
use Rattle.lawful.proofs.Entries.{IsConOf, found_case, entry_name, names_differ, entries_are}

abbrev pub entry_of : Name → ℕ → Declared → Entry
entry_of name decl what = record { name = name; decl = decl; what = what }

-- # Constructors

fields_are : (n : Names) → CasesDiffer n → (type : ℕ) (c : ConTree) → IsConOf n.types (Declared.con type c)
    → case_fields (case_named (cases_of n (plain_kind (base.Declared type))) (text_of (con_name c))) ≡ param_kinds n (con_fields c)
fields_are n differ type c is =
    let cases : cases_of n (plain_kind (base.Declared type)) ≡ Some (map (con_case n) is.1) = ap (declared_cases n) is.2 ∙ ap (sort_cases n) is.3 in
    let at : slice_get (map (con_case n) is.1) is.4.0 ≡ Some (con_case n c) = slice_get-map (con_case n) is.1 is.4.0 ∙ ap (option_map (con_case n)) is.4.1 in
    ap (λ o. case_fields (case_named o (text_of (con_name c)))) cases
    ∙ ap case_fields (found_case (map (con_case n) is.1) is.4.0 (con_case n c) (differ (plain_kind (base.Declared type)) (map (con_case n) is.1) cases) at)

pub con_called : (t : Tables) (p : Prog) (words : ℕ → Bool) → con_table t ≡ Some p.cons → CasesDiffer t.names
    → (vs : Vars) (x : Ident) (steps : StepTrees) (name : Name) (decl type : ℕ) (c : ConTree) → IsConOf t.names.types (Declared.con type c)
    → (called : Called Ex) → of_access t vs x steps (of_entry t.names x steps (Some (entry_of name decl (Declared.con type c)))) ≡ Some called
    → IsCall t p words (Some (entry_of name decl (Declared.con type c))) x steps called
con_called t p words table differ vs x (StepTrees.more_steps s steps) name decl type c is called e = absurd cc
con_called t p words table differ vs x StepTrees.no_steps name decl type c is called e =
    map_there (IsCall t p words (Some (entry_of name decl (Declared.con type c))) x StepTrees.no_steps) (λ k. taking [] (param_kinds t.names (con_fields c)) (constructor k))
    (con_number t (plain_kind (base.Declared type)) (text_of (con_name c))) called e (λ k found.
    let con = con_is t p table (plain_kind (base.Declared type)) (text_of (con_name c)) k found in
    record {
      along = Along.ends;
      args = refl;
      tys = fields_of p.cons k;
      are = subst (λ ks. each (ty_of t) ks ≡ Some (fields_of p.cons k)) (fields_are t.names differ type c is) con.fields;
      gives = (con.ty, con.made, con.same, refl);
    })

-- # Procedures

pub some_part : {X Y : Type 0} (h : X → Option Y) (xs : List X) (k : ℕ) (y : Y) → slice_get (filter_map h xs) k ≡ Some y
    → (i : ℕ) × (x : X) × (slice_get xs i ≡ Some x) × (h x ≡ Some y)
some_part h [] k y e = absurd cc
some_part {X} {Y} h (x ∷ xs) k y e = by_part h x xs k y (h x) refl e (λ j. some_part h xs j y) where
  by_part : {X Y : Type 0} (h : X → Option Y) (x : X) (xs : List X) (k : ℕ) (y : Y) (o : Option Y) → h x ≡ o
      → slice_get (cons_option o (filter_map h xs)) k ≡ Some y
      → ((j : ℕ) → slice_get (filter_map h xs) j ≡ Some y → (i : ℕ) × (z : X) × (slice_get xs i ≡ Some z) × (h z ≡ Some y))
      → (i : ℕ) × (z : X) × (slice_get (x ∷ xs) i ≡ Some z) × (h z ≡ Some y)
  by_part h x xs k y None is e rest = let r = rest k e in (suc r.0, r.1, r.2, r.3)
  by_part h x xs zero y (Some z) is e rest = (0, x, refl, is ∙ e)
  by_part h x xs (suc k) y (Some z) is e rest = let r = rest k e in (suc r.0, r.1, r.2, r.3)

abbrev pub part_of : Entry → Option ProcTree
part_of e = proc_in e.what

abbrev pub tree_in : ProcDecl → ProcTree
tree_in d = d.tree

no_procs : (k type : ℕ) (cons : List ConTree) → filter_map part_of (map (con_entry k type) cons) ≡ []
no_procs k type [] = refl
no_procs k type (c ∷ cons) = no_procs k type cons

procs_in : (k type : ℕ) (ds : List DeclTree) → filter_map part_of (entries_from k type ds) ≡ map tree_in (procs_from k ds)
procs_in k type [] = refl
procs_in k type (DeclTree.node at (DeclForm.id_type x) ∷ ds) = procs_in (k + 1) _ ds
procs_in k type (DeclTree.node at (DeclForm.opaque x) ∷ ds) = procs_in (k + 1) _ ds
procs_in k type (DeclTree.node at (DeclForm.datatype x cons) ∷ ds) =
    let next = type + length (types_in k (DeclTree.node at (DeclForm.datatype x cons))) in
    filter_map-append part_of (map (con_entry k type) cons) (entries_from (k + 1) next ds)
    ∙ ap (λ ps. ps ++ filter_map part_of (entries_from (k + 1) next ds)) (no_procs k type cons) ∙ procs_in (k + 1) next ds
procs_in k type (DeclTree.node at (DeclForm.crdt x c) ∷ ds) = procs_in (k + 1) _ ds
procs_in k type (DeclTree.node at (DeclForm.query (QueryTree.query x params result body)) ∷ ds) = procs_in (k + 1) _ ds
procs_in k type (DeclTree.node at (DeclForm.invariant x body) ∷ ds) = procs_in (k + 1) _ ds
procs_in k type (DeclTree.node at (DeclForm.proc (ProcTree.proc x params result body)) ∷ ds) =
    ap (λ ps. ProcTree.proc x params result body ∷ ps) (procs_in (k + 1) _ ds)

pub procs_are : (tree : List DeclTree) → (tables_of tree).procs ≡ map tree_in (procs_from 0 tree)
procs_are tree = ap (filter_map part_of) (entries_are tree) ∙ procs_in 0 0 tree

-- a procedure's entry has its name
abbrev pub IsNamed : Entry → Type 0
IsNamed e = by_what e.name e.what where
  by_what : Name → Declared → Type 0
  by_what name (Declared.proc q) = name ≡ proc_name q
  by_what name _ = Unit {0}

pub pointwise_at : {X Y : Type 0} (R : X → Y → Type 0) (xs : List X) (ys : List Y) (i : ℕ) (x : X) → Pointwise R xs ys → slice_get xs i ≡ Some x
    → (y : Y) × (slice_get ys i ≡ Some y) × R x y
pointwise_at R xs ys i x no_members is = absurd cc
pointwise_at R xs ys zero x (more_members {y = y} r rs) is = (y, refl, subst (λ z. R z y) (one is) r)
pointwise_at R xs ys (suc i) x (more_members r rs) is = pointwise_at R _ _ i x rs is

all_named : (k type : ℕ) (ds : List DeclTree) → AllByRecursion IsNamed (entries_from k type ds)
all_named k type [] = tt
all_named k type (DeclTree.node at (DeclForm.id_type x) ∷ ds) = all_named (k + 1) _ ds
all_named k type (DeclTree.node at (DeclForm.opaque x) ∷ ds) = all_named (k + 1) _ ds
all_named k type (DeclTree.node at (DeclForm.datatype x cons) ∷ ds) = with_cons k type cons _ (all_named (k + 1) _ ds) where
  with_cons : (k type : ℕ) (cons : List ConTree) (rest : List Entry) → AllByRecursion IsNamed rest → AllByRecursion IsNamed (map (con_entry k type) cons ++ rest)
  with_cons k type [] rest all = all
  with_cons k type (c ∷ cons) rest all = (tt, with_cons k type cons rest all)
all_named k type (DeclTree.node at (DeclForm.crdt x c) ∷ ds) = (tt, all_named (k + 1) _ ds)
all_named k type (DeclTree.node at (DeclForm.query (QueryTree.query x params result body)) ∷ ds) = (tt, all_named (k + 1) _ ds)
all_named k type (DeclTree.node at (DeclForm.invariant x body) ∷ ds) = all_named (k + 1) _ ds
all_named k type (DeclTree.node at (DeclForm.proc (ProcTree.proc x params result body)) ∷ ds) = (refl, all_named (k + 1) _ ds)

pub entries_named : (tree : List DeclTree) → AllByRecursion IsNamed (names_of tree).entries
entries_named tree = subst (AllByRecursion IsNamed) (sym (entries_are tree)) (all_named 0 0 tree)

-- the procedure of that number is what this procedure became
pub record IsProcedure (t : Tables) (p : Prog) (q : ProcTree) (k : ℕ) : Type 0 where
  pub decl : ProcDecl
  pub proc : Proc
  pub tree : decl.tree ≡ q
  pub there : slice_get p.procs k ≡ Some proc
  pub is : IsProc t decl proc

proc_of : (w : Declared) (q : ProcTree) → proc_in w ≡ Some q → w ≡ Declared.proc q
proc_of (Declared.proc z) q e = ap Declared.proc (one e)
proc_of (Declared.root c) q e = absurd cc
proc_of (Declared.query z) q e = absurd cc
proc_of (Declared.con type c) q e = absurd cc

named_proc : (e : Entry) (q : ProcTree) → IsNamed e → e.what ≡ Declared.proc q → e.name ≡ proc_name q
named_proc e q named is = by_what e.name e.what q named is where
  by_what : (name : Name) (w : Declared) (q : ProcTree) → IsNamed (record { name = name; decl = 0; what = w }) → w ≡ Declared.proc q → name ≡ proc_name q
  by_what name (Declared.proc z) q named is = named ∙ ap (λ w. of_proc_or z w) is where
    of_proc_or : ProcTree → Declared → Name
    of_proc_or z (Declared.proc y) = proc_name y
    of_proc_or z _ = proc_name z
  by_what name (Declared.root c) q named is = absurd cc
  by_what name (Declared.query z) q named is = absurd cc
  by_what name (Declared.con type c) q named is = absurd cc

pub procedure_is : (tree : List DeclTree) (p : Prog) → IsLawful tree → Pointwise (IsProc (tables_of tree)) (procs_from 0 tree) p.procs
    → (i : ℕ) (e : Entry) (q : ProcTree) → slice_get (names_of tree).entries i ≡ Some e → e.what ≡ Declared.proc q
    → (k : ℕ) → proc_number (tables_of tree) (proc_name q) ≡ Some k → IsProcedure (tables_of tree) p q k
procedure_is tree p lawful made i e q there what k number =
    let t = tables_of tree in
    let es = (names_of tree).entries in
    let found = position-Some (λ z. same_name (proc_name z) (proc_name q)) t.procs k q number in
    let at = slice_get-get_or t.procs k q found.0 in
    let first = some_part part_of es k (get_or t.procs k q) at in
    let other : first.1.what ≡ Declared.proc (get_or t.procs k q) = proc_of first.1.what (get_or t.procs k q) first.3 in
    let name : e.name ≡ proc_name q = named_proc e q (at_place IsNamed es i e (entries_named tree) there) what in
    let also : first.1.name ≡ proc_name (get_or t.procs k q) =
    named_proc first.1 (get_or t.procs k q) (at_place IsNamed es first.0 first.1 (entries_named tree) first.2) other in
    let names : first.1.name ≡ e.name = also ∙ same_text _ _ found.1 ∙ sym name in
    let own : same_name e.name e.name ≡ true = nat_list_eq_equiv.refl e.name in
    let place : first.0 ≡ i = unique flipped (map entry_name es) first.0 i first.1.name e.name (names_differ tree lawful)
    (slice_get-map entry_name es first.0 ∙ ap (option_map entry_name) first.2) (slice_get-map entry_name es i ∙ ap (option_map entry_name) there)
    (subst (λ z. same_name e.name z ≡ true) (sym names) own) (subst (λ z. same_name z e.name ≡ true) (sym names) own) in
    let entry : first.1 ≡ e = one (sym first.2 ∙ ap (slice_get es) place ∙ there) in
    let same : get_or t.procs k q ≡ q = one (sym first.3 ∙ ap part_of entry ∙ ap proc_in what) in
    let listed : slice_get (map tree_in (procs_from 0 tree)) k ≡ Some q = ap (λ ps. slice_get ps k) (sym (procs_are tree)) ∙ at ∙ ap Some same in
    let d = map_there (λ z. (d : ProcDecl) × (slice_get (procs_from 0 tree) k ≡ Some d) × (d.tree ≡ z)) tree_in (slice_get (procs_from 0 tree) k) q
    (sym (slice_get-map tree_in (procs_from 0 tree) k) ∙ listed) (λ d h. (d, h, refl)) in
    let r = pointwise_at (IsProc t) (procs_from 0 tree) p.procs k d.0 made d.1 in
    record { decl = d.0; proc = r.0; tree = d.2; there = r.1; is = r.2 }

-- a procedure, or what it returned
pub proc_called : (tree : List DeclTree) (p : Prog) (words : ℕ → Bool) → IsLawful tree → Pointwise (IsProc (tables_of tree)) (procs_from 0 tree) p.procs
    → (vs : Vars) (x : Ident) (steps : StepTrees) (i : ℕ) (name : Name) (decl : ℕ) (q : ProcTree)
    → slice_get (names_of tree).entries i ≡ Some (entry_of name decl (Declared.proc q))
    → (called : Called Ex) → of_access (tables_of tree) vs x steps (of_proc x q steps) ≡ Some called
    → IsCall (tables_of tree) p words (Some (entry_of name decl (Declared.proc q))) x steps called
proc_called tree p words lawful made vs x StepTrees.no_steps i name decl q there called e =
    let t = tables_of tree in
    map_there (IsCall t p words (Some (entry_of name decl (Declared.proc q))) x StepTrees.no_steps) (λ k. taking [] (param_kinds t.names (proc_params q)) (procedure k))
    (proc_number t (proc_name q)) called e (λ k number.
    let is = procedure_is tree p lawful made i _ q there refl k number in
    record {
      along = Along.ends;
      args = refl;
      tys = is.proc.params;
      are = subst (λ z. each (ty_of t) (param_kinds t.names (proc_params z)) ≡ Some is.proc.params) is.tree is.is.params;
      gives = (q, refl, ap typing.is_proc is.there, ap typing.proc_params is.there);
    })
proc_called tree p words lawful made vs x (StepTrees.more_steps (StepTree.returned at) StepTrees.no_steps) i name decl q there called e =
    let t = tables_of tree in
    map_there (IsCall t p words (Some (entry_of name decl (Declared.proc q))) x (StepTrees.more_steps (StepTree.returned at) StepTrees.no_steps)) (λ k. taking [] (result_args t.names (proc_result q)) (outcome k))
    (proc_number t (proc_name q)) called e (λ k number.
    let is = procedure_is tree p lawful made i _ q there refl k number in
    let out = outcome_is t (proc_result q) is.proc.result (subst (λ z. result_ty t (proc_result z) ≡ Some is.proc.result) is.tree is.is.result) in
    record {
      along = Along.returned Along.ends;
      args = refl;
      tys = out.0;
      are = out.1;
      gives = (q, refl, ap typing.is_proc is.there, subst (λ o. IsOutcome o out.0) (sym (ap typing.proc_result is.there)) out.2);
    }) where
      outcome_is : (t : Tables) (o : Option TypeTree) (r : Option Ty) → result_ty t o ≡ Some r
          → (tys : List Ty) × (each (ty_of t) (result_args t.names o) ≡ Some tys) × IsOutcome r tys
      outcome_is t None r e = ([], refl, subst (λ z. IsOutcome z []) (one e) refl)
      outcome_is t (Some ty) r e =
          map_there (λ z. (tys : List Ty) × (each (ty_of t) (kind_of t.names ty ∷ []) ≡ Some tys) × IsOutcome z tys) Some (ty_of t (kind_of t.names ty)) r e
          (λ of h. (of ∷ [], rw h refl, refl))
proc_called tree p words lawful made vs x (StepTrees.more_steps s steps) i name decl q there called e = absurd cc
