-- The roots, procedures and constructors of a lawful text's program have different names.
use Rattle.std.proofs.Common.{◌≡◌, ℕ, suc, Bool, true, false, not, List, [], ◌∷◌, map, Some, refl, ap, subst, sym, ◌∙◌, arith}
use Rattle.std.specs.Prelude.{slice_get}
use Rattle.std.proofs.lemmas.Bool.{and_from, and_parts, not-true}
use Rattle.std.proofs.lemmas.Option.{slice_get-map}
use Rattle.rp_value.specs.declared.tables.ConDecl.{ConDecl}
use Rattle.rp_grammar.specs.Trees.{ConTree, CrdtTree, ProcTree, DeclTree}
use Rattle.rp_lang.specs.FirstForm.{are_distinct, names}
use Rattle.rp_lang.specs.Names.{are_distinct_cons, are_value_names, is_con_name, is_con_named, is_name, is_word, root_names}
use Rattle.rp_lang.specs.Programs.{Proc, Prog, Rt}
use Rattle.type_rules.specs.Names.{Declared, Entry, Name, same_name}
use Rattle.type_rules.specs.Kinds.{bool_kind}
use Rattle.type_rules.specs.Queries.{names_of}
use Rattle.desugaring.specs.Appearances.{kinds_from}
use Rattle.desugaring.specs.Objects.{Root, root_in}
use Rattle.desugaring.specs.Tables.{Con, Tables, con_decl, con_of, cons, datatype_number, root_of, tables_of, ty_of}
use Rattle.desugaring.specs.Parts.{each, Pointwise, no_members, more_members}
use Rattle.desugaring.specs.Programs.{IsProc, IsProgramOf, ProcDecl, procs_from}
use Rattle.desugaring.proofs.Fields.{table_there}
use Rattle.desugaring.proofs.Options.{both_there, each_there, map_there}
use Rattle.lawful.proofs.Blocks.{kinds_differ}
use Rattle.lawful.proofs.Crdts.{names_distinct}
use Rattle.lawful.proofs.Entries.{entries_are, entry_name, names_differ}
use Rattle.lawful.proofs.NameLists.{Sub, all_at, distinct_sub, filtered_at, made_of, none_any, sub_picked}
use Rattle.lawful.proofs.Places.{cases_differ}
use Rattle.lawful.proofs.NamedValues.{Stands, Text, con_of_text, in_block, one_con, one_entry, proc_entry_there, proc_text, procs_sub, root_named, root_text, root_what}

-- # All of them

cons_apart : (cs : List ConDecl)
    → ((i j : ℕ) (d e : ConDecl) → slice_get cs i ≡ Some d → slice_get cs j ≡ Some e → same_name d.name e.name ≡ true → is_word e.name ≡ false → i ≡ j)
    → are_distinct_cons cs ≡ true
cons_apart [] f = refl
cons_apart (d ∷ ds) f =
    and_from _ _ (ap not (none_any (λ e. is_con_named e d.name) ds (λ j e at. no_second d ds f j e at (is_con_named e d.name) refl)))
    (cons_apart ds (λ i j a b at also same word. omega (arith, f (suc i) (suc j) a b at also same word))) where
      no_second : (d : ConDecl) (ds : List ConDecl)
          → ((i j : ℕ) (a b : ConDecl) → slice_get (d ∷ ds) i ≡ Some a → slice_get (d ∷ ds) j ≡ Some b → same_name a.name b.name ≡ true → is_word b.name ≡ false → i ≡ j)
          → (j : ℕ) (e : ConDecl) → slice_get ds j ≡ Some e → (named : Bool) → is_con_named e d.name ≡ named → named ≡ false
      no_second d ds f j e at false is = refl
      no_second d ds f j e at true is =
          let parts = and_parts (not (is_word e.name)) (same_name d.name e.name) is in
          absurd (omega (arith, f 0 (suc j) d e refl at parts.1 (not-true (is_word e.name) parts.0)))

decl_named : (t : Tables) (c : Con) (d : ConDecl) → con_decl t c ≡ Some d → d.name ≡ c.name
decl_named t c d e = both_there (λ (z : ConDecl). z.name ≡ c.name) (con_of c.name) (datatype_number t c.of) (each (ty_of t) c.fields) d e (λ of fields a b. refl)

-- a name of something else is no constructor's
no_con_of : (tree : List DeclTree) → Text tree → (p : Prog)
    → Pointwise (λ (c : Con) (d : ConDecl). con_decl (tables_of tree) c ≡ Some d) (cons (tables_of tree)) p.cons.cons
    → (x : Name) (what : Declared) → Stands (names_of tree) x what → ((type : ℕ) (c : ConTree) → what ≡ Declared.con type c → ⊥)
    → is_con_name x p.cons.cons ≡ false
no_con_of tree text p made x what stands other =
    none_any (λ d. is_con_named d x) p.cons.cons (λ j d at. by_value tree text p made x what stands other j d at (is_con_named d x) refl) where
      by_value : (tree : List DeclTree) → Text tree → (p : Prog)
          → Pointwise (λ (c : Con) (d : ConDecl). con_decl (tables_of tree) c ≡ Some d) (cons (tables_of tree)) p.cons.cons
          → (x : Name) (what : Declared) → Stands (names_of tree) x what
          → ((type : ℕ) (c : ConTree) → what ≡ Declared.con type c → ⊥)
          → (j : ℕ) (d : ConDecl) → slice_get p.cons.cons j ≡ Some d → (named : Bool) → is_con_named d x ≡ named → named ≡ false
      by_value tree text p made x what stands other j d at false is = refl
      by_value tree text p made x what stands other j d at true is =
          let parts = and_parts (not (is_word d.name)) (same_name x d.name) is in
          let from = made_of (λ (c : Con) (z : ConDecl). con_decl (tables_of tree) c ≡ Some z) (cons (tables_of tree)) p.cons.cons j d made at in
          let name = decl_named (tables_of tree) from.0 d from.2 in
          let a = con_of_text tree j from.0 (in_block (names_of tree) (tables_of tree).datatypes j from.0 from.1)
          (ap is_word (sym name) ∙ not-true (is_word d.name) parts.0) in
          absurd (other a.type a.con (one_entry (names_of tree) text.names x from.0.name what (Declared.con a.type a.con) stands a.stands
          (subst (λ z. same_name x z ≡ true) name parts.1)))

root_there : (tree : List DeclTree) (p : Prog) → IsProgramOf tree p → (i : ℕ) (rt : Rt) → slice_get p.roots i ≡ Some rt
    → (r : Root) × Stands (names_of tree) rt.name (Declared.root r.crdt)
root_there tree p is i rt at =
    let t = tables_of tree in
    let n = names_of tree in
    let made = each_there (λ (r : Root) (z : Rt). root_of t r ≡ Some z) (root_of t) (λ r z e. e) t.roots p.roots is.1.roots in
    let from = made_of (λ (r : Root) (z : Rt). root_of t r ≡ Some z) t.roots p.roots i rt made at in
    let entry = filtered_at (λ (e : Entry). root_in e.name e.what) n.entries i from.0 from.1 in
    let told = root_what entry.1.name entry.1.what from.0 entry.3 in
    (from.0, record { place = entry.0; entry = entry.1; there = entry.2; named = sym told.1 ∙ sym (root_named t from.0 rt from.2); is = told.0 })

proc_there : (tree : List DeclTree) (p : Prog) → IsProgramOf tree p → (i : ℕ) (q : Proc) → slice_get p.procs i ≡ Some q
    → (d : ProcDecl) × Stands (names_of tree) q.name (Declared.proc d.tree)
proc_there tree p is i q at =
    let from = made_of (IsProc (tables_of tree)) (procs_from 0 tree) p.procs i q is.1.procs at in
    let r = proc_entry_there 0 0 tree i from.0 from.1 in (
      from.0,
      record {
        place = r.0;
        entry = r.1;
        there = subst (λ es. slice_get es r.0 ≡ Some r.1) (sym (entries_are tree)) r.2;
        named = r.3 ∙ sym from.2.name;
        is = r.4;
      },
    )

-- names that were made in order
pub names_made : {X Y : Type 0} (R : X → Y → Type 0) (own : X → Name) (name : Y → Name)
    → ((x : X) (y : Y) → R x y → name y ≡ own x) → (xs : List X) (ys : List Y)
    → Pointwise R xs ys → map name ys ≡ map own xs
names_made R own name told xs ys no_members = refl
names_made R own name told xs ys (more_members {x = x} {y = y} {xs = as_} {ys = bs} r rs) =
    ap (λ z. z ∷ map name bs) (told x y r) ∙ ap (λ z. own x ∷ z) (names_made R own name told as_ bs rs)

pub value_names : (tree : List DeclTree) (p : Prog) → IsProgramOf tree p → are_value_names p ≡ true
value_names tree p is =
    let t = tables_of tree in
    let n = names_of tree in
    let text : Text tree = record { names = names_differ tree is.0; cases = cases_differ tree is.0; kinds = kinds_differ (bool_kind ∷ kinds_from n 0 0 tree) } in
    let cons_made = each_there (λ (c : Con) (d : ConDecl). con_decl t c ≡ Some d) (con_decl t) (λ c d e. e) (cons t) p.cons.cons (table_there t p.cons is.1.cons) in
    let roots_made = each_there (λ (r : Root) (z : Rt). root_of t r ≡ Some z) (root_of t) (λ r z e. e) t.roots p.roots is.1.roots in
    let root_list : root_names p.roots ≡ map root_text t.roots = names_made (λ (r : Root) (z : Rt). root_of t r ≡ Some z) root_text (λ (z : Rt). z.name) (root_named t) t.roots p.roots roots_made in
    let roots_sub = sub_picked entry_name (λ (e : Entry). root_in e.name e.what) root_text (λ e r told. (root_what e.name e.what r told).1) n.entries in
    let proc_list : names p.procs ≡ map proc_text (procs_from 0 tree) =
    names_made (IsProc t) proc_text (λ (q : Proc). q.name) (λ d q made. made.name) (procs_from 0 tree) p.procs is.1.procs in
    let procs_there = subst (λ es. Sub (map proc_text (procs_from 0 tree)) (map entry_name es)) (sym (entries_are tree)) (procs_sub 0 0 tree) in
    let first = subst (λ xs. are_distinct xs ≡ true) (sym root_list) (names_distinct (map root_text t.roots) (distinct_sub (map root_text t.roots) (map entry_name n.entries) roots_sub text.names)) in
    let second = subst (λ xs. are_distinct xs ≡ true) (sym proc_list)
    (names_distinct (map proc_text (procs_from 0 tree)) (distinct_sub (map proc_text (procs_from 0 tree)) (map entry_name n.entries) procs_there text.names)) in
    let third = cons_apart p.cons.cons (λ i j d e at also same word.
    let a = made_of (λ (c : Con) (z : ConDecl). con_decl t c ≡ Some z) (cons t) p.cons.cons i d cons_made at in
    let b = made_of (λ (c : Con) (z : ConDecl). con_decl t c ≡ Some z) (cons t) p.cons.cons j e cons_made also in
    let d_name = decl_named t a.0 d a.2 in
    let e_name = decl_named t b.0 e b.2 in
    one_con tree text i j a.0 b.0 a.1 b.1 (subst (λ x. same_name x b.0.name ≡ true) d_name (subst (λ x. same_name d.name x ≡ true) e_name same)) (ap is_word (sym e_name) ∙ word)) in
    let fourth = all_at (λ x. not (is_name x (names p.procs))) (root_names p.roots) (λ i x at.
    ap not (none_any (same_name x) (names p.procs) (λ j y also. root_and_proc tree p is text i j x y at also (same_name x y) refl))) in
    let fifth = all_at (λ x. not (is_con_name x p.cons.cons)) (root_names p.roots) (λ i x at.
    map_there (λ z. not (is_con_name z p.cons.cons) ≡ true) (λ (z : Rt). z.name) (slice_get p.roots i) x (sym (slice_get-map (λ (z : Rt). z.name) p.roots i) ∙ at)
    (λ rt there. let r = root_there tree p is i rt there in ap not (no_con_of tree text p cons_made rt.name (Declared.root r.0.crdt) r.1 (λ type c e. root_no_con e)))) in
    let sixth = all_at (λ x. not (is_con_name x p.cons.cons)) (names p.procs) (λ i x at.
    map_there (λ z. not (is_con_name z p.cons.cons) ≡ true) (λ (q : Proc). q.name) (slice_get p.procs i) x (sym (slice_get-map (λ (q : Proc). q.name) p.procs i) ∙ at)
    (λ q there. let r = proc_there tree p is i q there in ap not (no_con_of tree text p cons_made q.name (Declared.proc r.0.tree) r.1 (λ type c e. proc_no_con e)))) in
    and_from _ _ (and_from _ _ (and_from _ _ (and_from _ _ (and_from _ _ first second) third) fourth) fifth) sixth where
      root_no_con : {crdt : CrdtTree} {type : ℕ} {c : ConTree} → Declared.root crdt ≡ Declared.con type c → ⊥
      root_no_con e = absurd cc

      proc_no_con : {q : ProcTree} {type : ℕ} {c : ConTree} → Declared.proc q ≡ Declared.con type c → ⊥
      proc_no_con e = absurd cc

      no_both : {crdt : CrdtTree} {q : ProcTree} → Declared.root crdt ≡ Declared.proc q → ⊥
      no_both e = absurd cc

      root_and_proc : (tree : List DeclTree) (p : Prog) → IsProgramOf tree p → Text tree → (i j : ℕ) (x y : Name)
          → slice_get (root_names p.roots) i ≡ Some x
          → slice_get (names p.procs) j ≡ Some y → (same : Bool) → same_name x y ≡ same → same ≡ false
      root_and_proc tree p is text i j x y at also false e = refl
      root_and_proc tree p is text i j x y at also true e =
          map_there (λ z. same_name z y ≡ true → true ≡ false) (λ (z : Rt). z.name) (slice_get p.roots i) x (sym (slice_get-map (λ (z : Rt). z.name) p.roots i) ∙ at)
          (λ rt there. map_there (λ z. same_name rt.name z ≡ true → true ≡ false) (λ (q : Proc). q.name) (slice_get p.procs j) y
          (sym (slice_get-map (λ (q : Proc). q.name) p.procs j) ∙ also)
          (λ q here same.
          let r = root_there tree p is i rt there in
          let s = proc_there tree p is j q here in
          absurd (no_both (one_entry (names_of tree) text.names rt.name q.name (Declared.root r.0.crdt) (Declared.proc s.0.tree) r.1 s.1 same)))) e
