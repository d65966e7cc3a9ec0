-- What the names of roots, procedures and constructors stand for in a lawful text.
use Rattle.std.proofs.Common.{◌≡◌, ◌+◌, ℕ, zero, suc, Bool, true, false, ◌&&◌, ◌==◌, cond, List, [], ◌∷◌, map, length, codes, Option, Some, None, refl, ap, subst, sym, ◌∙◌, arith}
use Rattle.std.specs.Prelude.{flat_map, option_map, slice_get, unwrap_or}
use Rattle.std.specs.List.{IsDistinct}
use Rattle.std.proofs.lemmas.Bool.{and_from, eq-eqb, true≢false}
use Rattle.std.proofs.lemmas.List.{map-append}
use Rattle.std.proofs.lemmas.Option.{slice_get-map}
use Rattle.rp_grammar.specs.Trees.{ConTree, ProcTree, QueryTree, DeclForm, DeclTree}
use Rattle.rp_lang.specs.Names.{is_word}
use Rattle.rp_lang.specs.Programs.{Rt}
use Rattle.type_rules.specs.declared.kind.Kind.{Kind}
use Rattle.type_rules.specs.declared.kind.Base.{Base}
use Rattle.type_rules.specs.declared.kind.Base.TheVariants as base
use Rattle.type_rules.specs.Names.{Declared, Entry, Name, Names, TypeEntry, TypeSort, con_entry, con_name, entries_from, same_name, text_of, types_from, types_in}
use Rattle.type_rules.specs.Kinds.{is_open, plain_kind}
use Rattle.type_rules.specs.Queries.{names_of}
use Rattle.type_rules.specs.Matches.{Case, bool_cases, cases_of, con_case, declared_cases, maybe_cases, sort_cases}
use Rattle.desugaring.specs.Appearances.{same_kind}
use Rattle.desugaring.specs.Objects.{Root, root_in}
use Rattle.desugaring.specs.Tables.{Con, Tables, cons, cons_of, proc_name, root_of, root_with, tables_of}
use Rattle.desugaring.specs.Programs.{ProcDecl, procs_from}
use Rattle.desugaring.proofs.Options.{map_there}
use Rattle.lawful.proofs.Arms.{CasesDiffer, case_name, flipped, same_text}
use Rattle.lawful.proofs.Blocks.{case_at, con_at, start}
use Rattle.lawful.proofs.Cons.{con_in}
use Rattle.lawful.proofs.Distinct.{unique}
use Rattle.lawful.proofs.Entries.{entries_are, entry_name}
use Rattle.lawful.proofs.Forms.{one}
use Rattle.lawful.proofs.Maybes.{left_at, right_at}
use Rattle.lawful.proofs.NameLists.{Sub, one_named, sub_append, sub_none}
use Rattle.lawful.proofs.Places.{types_are}

-- # What a name stands for

-- an entry of the name
pub record Stands (n : Names) (x : Name) (what : Declared) : Type 0 where
  pub place : ℕ
  pub entry : Entry
  pub there : slice_get n.entries place ≡ Some entry
  pub named : entry.name ≡ x
  pub is : entry.what ≡ what

pub one_entry : (n : Names) → IsDistinct flipped (map entry_name n.entries) → (x y : Name) (a b : Declared) → Stands n x a
    → Stands n y b → same_name x y ≡ true → a ≡ b
one_entry n differ x y a b s u same =
    let names_same : same_name s.entry.name u.entry.name ≡ true =
    subst (λ z. same_name z u.entry.name ≡ true) (sym s.named) (subst (λ z. same_name x z ≡ true) (sym u.named) same) in
    let r = one_named entry_name n.entries s.place u.place s.entry u.entry differ s.there u.there names_same in
    sym s.is ∙ ap (λ (e : Entry). e.what) r.1 ∙ u.is

-- # Roots and procedures

pub root_what : (name : Name) (what : Declared) (r : Root) → root_in name what ≡ Some r
    → (what ≡ Declared.root r.crdt) × (r.name ≡ name)
root_what name (Declared.root c) r e = (ap Declared.root (ap (λ (z : Root). z.crdt) (one e)), sym (ap (λ (z : Root). z.name) (one e)))
root_what name (Declared.query q) r e = absurd cc
root_what name (Declared.proc q) r e = absurd cc
root_what name (Declared.con type c) r e = absurd cc

abbrev pub root_text : Root → Name
root_text r = r.name

pub root_named : (t : Tables) (r : Root) (rt : Rt) → root_of t r ≡ Some rt → rt.name ≡ r.name
root_named t r rt e = map_there (λ (z : Rt). z.name ≡ r.name) (root_with r.name) _ rt e (λ cr is. refl)

abbrev pub proc_text : ProcDecl → Name
proc_text d = proc_name d.tree

pub proc_entry_there : (k type : ℕ) (ds : List DeclTree) (i : ℕ) (d : ProcDecl) → slice_get (procs_from k ds) i ≡ Some d
    → (place : ℕ) × (e : Entry) × (slice_get (entries_from k type ds) place ≡ Some e) × (e.name ≡ proc_name d.tree) × (e.what ≡ Declared.proc d.tree)
proc_entry_there k type [] i d at = absurd cc
proc_entry_there k type (DeclTree.node s (DeclForm.proc (ProcTree.proc x params result body)) ∷ ds) zero d at =
    (0, _, refl, ap (λ (z : ProcDecl). proc_name z.tree) (one at), ap (λ (z : ProcDecl). Declared.proc z.tree) (one at))
proc_entry_there k type (DeclTree.node s (DeclForm.proc (ProcTree.proc x params result body)) ∷ ds) (suc i) d at =
    let r = proc_entry_there (k + 1) _ ds i d at in (suc r.0, r.1, r.2, r.3, r.4)
proc_entry_there k type (DeclTree.node s (DeclForm.id_type x) ∷ ds) i d at = proc_entry_there (k + 1) _ ds i d at
proc_entry_there k type (DeclTree.node s (DeclForm.opaque x) ∷ ds) i d at = proc_entry_there (k + 1) _ ds i d at
proc_entry_there k type (DeclTree.node s (DeclForm.datatype x cs) ∷ ds) i d at =
    let r = proc_entry_there (k + 1) _ ds i d at in
    let there = right_at (map (con_entry k type) cs) _ r.0 r.1 r.2 in (there.0, r.1, there.2, r.3, r.4)
proc_entry_there k type (DeclTree.node s (DeclForm.crdt x c) ∷ ds) i d at =
    let r = proc_entry_there (k + 1) _ ds i d at in (suc r.0, r.1, r.2, r.3, r.4)
proc_entry_there k type (DeclTree.node s (DeclForm.query (QueryTree.query x params result body)) ∷ ds) i d at =
    let r = proc_entry_there (k + 1) _ ds i d at in (suc r.0, r.1, r.2, r.3, r.4)
proc_entry_there k type (DeclTree.node s (DeclForm.invariant x e) ∷ ds) i d at = proc_entry_there (k + 1) _ ds i d at

pub procs_sub : (k type : ℕ) (ds : List DeclTree) → Sub (map proc_text (procs_from k ds)) (map entry_name (entries_from k type ds))
procs_sub k type [] = Sub.done
procs_sub k type (DeclTree.node s (DeclForm.proc (ProcTree.proc x params result body)) ∷ ds) = Sub.keep (procs_sub (k + 1) _ ds)
procs_sub k type (DeclTree.node s (DeclForm.id_type x) ∷ ds) = procs_sub (k + 1) _ ds
procs_sub k type (DeclTree.node s (DeclForm.opaque x) ∷ ds) = procs_sub (k + 1) _ ds
procs_sub k type (DeclTree.node s (DeclForm.datatype x cs) ∷ ds) =
    let next = type + length (types_in k (DeclTree.node s (DeclForm.datatype x cs))) in
    subst (Sub (map proc_text (procs_from (k + 1) ds))) (sym (map-append entry_name (map (con_entry k type) cs) (entries_from (k + 1) next ds)))
    (sub_append [] (map entry_name (map (con_entry k type) cs)) (map proc_text (procs_from (k + 1) ds)) (map entry_name (entries_from (k + 1) next ds))
    (sub_none (map entry_name (map (con_entry k type) cs))) (procs_sub (k + 1) next ds))
procs_sub k type (DeclTree.node s (DeclForm.crdt x c) ∷ ds) = Sub.skip (procs_sub (k + 1) _ ds)
procs_sub k type (DeclTree.node s (DeclForm.query (QueryTree.query x params result body)) ∷ ds) = Sub.skip (procs_sub (k + 1) _ ds)
procs_sub k type (DeclTree.node s (DeclForm.invariant x e) ∷ ds) = procs_sub (k + 1) _ ds

-- # Constructors

-- the constructors of a declared type are entries
cons_there : (k type : ℕ) (ds : List DeclTree) (j : ℕ) (entry : TypeEntry) (cs : List ConTree) (i : ℕ) (c : ConTree)
    → slice_get (types_from k ds) j ≡ Some entry
    → entry.sort ≡ TypeSort.datatype cs → slice_get cs i ≡ Some c
    → (place : ℕ) × (e : Entry) × (slice_get (entries_from k type ds) place ≡ Some e) × (e.name ≡ text_of (con_name c)) × (e.what ≡ Declared.con (type + j) c)
cons_there k type [] j entry cs i c at sorted inside = absurd cc
cons_there k type (DeclTree.node s (DeclForm.id_type x) ∷ ds) zero entry cs i c at sorted inside = absurd (no_sort (ap (λ (z : TypeEntry). z.sort) (one at) ∙ sorted)) where
  no_sort : TypeSort.id_type ≡ TypeSort.datatype cs → ⊥
  no_sort e = absurd cc
cons_there k type (DeclTree.node s (DeclForm.opaque x) ∷ ds) zero entry cs i c at sorted inside = absurd (no_sort (ap (λ (z : TypeEntry). z.sort) (one at) ∙ sorted)) where
  no_sort : TypeSort.opaque ≡ TypeSort.datatype cs → ⊥
  no_sort e = absurd cc
cons_there k type (DeclTree.node s (DeclForm.datatype x own) ∷ ds) zero entry cs i c at sorted inside =
    let same : own ≡ cs = cons_one (ap (λ (z : TypeEntry). z.sort) (one at) ∙ sorted) in
    let here : slice_get (map (con_entry k type) own) i ≡ Some (con_entry k type c) =
    slice_get-map (con_entry k type) own i ∙ ap (option_map (con_entry k type)) (subst (λ z. slice_get z i ≡ Some c) (sym same) inside) in
    let number : type ≡ type + 0 = omega arith in
    (i, con_entry k type c, left_at (map (con_entry k type) own) _ i (con_entry k type c) here, refl, ap (λ z. Declared.con z c) number) where
      cons_one : {z : List ConTree} → TypeSort.datatype own ≡ TypeSort.datatype z → own ≡ z
      cons_one e = cc
cons_there k type (DeclTree.node s (DeclForm.id_type x) ∷ ds) (suc j) entry cs i c at sorted inside =
    let r = cons_there (k + 1) (type + 1) ds j entry cs i c at sorted inside in
    let number : type + 1 + j ≡ type + suc j = omega arith in (r.0, r.1, r.2, r.3, r.4 ∙ ap (λ z. Declared.con z c) number)
cons_there k type (DeclTree.node s (DeclForm.opaque x) ∷ ds) (suc j) entry cs i c at sorted inside =
    let r = cons_there (k + 1) (type + 1) ds j entry cs i c at sorted inside in
    let number : type + 1 + j ≡ type + suc j = omega arith in (r.0, r.1, r.2, r.3, r.4 ∙ ap (λ z. Declared.con z c) number)
cons_there k type (DeclTree.node s (DeclForm.datatype x own) ∷ ds) (suc j) entry cs i c at sorted inside =
    let r = cons_there (k + 1) (type + 1) ds j entry cs i c at sorted inside in
    let there = right_at (map (con_entry k type) own) (entries_from (k + 1) (type + 1) ds) r.0 r.1 r.2 in
    let number : type + 1 + j ≡ type + suc j = omega arith in (there.0, r.1, there.2, r.3, r.4 ∙ ap (λ z. Declared.con z c) number)
cons_there k type (DeclTree.node s (DeclForm.crdt x crdt) ∷ ds) j entry cs i c at sorted inside =
    let r = cons_there (k + 1) (type + 0) ds j entry cs i c at sorted inside in
    let number : type + 0 + j ≡ type + j = omega arith in (suc r.0, r.1, r.2, r.3, r.4 ∙ ap (λ z. Declared.con z c) number)
cons_there k type (DeclTree.node s (DeclForm.query (QueryTree.query x params result body)) ∷ ds) j entry cs i c at sorted inside =
    let r = cons_there (k + 1) (type + 0) ds j entry cs i c at sorted inside in
    let number : type + 0 + j ≡ type + j = omega arith in (suc r.0, r.1, r.2, r.3, r.4 ∙ ap (λ z. Declared.con z c) number)
cons_there k type (DeclTree.node s (DeclForm.invariant x e) ∷ ds) j entry cs i c at sorted inside =
    let r = cons_there (k + 1) (type + 0) ds j entry cs i c at sorted inside in
    let number : type + 0 + j ≡ type + j = omega arith in (r.0, r.1, r.2, r.3, r.4 ∙ ap (λ z. Declared.con z c) number)
cons_there k type (DeclTree.node s (DeclForm.proc (ProcTree.proc x params result body)) ∷ ds) j entry cs i c at sorted inside =
    let r = cons_there (k + 1) (type + 0) ds j entry cs i c at sorted inside in
    let number : type + 0 + j ≡ type + j = omega arith in (suc r.0, r.1, r.2, r.3, r.4 ∙ ap (λ z. Declared.con z c) number)

-- a constructor whose name is no word is one that the text declares
pub record OfText (n : Names) (k : Kind) (x : Name) : Type 0 where
  pub type : ℕ
  pub con : ConTree
  pub of : k ≡ plain_kind (base.Declared type)
  pub stands : Stands n x (Declared.con type con)

named_case : (tree : List DeclTree) (type : ℕ) (entry : TypeEntry) (cs : List ConTree)
    → slice_get (names_of tree).types type ≡ Some entry
    → entry.sort ≡ TypeSort.datatype cs → (i : ℕ) (c : Case) → slice_get (map (con_case (names_of tree)) cs) i ≡ Some c
    → OfText (names_of tree) (plain_kind (base.Declared type)) c.name
named_case tree type entry cs at sorted i c inside =
    let n = names_of tree in
    let tree_at : (z : ConTree) × (slice_get cs i ≡ Some z) × (con_case n z ≡ c) =
    map_there (λ y. (z : ConTree) × (slice_get cs i ≡ Some z) × (con_case n z ≡ y)) (con_case n) (slice_get cs i) c (sym (slice_get-map (con_case n) cs i) ∙ inside)
    (λ z e. (z, e, refl)) in
    let r = cons_there 0 0 tree type entry cs i tree_at.0 (subst (λ es. slice_get es type ≡ Some entry) (types_are tree) at) sorted tree_at.1 in
    let number : 0 + type ≡ type = omega arith in
    record {
      type = type;
      con = tree_at.0;
      of = refl;
      stands = record {
        place = r.0;
        entry = r.1;
        there = subst (λ es. slice_get es r.0 ≡ Some r.1) (sym (entries_are tree)) r.2;
        named = r.3 ∙ ap case_name tree_at.2;
        is = r.4 ∙ ap (λ z. Declared.con z tree_at.0) number;
      };
    }

declared_con : (tree : List DeclTree) (b : Base) (m i : ℕ) (c : Case) (cs : List Case) → cases_of (names_of tree) (record { base = b; maybes = m }) ≡ Some cs
    → slice_get cs i ≡ Some c → is_word c.name ≡ false → OfText (names_of tree) (record { base = b; maybes = m }) c.name
declared_con tree b (suc m) i c cs is at word = by_test (is_open b && m == 0) i c cs is at word where
  no_word : (x : Name) (y : Name) → x ≡ y → is_word y ≡ true → is_word x ≡ false → ⊥
  no_word x y e h word = true≢false (sym h ∙ sym (ap is_word e) ∙ word)

  by_test : (none : Bool) (i : ℕ) (c : Case) (cs : List Case) → cond none None (Some (maybe_cases (record { base = b; maybes = m }))) ≡ Some cs → slice_get cs i ≡ Some c
      → is_word c.name ≡ false → OfText (names_of tree) (record { base = b; maybes = suc m }) c.name
  by_test true i c cs is at word = absurd cc
  by_test false zero c cs is at word =
      absurd (no_word c.name (codes "none") (sym (ap case_name (one (subst (λ z. slice_get z 0 ≡ Some c) (sym (one is)) at)))) refl word)
  by_test false (suc zero) c cs is at word =
      absurd (no_word c.name (codes "some") (sym (ap case_name (one (subst (λ z. slice_get z 1 ≡ Some c) (sym (one is)) at)))) refl word)
  by_test false (suc (suc i)) c cs is at word = absurd (past (subst (λ z. slice_get z (suc (suc i)) ≡ Some c) (sym (one is)) at)) where
    past : slice_get (maybe_cases (record { base = b; maybes = m })) (suc (suc i)) ≡ Some c → ⊥
    past e = absurd cc
declared_con tree base.Bool zero i c cs is at word = absurd (by_place i c (subst (λ z. slice_get z i ≡ Some c) (sym (one is)) at) word) where
  by_place : (i : ℕ) (c : Case) → slice_get bool_cases i ≡ Some c → is_word c.name ≡ false → ⊥
  by_place zero c at word = true≢false (ap is_word (ap case_name (one at)) ∙ word)
  by_place (suc zero) c at word = true≢false (ap is_word (ap case_name (one at)) ∙ word)
  by_place (suc (suc i)) c at word = absurd cc
declared_con tree (base.Declared type) zero i c cs is at word = by_entry tree type (slice_get (names_of tree).types type) refl i c cs is at where
  by_sort : (tree : List DeclTree) (type : ℕ) (entry : TypeEntry) (sort : TypeSort) → entry.sort ≡ sort
      → slice_get (names_of tree).types type ≡ Some entry
      → (i : ℕ) (c : Case) (cs : List Case) → sort_cases (names_of tree) sort ≡ Some cs → slice_get cs i ≡ Some c
      → OfText (names_of tree) (plain_kind (base.Declared type)) c.name
  by_sort tree type entry TypeSort.id_type sorted there i c cs is at = absurd cc
  by_sort tree type entry TypeSort.opaque sorted there i c cs is at = absurd cc
  by_sort tree type entry (TypeSort.datatype own) sorted there i c cs is at =
      named_case tree type entry own there sorted i c (subst (λ z. slice_get z i ≡ Some c) (sym (one is)) at)

  by_entry : (tree : List DeclTree) (type : ℕ) (o : Option TypeEntry) → slice_get (names_of tree).types type ≡ o
      → (i : ℕ) (c : Case) (cs : List Case)
      → declared_cases (names_of tree) o ≡ Some cs → slice_get cs i ≡ Some c
      → OfText (names_of tree) (plain_kind (base.Declared type)) c.name
  by_entry tree type None there i c cs is at = absurd cc
  by_entry tree type (Some entry) there i c cs is at = by_sort tree type entry entry.sort refl there i c cs is at
declared_con tree base.Int zero i c cs is at word = absurd cc
declared_con tree base.Text zero i c cs is at word = absurd cc
declared_con tree base.Call zero i c cs is at word = absurd cc
declared_con tree base.Invocation zero i c cs is at word = absurd cc
declared_con tree base.Operation zero i c cs is at word = absurd cc
declared_con tree base.Info zero i c cs is at word = absurd cc
declared_con tree base.Outcome zero i c cs is at word = absurd cc
declared_con tree base.Unknown zero i c cs is at word = absurd cc
declared_con tree base.Open zero i c cs is at word = absurd cc

-- a constructor of the program, by its block
pub record InBlock (n : Names) (ds : List Kind) (place : ℕ) (z : Con) : Type 0 where
  pub block : ℕ
  pub inside : ℕ
  pub at : slice_get ds block ≡ Some z.of
  pub cases : List Case
  pub are : cases_of n z.of ≡ Some cases
  pub case : Case
  pub there : slice_get cases inside ≡ Some case
  pub named : case.name ≡ z.name
  pub number : 0 + place ≡ start n 0 ds block + inside

pub in_block : (n : Names) (ds : List Kind) (place : ℕ) (z : Con) → slice_get (flat_map (cons_of n) ds) place ≡ Some z
    → InBlock n ds place z
in_block n ds place z at =
    let r = con_at n 0 ds place z at in
    by_cases n ds place z r.0 r.1 r.2 r.4 (cases_of n z.of) refl r.3 where
      by_cases : (n : Names) (ds : List Kind) (place : ℕ) (z : Con) (block inside : ℕ) → slice_get ds block ≡ Some z.of
          → 0 + place ≡ start n 0 ds block + inside
          → (o : Option (List Case)) → cases_of n z.of ≡ o → slice_get (map (con_in z.of) (unwrap_or o [])) inside ≡ Some z
          → InBlock n ds place z
      by_cases n ds place z block inside at number None is there = absurd cc
      by_cases n ds place z block inside at number (Some cs) is there =
          let case = case_at z.of cs inside z there in
          record {
            block = block;
            inside = inside;
            at = at;
            cases = cs;
            are = is;
            case = case.0;
            there = case.1;
            named = ap (λ (c : Con). c.name) case.2;
            number = number;
          }

-- what is known of a text
pub record Text (tree : List DeclTree) : Type 0 where
  pub names : IsDistinct flipped (map entry_name (names_of tree).entries)
  pub cases : CasesDiffer (names_of tree)
  pub kinds : IsDistinct same_kind (tables_of tree).datatypes

pub con_of_text : (tree : List DeclTree) (place : ℕ) (z : Con) → InBlock (names_of tree) (tables_of tree).datatypes place z
    → is_word z.name ≡ false
    → OfText (names_of tree) z.of z.name
con_of_text tree place z b word =
    subst (OfText (names_of tree) z.of) b.named
    (declared_con tree z.of.base z.of.maybes b.inside b.case b.cases b.are b.there (ap is_word b.named ∙ word))

-- two constructors of one name that is no word are one
pub one_con : (tree : List DeclTree) → Text tree → (i j : ℕ) (z w : Con) → slice_get (cons (tables_of tree)) i ≡ Some z
    → slice_get (cons (tables_of tree)) j ≡ Some w
    → same_name z.name w.name ≡ true → is_word w.name ≡ false → i ≡ j
one_con tree text i j z w at also same word =
    let n = names_of tree in
    let ds = (tables_of tree).datatypes in
    let first = in_block n ds i z at in
    let second = in_block n ds j w also in
    let name : z.name ≡ w.name = same_text z.name w.name same in
    let a = con_of_text tree i z first (ap is_word name ∙ word) in
    let b = con_of_text tree j w second word in
    let what = one_entry n text.names z.name w.name (Declared.con a.type a.con) (Declared.con b.type b.con) a.stands b.stands same in
    let type : a.type ≡ b.type = type_one what in
    let own = plain_kind (base.Declared a.type) in
    let of : z.of ≡ w.of = a.of ∙ ap (λ m. plain_kind (base.Declared m)) type ∙ sym b.of in
    let block : first.block ≡ second.block = unique same_kind ds first.block second.block own own text.kinds (first.at ∙ ap Some a.of)
    (second.at ∙ ap Some (sym of ∙ a.of)) (and_from _ _ (eq-eqb a.type a.type refl) refl) (and_from _ _ (eq-eqb a.type a.type refl) refl) in
    let cases : first.cases ≡ second.cases = one (sym first.are ∙ ap (cases_of n) of ∙ second.are) in
    let names : same_name first.case.name second.case.name ≡ true =
    subst (λ x. same_name x second.case.name ≡ true) (sym first.named) (subst (λ x. same_name z.name x ≡ true) (sym second.named) same) in
    let inside = one_named case_name first.cases first.inside second.inside first.case second.case (text.cases z.of first.cases first.are) first.there
    (subst (λ cs. slice_get cs second.inside ≡ Some second.case) (sym cases) second.there) names in
    let begins : start n 0 ds first.block ≡ start n 0 ds second.block = ap (start n 0 ds) block in
    omega (arith, first.number, second.number, begins, inside.0) where
      type_one : {s u : ℕ} {c d : ConTree} → Declared.con s c ≡ Declared.con u d → s ≡ u
      type_one e = cc
