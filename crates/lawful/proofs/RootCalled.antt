-- An access that begins at a root calls an operation or a query of the program.
use Rattle.std.proofs.Common.{◌≡◌, ◌+◌, ℕ, suc, Bool, true, false, not, ◌&&◌, ◌==◌, List, ◌∷◌, map, Option, Some, None, refl, ap, subst, sym, ◌∙◌, cond, arith}
use Rattle.std.specs.Prelude.{slice_get, option_map}
use Rattle.std.proofs.lemmas.Bool.{and_parts, eqb-true, lt-ltb}
use Rattle.std.proofs.lemmas.Cmp.{nat_list_eq_equiv}
use Rattle.std.proofs.lemmas.Option.{slice_get-map, slice_get_within}
use Rattle.rp_grammar.specs.Trees.{Ident, CrdtTree, StepTrees, DeclTree}
use Rattle.rp_lang.specs.declared.op.OpDecl.{OpDecl}
use Rattle.rp_lang.specs.declared.query.QueryDecl.{QueryDecl}
use Rattle.rp_lang.specs.Exprs.{Ex}
use Rattle.rp_lang.specs.Programs.{Prog}
use Rattle.rp_lang.specs.FirstForm.{tx}
use Rattle.rp_lang.specs.Typing.{is_get, op_args, query_args, value_asked, is_asked}
use Rattle.type_rules.specs.Names.{Name, Entry, Declared, same_name, text_of}
use Rattle.type_rules.specs.Kinds.{bool_kind, operation_kind}
use Rattle.type_rules.specs.Paths.{Member, is_operation, member_of, form_of, Way, walked}
use Rattle.type_rules.specs.Accesses.{access_kind, args_of, of_way}
use Rattle.type_rules.specs.Queries.{names_of}
use Rattle.type_rules.specs.Faults.{IsLawful, IsOneOf}
use Rattle.desugaring.specs.Parts.{each}
use Rattle.desugaring.specs.Objects.{keys_on, PathOp, PathQuery, Root, root_in, Reached, follow, own_ops, own_queries, ops_at, queries_at, path_ops, path_queries, is_op_at, is_query_at, same_path, op_kinds, query_kinds}
use Rattle.desugaring.specs.Tables.{Tables, tables_of, op_decl, op_with, op_table, query_decl, query_with, query_table, step_of, ty_of}
use Rattle.desugaring.specs.Callees.{Vars, Called, question, value, located, op_called, query_called, member_at, on_root, of_access}
use Rattle.desugaring.proofs.Options.{then_there, map_there, both_there, three_there}
use Rattle.desugaring.proofs.Fields.{each_at}
use Rattle.lawful.specs.Typed.{IsCall, Along}
use Rattle.lawful.proofs.Forms.{one}
use Rattle.lawful.proofs.Distinct.{at_place, unique}
use Rattle.lawful.proofs.Arms.{flipped, same_text}
use Rattle.lawful.proofs.Entries.{entry_name, names_differ}
use Rattle.lawful.proofs.Members.{leads}
use Rattle.lawful.proofs.Constructors.{entry_of, some_part}
use Rattle.lawful.proofs.Roots.{Reaches, one_end, follows}
use Rattle.lawful.proofs.RootCalls.{located_there, path_one, OnRoot, on_roots, IsOpOf, IsQueryOf, ops_made, queries_made, own_op_is, own_query_is}

-- # The root of an entry

abbrev root_part : Entry → Option Root
root_part e = root_in e.name e.what

pub root_of_entry : (name : Name) (w : Declared) (root : Root) → root_in name w ≡ Some root → (w ≡ Declared.root root.crdt) × (name ≡ root.name)
root_of_entry name (Declared.root c) root e = (ap (λ z. Declared.root z.crdt) (one e), ap (λ z. z.name) (one e))
root_of_entry name (Declared.query q) root e = absurd cc
root_of_entry name (Declared.proc q) root e = absurd cc
root_of_entry name (Declared.con type c) root e = absurd cc

-- the root of the name is that of its entry
pub root_there : (tree : List DeclTree) → IsLawful tree → (i : ℕ) (name : Name) (decl : ℕ) (c : CrdtTree)
    → slice_get (names_of tree).entries i ≡ Some (entry_of name decl (Declared.root c))
    → (k : ℕ) (root : Root) → slice_get (tables_of tree).roots k ≡ Some root → same_name root.name name ≡ true → root.crdt ≡ c
root_there tree lawful i name decl c there k root at named =
    let es = (names_of tree).entries in
    let first = some_part root_part es k root at in
    let parts = root_of_entry first.1.name first.1.what root first.3 in
    let names : first.1.name ≡ name = parts.1 ∙ same_text _ _ named in
    let own : same_name name name ≡ true = nat_list_eq_equiv.refl name in
    let place : first.0 ≡ i = unique flipped (map entry_name es) first.0 i first.1.name name (names_differ tree lawful)
    (slice_get-map entry_name es first.0 ∙ ap (option_map entry_name) first.2) (slice_get-map entry_name es i ∙ ap (option_map entry_name) there)
    (subst (λ z. same_name name z ≡ true) (sym names) own) (subst (λ z. same_name z name ≡ true) (sym names) own) in
    let entry : first.1 ≡ entry_of name decl (Declared.root c) = one (sym first.2 ∙ ap (slice_get es) place ∙ there) in
    ap (crdt_of root.crdt) (sym parts.0 ∙ ap (λ z. z.what) entry) where
      crdt_of : CrdtTree → Declared → CrdtTree
      crdt_of other (Declared.root z) = z
      crdt_of other _ = other

-- # Operations

ops_are : (t : Tables) (ops : List OpDecl) → op_table t ≡ Some ops → (list : List OpDecl) × (each (op_decl t) t.ops ≡ Some list) × (tx ∷ list ≡ ops)
ops_are t ops e =
    map_there (λ z. (list : List OpDecl) × (each (op_decl t) t.ops ≡ Some list) × (tx ∷ list ≡ z)) (λ list. tx ∷ list) (each (op_decl t) t.ops) ops e
    (λ list h. (list, h, refl))

op_types : (t : Tables) (o : PathOp) (d : OpDecl) → op_decl t o ≡ Some d → each (ty_of t) (op_kinds o) ≡ Some d.args
op_types t o d e =
    both_there (λ z. each (ty_of t) (op_kinds o) ≡ Some z.args) (op_with o) (each (step_of t) o.path) (each (ty_of t) (op_kinds o)) d e (λ path args a b. b)

same_root : (roots : List Root) (i k : ℕ) (a b : Root) → i ≡ k → slice_get roots i ≡ Some a → slice_get roots k ≡ Some b → a ≡ b
same_root roots i k a b same is also = one (sym is ∙ ap (slice_get roots) same ∙ also)

pub op_found : (tree : List DeclTree) (m : Member) (k : ℕ) (r : Reached) (root : Root) (steps : StepTrees) → slice_get (tables_of tree).roots k ≡ Some root
    → follow (names_of tree) steps root.crdt ≡ Some r → member_of (names_of tree) r.crdt r.last ≡ Some m
    → (i : ℕ) (o : PathOp) → slice_get (tables_of tree).ops i ≡ Some o → is_op_at k r o ≡ true
    → (o.path ≡ r.path) × (o.own.args ≡ m.args) × (m.result ≡ operation_kind)
op_found tree m k r root steps at reached named i o there test =
    let n = names_of tree in
    let roots = (tables_of tree).roots in
    let tests = and_parts (o.root == k && same_path o.path r.path) (same_name o.own.name r.last) test in
    let firsts = and_parts (o.root == k) (same_path o.path r.path) tests.0 in
    let path = path_one o.path r.path firsts.1 in
    let on = at_place (OnRoot n (IsOpOf n) 0 roots) (path_ops n) i o (on_roots n (ops_at n) (IsOpOf n) (ops_made n) 0 roots) there in
    let found = on.3 in
    let number : on.0 ≡ k = omega (arith, found.3.root_is, eqb-true o.root k firsts.0) in
    let same = same_root roots on.0 k on.1 root number on.2 at in
    let end : found.1 ≡ r.crdt = one_end n root.crdt found.1 r.crdt found.0 r.path (subst (λ z. Reaches n z.crdt found.0 found.1) same found.2)
    (follows n steps root.crdt r reached) (sym found.3.path_is ∙ path) in
    let is = own_op_is n (form_of r.crdt) o.own r.last m (subst (λ z. IsOneOf o.own (own_ops n (form_of z))) end found.3.own_is) tests.1 named in
    (path, is.0, is.1)

abbrev RootCall : (tree : List DeclTree) → Prog → (ℕ → Bool) → Name → ℕ → CrdtTree → Ident → StepTrees → Called Ex → Type 0
RootCall tree p words name decl c x steps called = IsCall (tables_of tree) p words (Some (entry_of name decl (Declared.root c))) x steps called

-- an operation that is called is that of its number
op_gives : (tree : List DeclTree) (p : Prog) (words : ℕ → Bool) → op_table (tables_of tree) ≡ Some p.ops → (name : Name) (decl : ℕ) (c : CrdtTree) (x : Ident) (steps : StepTrees)
    (m : Member) (k : ℕ) (r : Reached) (root : Root) → slice_get (tables_of tree).roots k ≡ Some root → root.crdt ≡ c
    → walked (names_of tree) (Way.came c) steps ≡ Way.member m → follow (names_of tree) steps root.crdt ≡ Some r → is_operation m.does ≡ true
    → (called : Called Ex) → option_map op_called (located (is_op_at k r) (tables_of tree).ops) ≡ Some called
    → RootCall tree p words name decl c x steps called
op_gives tree p words table name decl c x steps m k r root at same walk reached acts called e =
    let t = tables_of tree in
    let n = names_of tree in
    let led = leads n steps c m r (subst (λ z. follow n steps z ≡ Some r) same reached) walk in
    map_there (RootCall tree p words name decl c x steps) op_called (located (is_op_at k r) t.ops) called e (λ z found.
    let there = located_there (is_op_at k r) t.ops z found in
    let is = op_found tree m k r root steps at reached led.1 z.0 z.1 there.0 there.1 in
    let ops = ops_are t p.ops table in
    let d = each_at (op_decl t) t.ops ops.0 z.0 z.1 ops.1 there.0 in
    let next : suc z.0 ≡ z.0 + 1 = omega arith in
    let entry : slice_get p.ops (z.0 + 1) ≡ Some d.0 = subst (λ list. slice_get list (z.0 + 1) ≡ Some d.0) ops.2 (subst (λ i. slice_get (tx ∷ ops.0) i ≡ Some d.0) next d.1) in
    record {
      along = subst (Along n (Way.came c) steps) (ap keys_on (sym is.0)) led.0;
      args = is.1 ∙ ap (λ w. args_of n (of_way x w)) (sym walk);
      tys = d.0.args;
      are = op_types t z.1 d.0 d.2;
      gives = (m, ap (of_way x) walk, acts, is.2, lt-ltb _ _ (slice_get_within p.ops (z.0 + 1) d.0 entry), ap op_args entry);
    })

-- # Queries

pub query_found : (tree : List DeclTree) (m : Member) (k : ℕ) (r : Reached) (root : Root) (steps : StepTrees) → slice_get (tables_of tree).roots k ≡ Some root
    → follow (names_of tree) steps root.crdt ≡ Some r → member_of (names_of tree) r.crdt r.last ≡ Some m
    → (i : ℕ) (o : PathQuery) → slice_get (tables_of tree).queries i ≡ Some o → is_query_at k r o ≡ true
    → (o.path ≡ r.path) × (o.own.args ≡ m.args) × (o.own.result ≡ m.result) × (is_get o.own.kind ≡ false → m.result ≡ bool_kind)
query_found tree m k r root steps at reached named i o there test =
    let n = names_of tree in
    let roots = (tables_of tree).roots in
    let tests = and_parts (o.root == k && same_path o.path r.path) (same_name o.own.name r.last) test in
    let firsts = and_parts (o.root == k) (same_path o.path r.path) tests.0 in
    let path = path_one o.path r.path firsts.1 in
    let on = at_place (OnRoot n (IsQueryOf n) 0 roots) (path_queries n) i o (on_roots n (queries_at n) (IsQueryOf n) (queries_made n) 0 roots) there in
    let found = on.3 in
    let number : on.0 ≡ k = omega (arith, found.3.root_is, eqb-true o.root k firsts.0) in
    let same = same_root roots on.0 k on.1 root number on.2 at in
    let end : found.1 ≡ r.crdt = one_end n root.crdt found.1 r.crdt found.0 r.path (subst (λ z. Reaches n z.crdt found.0 found.1) same found.2)
    (follows n steps root.crdt r reached) (sym found.3.path_is ∙ path) in
    let is = own_query_is n (form_of r.crdt) o.own r.last m (subst (λ z. IsOneOf o.own (own_queries n (form_of z))) end found.3.own_is) tests.1 named in
    (path, is.0, is.1, is.2)

query_types : (t : Tables) (o : PathQuery) (d : QueryDecl) → query_decl t o ≡ Some d
    → (each (ty_of t) (query_kinds o) ≡ Some d.args) × (ty_of t o.own.result ≡ Some d.result) × (d.kind ≡ o.own.kind)
query_types t o d e =
    three_there (λ z. (each (ty_of t) (query_kinds o) ≡ Some z.args) × (ty_of t o.own.result ≡ Some z.result) × (z.kind ≡ o.own.kind)) (query_with o)
    (each (step_of t) o.path) (each (ty_of t) (query_kinds o)) (ty_of t o.own.result) d e (λ path args result a b h. (b, h, refl))

query_gives : (tree : List DeclTree) (p : Prog) (words : ℕ → Bool) → query_table (tables_of tree) ≡ Some p.queries → (name : Name) (decl : ℕ) (c : CrdtTree) (x : Ident) (steps : StepTrees)
    (m : Member) (k : ℕ) (r : Reached) (root : Root) → slice_get (tables_of tree).roots k ≡ Some root → root.crdt ≡ c
    → walked (names_of tree) (Way.came c) steps ≡ Way.member m → follow (names_of tree) steps root.crdt ≡ Some r
    → (called : Called Ex) → option_map query_called (located (is_query_at k r) (tables_of tree).queries) ≡ Some called
    → RootCall tree p words name decl c x steps called
query_gives tree p words table name decl c x steps m k r root at same walk reached called e =
    let t = tables_of tree in
    let n = names_of tree in
    let led = leads n steps c m r (subst (λ z. follow n steps z ≡ Some r) same reached) walk in
    map_there (RootCall tree p words name decl c x steps) query_called (located (is_query_at k r) t.queries) called e (λ z found.
    let there = located_there (is_query_at k r) t.queries z found in
    let is = query_found tree m k r root steps at reached led.1 z.0 z.1 there.0 there.1 in
    let d = each_at (query_decl t) t.queries p.queries z.0 z.1 table there.0 in
    let types = query_types t z.1 d.0 d.2 in
    by_kind tree p words name decl c x steps m walk z d.0 d.1 (subst (Along n (Way.came c) steps) (ap keys_on (sym is.0)) led.0) is.1 is.2 is.3 types.0 types.1 types.2
    (is_get z.1.own.kind) refl) where
      by_kind : (tree : List DeclTree) (p : Prog) (words : ℕ → Bool) (name : Name) (decl : ℕ) (c : CrdtTree) (x : Ident) (steps : StepTrees) (m : Member)
          → walked (names_of tree) (Way.came c) steps ≡ Way.member m → (z : ℕ × PathQuery) (d : QueryDecl) → slice_get p.queries z.0 ≡ Some d
          → Along (names_of tree) (Way.came c) steps (keys_on z.1.path) → z.1.own.args ≡ m.args → z.1.own.result ≡ m.result
          → (is_get z.1.own.kind ≡ false → m.result ≡ bool_kind)
          → each (ty_of (tables_of tree)) (query_kinds z.1) ≡ Some d.args → ty_of (tables_of tree) z.1.own.result ≡ Some d.result → d.kind ≡ z.1.own.kind
          → (gets : Bool) → is_get z.1.own.kind ≡ gets
          → RootCall tree p words name decl c x steps (record { what = cond gets (value z.0) (question z.0); keys = keys_on z.1.path; args = z.1.own.args })
      by_kind tree p words name decl c x steps m walk z d entry along args result truth types of kind true gets = record {
        along = along;
        args = args ∙ ap (λ w. args_of (names_of tree) (of_way x w)) (sym walk);
        tys = d.args;
        are = types;
        gives = (
          d.result,
          ap value_asked entry ∙ ap (λ b. cond b (Some d.result) None) (ap is_get kind ∙ gets),
          ap (λ w. ty_of (tables_of tree) (access_kind (names_of tree) (of_way x w))) walk ∙ ap (ty_of (tables_of tree)) (sym result) ∙ of,
          ap query_args entry,
        );
      }
      by_kind tree p words name decl c x steps m walk z d entry along args result truth types of kind false gets = record {
        along = along;
        args = args ∙ ap (λ w. args_of (names_of tree) (of_way x w)) (sym walk);
        tys = d.args;
        are = types;
        gives = (
          ap (λ w. access_kind (names_of tree) (of_way x w)) walk ∙ truth gets,
          ap is_asked entry ∙ ap not (ap is_get kind ∙ gets),
          ap query_args entry,
        );
      }

-- # Either

either_gives : (tree : List DeclTree) (p : Prog) (words : ℕ → Bool) → op_table (tables_of tree) ≡ Some p.ops → query_table (tables_of tree) ≡ Some p.queries
    → (name : Name) (decl : ℕ) (c : CrdtTree) (x : Ident) (steps : StepTrees)
    (m : Member) (k : ℕ) (r : Reached) (root : Root) → slice_get (tables_of tree).roots k ≡ Some root → root.crdt ≡ c
    → walked (names_of tree) (Way.came c) steps ≡ Way.member m → follow (names_of tree) steps root.crdt ≡ Some r
    → (called : Called Ex) (acts : Bool) → is_operation m.does ≡ acts
    → cond acts (option_map op_called (located (is_op_at k r) (tables_of tree).ops)) (option_map query_called (located (is_query_at k r) (tables_of tree).queries)) ≡ Some called
    → RootCall tree p words name decl c x steps called
either_gives tree p words ops queries name decl c x steps m k r root at same walk reached called true acts e =
    op_gives tree p words ops name decl c x steps m k r root at same walk reached acts called e
either_gives tree p words ops queries name decl c x steps m k r root at same walk reached called false acts e =
    query_gives tree p words queries name decl c x steps m k r root at same walk reached called e

-- an operation or a query of the store, by the entry of its root
pub root_called : (tree : List DeclTree) (p : Prog) (words : ℕ → Bool) → IsLawful tree → op_table (tables_of tree) ≡ Some p.ops → query_table (tables_of tree) ≡ Some p.queries
    → (vs : Vars) (x : Ident) (steps : StepTrees) (i : ℕ) (name : Name) (decl : ℕ) (c : CrdtTree)
    → slice_get (names_of tree).entries i ≡ Some (entry_of name decl (Declared.root c)) → same_name name (text_of x) ≡ true
    → (called : Called Ex) → of_access (tables_of tree) vs x steps (of_way x (walked (names_of tree) (Way.came c) steps)) ≡ Some called
    → RootCall tree p words name decl c x steps called
root_called tree p words lawful ops queries vs x steps i name decl c there named called e =
    by_way tree p words lawful ops queries vs x steps i name decl c there named called (walked (names_of tree) (Way.came c) steps) refl e where
      by_way : (tree : List DeclTree) (p : Prog) (words : ℕ → Bool) → IsLawful tree → op_table (tables_of tree) ≡ Some p.ops → query_table (tables_of tree) ≡ Some p.queries
          → (vs : Vars) (x : Ident) (steps : StepTrees) (i : ℕ) (name : Name) (decl : ℕ) (c : CrdtTree)
          → slice_get (names_of tree).entries i ≡ Some (entry_of name decl (Declared.root c)) → same_name name (text_of x) ≡ true
          → (called : Called Ex) (w : Way) → walked (names_of tree) (Way.came c) steps ≡ w → of_access (tables_of tree) vs x steps (of_way x w) ≡ Some called
          → RootCall tree p words name decl c x steps called
      by_way tree p words lawful ops queries vs x steps i name decl c there named called (Way.came d) walk e = absurd cc
      by_way tree p words lawful ops queries vs x steps i name decl c there named called (Way.misfit at) walk e = absurd cc
      by_way tree p words lawful ops queries vs x steps i name decl c there named called (Way.member m) walk e =
          let t = tables_of tree in
          then_there (on_root t m steps) (located (λ root. same_name root.name (text_of x)) t.roots) called e (λ z found h.
          let at = located_there (λ root. same_name root.name (text_of x)) t.roots z found in
          let alike : same_name z.1.name name ≡ true = subst (λ y. same_name z.1.name y ≡ true) (sym (same_text _ _ named)) at.1 in
          let same = root_there tree lawful i name decl c there z.0 z.1 at.0 alike in
          then_there (member_at t m z.0) (follow t.names steps z.1.crdt) called h (λ r reached g.
          either_gives tree p words ops queries name decl c x steps m z.0 r z.1 at.0 same walk reached called (is_operation m.does) refl g))
