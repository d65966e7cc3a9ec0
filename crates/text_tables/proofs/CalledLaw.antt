-- What an access calls, by the object at which its path ends.
use Rattle.std.proofs.Common.{◌≡◌, ℕ, suc, ◌+◌, Bool, true, false, ◌&&◌, cond, not, List, [], ◌∷◌, length, map, Option, Some, None, refl, sym, ap, ap₂, subst, ◌∙◌, arith}
use Rattle.std.specs.Prelude.{find, nat_eq}
use Rattle.std.specs.List.{position_from, slice_get}
use Rattle.std.specs.Option.{option_and_then, option_map, option_zip}
use Rattle.std.proofs.lemmas.Bool.{and_parts, eqb-true}
use Rattle.std.proofs.lemmas.Iterator.Adapters.{position_from-zero}
use Rattle.std.proofs.lemmas.Option.{same_Some}
use Rattle.rp_grammar.specs.Trees.{CrdtTree, CrdtForm, StepTrees}
use Rattle.rp_lang.specs.Typing.{is_get}
use Rattle.type_rules.specs.Names.{Name, Names, same_name}
use Rattle.type_rules.specs.Paths.{Member, form_of, is_operation, is_question, member_of}
use Rattle.desugaring.specs.Objects.{KindStep, OwnOp, OwnQuery, PathOp, PathQuery, field, is_op_at, is_query_at, key, keys_on, own_ops, own_queries, path_ops, path_queries, roots_of, same_path, same_step}
use Rattle.desugaring.specs.Callees.{Called, Callee, located, member_at, on_root, op_called, operation, query_called, question, taking, value}
use Rattle.text_kinds.specs.Numbered.{Numbered}
use Rattle.text_kinds.proofs.KindsAdded.{kind_one}
use Rattle.text_tables.specs.Called.{LeadsTo, callee_of}
use Rattle.text_tables.specs.Seen.{tables_with}
use Rattle.text_tables.specs.declared.object.Object.{Object}
use Rattle.text_tables.specs.means.Counted.{object, objects_of, own_many}
use Rattle.text_tables.specs.means.Placed.{number_at, rank}
use Rattle.text_tables.proofs.PlaceLaw.{IsOwn, World, before_on, search_from}
use Rattle.text_tables.proofs.ObjectLaw.{IsIn, before_root, root_law, roots_object, start_of}
use Rattle.text_tables.proofs.OwnLaw.{op_placed, op_there, query_placed, query_there}

-- # The first that passes

found_from : {X : Type 0} (test : X → Bool) (f : ℕ) (xs : List X) → option_zip (position_from test f xs) (find test xs) ≡ search_from test f xs
found_from test f [] = refl
found_from test f (x ∷ xs) = by (test x) (found_from test (f + 1) xs)
  where
    by : (b : Bool) → option_zip (position_from test (f + 1) xs) (find test xs) ≡ search_from test (f + 1) xs
        → option_zip (cond b (Some f) (position_from test (f + 1) xs)) (cond b (Some x) (find test xs))
        ≡ cond b (Some (f, x)) (search_from test (f + 1) xs)
    by true later = refl
    by false later = later

located_is : {X : Type 0} (test : X → Bool) (xs : List X) (z : ℕ × X) → located test xs ≡ Some z → search_from test 0 xs ≡ Some z
located_is test xs z e =
    sym (found_from test 0 xs) ∙ sym (ap (λ o. option_zip o (find test xs)) (position_from-zero test xs)) ∙ e

-- it stands there, and passes
record IsThere {X : Type 0} (test : X → Bool) (f : ℕ) (xs : List X) (z : ℕ × X) : Type 0 where
  pub place : ℕ
  pub behind : f + place ≡ z.0
  pub at : slice_get xs place ≡ Some z.1
  pub passes : test z.1 ≡ true

search_there : {X : Type 0} (test : X → Bool) (f : ℕ) (xs : List X) (z : ℕ × X) → search_from test f xs ≡ Some z → IsThere test f xs z
search_there test f [] z e = absurd cc
search_there test f (x ∷ xs) z e = by (test x) refl e (search_there test (f + 1) xs z)
  where
    by : (b : Bool) → test x ≡ b → cond b (Some (f, x)) (search_from test (f + 1) xs) ≡ Some z
        → (search_from test (f + 1) xs ≡ Some z → IsThere test (f + 1) xs z) → IsThere test f (x ∷ xs) z
    by true is e later =
        subst (IsThere test f (x ∷ xs)) (same_Some (f, x) z e) (record { place = 0; behind = omega arith; at = refl; passes = is })
    by false is e later =
        let rest = later e in
        record { place = suc rest.place; behind = omega (arith, rest.behind); at = rest.at; passes = rest.passes }

pub located_at : {X : Type 0} (test : X → Bool) (xs : List X) (z : ℕ × X) → located test xs ≡ Some z → slice_get xs z.0 ≡ Some z.1
located_at test xs z e =
    let there = search_there test 0 xs z (located_is test xs z e) in
    let same : there.place ≡ z.0 = omega (arith, there.behind) in
    ap (slice_get xs) (sym same) ∙ there.at

-- # A path that is the same is the path

step_one : (s t : KindStep) → same_step s t ≡ true → s ≡ t
step_one (field j) (field k) e = ap field (eqb-true j k e)
step_one (key j) (key k) e = ap key (kind_one j k e)
step_one (field j) (key k) e = absurd cc
step_one (key j) (field k) e = absurd cc

path_one : (p q : List KindStep) → same_path p q ≡ true → p ≡ q
path_one [] [] e = refl
path_one (s ∷ p) (t ∷ q) e =
    let parts = and_parts (same_step s t) (same_path p q) e in
    ap (λ z. z ∷ p) (step_one s t parts.0) ∙ ap (λ z. t ∷ z) (path_one p q parts.1)
path_one [] (t ∷ q) e = absurd cc
path_one (s ∷ p) [] e = absurd cc

itself : (p q : List KindStep) → same_path p q ≡ true → same_path q q ≡ true
itself p q e = subst (λ z. same_path z q ≡ true) (path_one p q e) e

-- # Operations and queries of all paths

pub ops_many : (n : Names) (form : CrdtForm) → length (own_ops n form) ≡ own_many true form
ops_many n (CrdtForm.set_aw t) = refl
ops_many n (CrdtForm.set_rw t) = refl
ops_many n (CrdtForm.reg t) = refl
ops_many n (CrdtForm.mv_reg t) = refl
ops_many n CrdtForm.counter = refl
ops_many n (CrdtForm.map_uw t c) = refl
ops_many n (CrdtForm.map_dw t c) = refl
ops_many n (CrdtForm.struct _) = refl

pub queries_many : (n : Names) (form : CrdtForm) → length (own_queries n form) ≡ own_many false form
queries_many n (CrdtForm.set_aw t) = refl
queries_many n (CrdtForm.set_rw t) = refl
queries_many n (CrdtForm.reg t) = refl
queries_many n (CrdtForm.mv_reg t) = refl
queries_many n CrdtForm.counter = refl
queries_many n (CrdtForm.map_uw t c) = refl
queries_many n (CrdtForm.map_dw t c) = refl
queries_many n (CrdtForm.struct _) = refl

abbrev pub op_world : (n : Names) → World PathOp OwnOp n true
op_world n = record {
  make = λ root path own. record { root = root; path = path; own = own };
  name = λ own. own.name;
  list = own_ops n;
  test = λ root path last o. nat_eq o.root root && same_path o.path path && same_name o.own.name last;
  tested = λ root to path q last own. refl;
  many = ops_many n;
}

abbrev pub query_world : (n : Names) → World PathQuery OwnQuery n false
query_world n = record {
  make = λ root path own. record { root = root; path = path; own = own };
  name = λ own. own.name;
  list = own_queries n;
  test = λ root path last o. nat_eq o.root root && same_path o.path path && same_name o.own.name last;
  tested = λ root to path q last own. refl;
  many = queries_many n;
}

-- # The law

mapped : {X Y P : Type 0} (f : X → Y) (o : Option X) (z : Y) → option_map f o ≡ Some z → ((x : X) → o ≡ Some x → f x ≡ z → P) → P
mapped f None z e k = absurd cc
mapped f (Some x) z e k = k x refl (same_Some (f x) z e)

-- the object at which the path ends
abbrev pub end_object : {k : Numbered} {x : Name} {steps : StepTrees} {c : CrdtTree} {m : Member} → LeadsTo (tables_with k) x steps c m → Object
end_object {k = k} {steps = steps} leads =
    object (start_of leads.reached.crdt)
    (before_root true (roots_of k.names) leads.root.0 + before_on true steps leads.root.1.crdt)
    (before_root false (roots_of k.names) leads.root.0 + before_on false steps leads.root.1.crdt)

-- it is among all
pub end_there : (k : Numbered) (x : Name) (steps : StepTrees) (c : CrdtTree) (m : Member) (leads : LeadsTo (tables_with k) x steps c m)
    → IsIn (end_object leads) (objects_of 0 0 (map (λ z. z.crdt) (roots_of k.names)))
end_there k x steps c m leads =
    let i = leads.root.0 in
    let root = leads.root.1 in
    let found = roots_object k.names i (roots_of k.names) root steps 0 0 leads.reached
    (located_at (λ root. same_name root.name x) (roots_of k.names) leads.root leads.is_root) leads.follows in
    (found.0, found.1 ∙ ap₂ (λ a b. Some (object (start_of leads.reached.crdt) a b)) (omega arith) (omega arith))

abbrev Calls : {X : Type 0} → (k : Numbered) → List KindStep → Member → Object → Called X → Type 0
Calls k path m o called = called ≡ taking (keys_on path) m.args (callee_of m.does (number_at o m.does))

member_there : {X : Type 0} (k : Numbered) (x : Name) (steps : StepTrees) (c : CrdtTree) (m : Member) (leads : LeadsTo (tables_with k) x steps c m) (called : Called X)
    → on_root (tables_with k) m steps leads.root ≡ Some called → member_at (tables_with k) m leads.root.0 leads.reached ≡ Some called
member_there k x steps c m leads called e =
    sym (ap (option_and_then (member_at (tables_with k) m leads.root.0)) leads.follows) ∙ e

has_member : (k : Numbered) (x : Name) (steps : StepTrees) (c : CrdtTree) (m : Member) (leads : LeadsTo (tables_with k) x steps c m)
    → member_of k.names leads.reached.crdt leads.reached.last ≡ Some m
has_member k x steps c m leads = ap (λ z. member_of k.names z leads.reached.last) leads.ends ∙ leads.has

op_law : {X : Type 0} (k : Numbered) (x : Name) (steps : StepTrees) (c : CrdtTree) (m : Member) (leads : LeadsTo (tables_with k) x steps c m) (called : Called X)
    → is_operation m.does ≡ true → option_map op_called (located (is_op_at leads.root.0 leads.reached) (path_ops k.names)) ≡ Some called
    → Calls k leads.reached.path m (end_object leads) called
op_law {X = X} k x steps c m leads called h e =
    let n = k.names in
    let r = leads.reached in
    let i = leads.root.0 in
    let root = leads.root.1 in
    let w = op_world n in
    let own = op_there m h in
    let d = m.does in
    let before : ℕ = before_root true (roots_of n) i + before_on true steps root.crdt in
    mapped op_called (located (is_op_at i r) (path_ops n)) called e (λ z is called_is.
    let there = search_there (is_op_at i r) 0 (path_ops n) z (located_is (is_op_at i r) (path_ops n) z is) in
    let parts = and_parts (nat_eq z.1.root i && same_path z.1.path r.path) (same_name z.1.own.name r.last) there.passes in
    let self : same_path r.path r.path ≡ true = itself z.1.path r.path (and_parts (nat_eq z.1.root i) (same_path z.1.path r.path) parts.0).1 in
    let placed : IsOwn w r (rank d) own.0 = op_placed n (form_of r.crdt) r.last m own.0 (has_member k x steps c m leads) own.1.is in
    let at = located_at (λ root. same_name root.name x) (roots_of n) leads.root leads.is_root in
    let zero_is : 0 + i ≡ i = omega arith in
    let law : search_from (w.test i r.path r.last) 0 (path_ops n) ≡ Some (0 + (before_root true (roots_of n) i + (before_on true steps root.crdt + rank d)), w.make i r.path own.0) =
    subst (λ j. search_from (w.test j r.path r.last) 0 (path_ops n) ≡ Some (0 + (before_root true (roots_of n) i + (before_on true steps root.crdt + rank d)), w.make j r.path own.0)) zero_is
    (root_law w 0 i (roots_of n) root steps 0 (rank d) own.0 r at leads.follows self placed) in
    let same : z ≡ (0 + (before_root true (roots_of n) i + (before_on true steps root.crdt + rank d)), w.make i r.path own.0) =
    same_Some _ _ (sym (located_is (is_op_at i r) (path_ops n) z is) ∙ law) in
    let number : 0 + (before_root true (roots_of n) i + (before_on true steps root.crdt + rank d)) + 1 ≡ before + rank d + 1 = omega arith in
    sym called_is ∙ ap op_called same
    ∙ ap₂ (λ args j. taking {X = X} (keys_on r.path) args (operation j)) own.1.args number
    ∙ ap (λ b. taking {X = X} (keys_on r.path) m.args (cond b (operation (before + rank d + 1))
    (cond (is_question d) (question (before + rank d + 1)) (value (before + rank d + 1))))) (sym h)
    ∙ ap (λ b. taking {X = X} (keys_on r.path) m.args (callee_of d (cond b (before + rank d + 1)
    (before_root false (roots_of n) i + before_on false steps root.crdt + rank d)))) (sym h))

turned : {X : Type 0} (b : Bool) (j : ℕ) → cond {A = Callee X} (not b) (value j) (question j) ≡ cond b (question j) (value j)
turned true j = refl
turned false j = refl

query_law : {X : Type 0} (k : Numbered) (x : Name) (steps : StepTrees) (c : CrdtTree) (m : Member) (leads : LeadsTo (tables_with k) x steps c m) (called : Called X)
    → is_operation m.does ≡ false → option_map query_called (located (is_query_at leads.root.0 leads.reached) (path_queries k.names)) ≡ Some called
    → Calls k leads.reached.path m (end_object leads) called
query_law {X = X} k x steps c m leads called h e =
    let n = k.names in
    let r = leads.reached in
    let i = leads.root.0 in
    let root = leads.root.1 in
    let w = query_world n in
    let own = query_there m h in
    let d = m.does in
    let before : ℕ = before_root false (roots_of n) i + before_on false steps root.crdt in
    let ops : ℕ = before_root true (roots_of n) i + before_on true steps root.crdt in
    mapped query_called (located (is_query_at i r) (path_queries n)) called e (λ z is called_is.
    let there = search_there (is_query_at i r) 0 (path_queries n) z (located_is (is_query_at i r) (path_queries n) z is) in
    let parts = and_parts (nat_eq z.1.root i && same_path z.1.path r.path) (same_name z.1.own.name r.last) there.passes in
    let self : same_path r.path r.path ≡ true = itself z.1.path r.path (and_parts (nat_eq z.1.root i) (same_path z.1.path r.path) parts.0).1 in
    let placed : IsOwn w r (rank d) own.0 = query_placed n (form_of r.crdt) r.last m own.0 (has_member k x steps c m leads) own.1.is in
    let at = located_at (λ root. same_name root.name x) (roots_of n) leads.root leads.is_root in
    let zero_is : 0 + i ≡ i = omega arith in
    let law : search_from (w.test i r.path r.last) 0 (path_queries n) ≡ Some (0 + (before_root false (roots_of n) i + (before_on false steps root.crdt + rank d)), w.make i r.path own.0) =
    subst (λ j. search_from (w.test j r.path r.last) 0 (path_queries n) ≡ Some (0 + (before_root false (roots_of n) i + (before_on false steps root.crdt + rank d)), w.make j r.path own.0)) zero_is
    (root_law w 0 i (roots_of n) root steps 0 (rank d) own.0 r at leads.follows self placed) in
    let same : z ≡ (0 + (before_root false (roots_of n) i + (before_on false steps root.crdt + rank d)), w.make i r.path own.0) =
    same_Some _ _ (sym (located_is (is_query_at i r) (path_queries n) z is) ∙ law) in
    let number : 0 + (before_root false (roots_of n) i + (before_on false steps root.crdt + rank d)) ≡ before + rank d = omega arith in
    sym called_is ∙ ap query_called same
    ∙ ap₂ (λ args j. taking {X = X} (keys_on r.path) args (cond (is_get own.0.kind) (value j) (question j))) own.1.args number
    ∙ ap (λ b. taking {X = X} (keys_on r.path) m.args (cond b (value (before + rank d)) (question (before + rank d)))) own.1.get
    ∙ ap (taking (keys_on r.path) m.args) (turned {X = X} (is_question d) (before + rank d))
    ∙ ap (λ b. taking {X = X} (keys_on r.path) m.args (cond b (operation (before + rank d))
    (cond (is_question d) (question (before + rank d)) (value (before + rank d))))) (sym h)
    ∙ ap (λ b. taking {X = X} (keys_on r.path) m.args (callee_of d (cond b (ops + rank d + 1) (before + rank d)))) (sym h))

pub called_law : {X : Type 0} (k : Numbered) (x : Name) (steps : StepTrees) (c : CrdtTree) (m : Member) (leads : LeadsTo (tables_with k) x steps c m) (called : Called X)
    → on_root (tables_with k) m steps leads.root ≡ Some called
    → called ≡ taking (keys_on leads.reached.path) m.args (callee_of m.does (number_at (end_object leads) m.does))
called_law k x steps c m leads called e = by (is_operation m.does) refl (member_there k x steps c m leads called e)
  where
    by : (b : Bool) → is_operation m.does ≡ b
        → cond b (option_map op_called (located (is_op_at leads.root.0 leads.reached) (path_ops k.names)))
        (option_map query_called (located (is_query_at leads.root.0 leads.reached) (path_queries k.names))) ≡ Some called
        → Calls k leads.reached.path m (end_object leads) called
    by true h e = op_law k x steps c m leads called h e
    by false h e = query_law k x steps c m leads called h e
