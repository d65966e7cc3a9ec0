-- What an access that begins at a root calls, by the program's operations and queries.
use Rattle.std.proofs.Common.{◌≡◌, ◌+◌, ℕ, suc, Bool, true, false, List, [], ◌∷◌, Option, Some, None, refl, ap, subst, sym, ◌∙◌, arith, inl, inr}
use Rattle.std.specs.Prelude.{slice_get, option_map, find, position}
use Rattle.std.specs.List.{AllByRecursion}
use Rattle.std.specs.Option.{option_zip}
use Rattle.std.proofs.lemmas.Bool.{and_parts, eqb-true}
use Rattle.rp_span.specs.declared.Span.{Span}
use Rattle.rp_grammar.specs.Trees.{CrdtTree, CrdtForm}
use Rattle.type_rules.specs.Names.{Name, Names, same_name}
use Rattle.rp_lang.specs.Typing.{is_get}
use Rattle.type_rules.specs.Kinds.{bool_kind, operation_kind}
use Rattle.type_rules.specs.Paths.{Member, members_of, form_of}
use Rattle.type_rules.specs.Faults.{IsOneOf}
use Rattle.desugaring.specs.Parts.{each}
use Rattle.desugaring.specs.Objects.{OwnOp, OwnQuery, own_ops, own_queries, KindStep, field, key, PathOp, PathQuery, Own, Root, all_on, all_of, ops_at, queries_at, same_step, same_path}
use Rattle.desugaring.specs.Callees.{located}
use Rattle.desugaring.proofs.Options.{both_is}
use Rattle.lawful.proofs.Basics.{kind_one}
use Rattle.lawful.proofs.Forms.{one}
use Rattle.lawful.proofs.Arms.{same_text}
use Rattle.lawful.proofs.Cons.{first_of_position}
use Rattle.lawful.proofs.Entries.{all_map}
use Rattle.lawful.proofs.Places.{all_both, all_of_each}
use Rattle.lawful.proofs.Roots.{OnPath, Made, on_path, all_changed}

-- # The first that passes, with its number

each_itself : {X : Type 0} (xs : List X) → each (λ x. Some x) xs ≡ Some xs
each_itself [] = refl
each_itself (x ∷ xs) = both_is ◌∷◌ _ _ _ _ refl (each_itself xs)

zip_there : {X Y : Type 0} (o : Option X) (p : Option Y) (z : X × Y) → option_zip o p ≡ Some z → (o ≡ Some z.0) × (p ≡ Some z.1)
zip_there None p z e = absurd cc
zip_there (Some x) None z e = absurd cc
zip_there (Some x) (Some y) z e = (ap (option_map (λ a. a.0)) e, ap (option_map (λ a. a.1)) e)

pub located_there : {X : Type 0} (test : X → Bool) (xs : List X) (z : ℕ × X) → located test xs ≡ Some z
    → (slice_get xs z.0 ≡ Some z.1) × (test z.1 ≡ true)
located_there test xs z e =
    let parts = zip_there (position test xs) (find test xs) z e in
    let f = first_of_position test (λ x. Some x) xs xs z.0 z.1 (each_itself xs) parts.0 in
    let same : f.member ≡ z.1 = one (sym f.first ∙ parts.1) in
    (f.at ∙ ap Some same, subst (λ x. test x ≡ true) same f.passes)

-- # One path

step_one : (s t : KindStep) → same_step s t ≡ true → s ≡ t
step_one (field j) (field k) e = ap field (eqb-true j k e)
step_one (key j) (key k) e = ap key (kind_one j k e)
step_one (field j) (key k) e = absurd cc
step_one (key j) (field k) e = absurd cc

pub path_one : (p q : List KindStep) → same_path p q ≡ true → p ≡ q
path_one [] [] e = refl
path_one (s ∷ p) (t ∷ q) e =
    let parts = and_parts (same_step s t) (same_path p q) e in
    ap (λ z. z ∷ p) (step_one s t parts.0) ∙ ap (λ z. t ∷ z) (path_one p q parts.1)
path_one [] (t ∷ q) e = absurd cc
path_one (s ∷ p) [] e = absurd cc

-- # What stands on the paths of all roots

-- at a root of the list, on a path from it
abbrev pub OnRoot : {X : Type 0} → Names → (ℕ → Made X) → ℕ → List Root → X → Type 0
OnRoot n Q k roots x = (i : ℕ) × (root : Root) × (slice_get roots i ≡ Some root) × OnPath n (Q (k + i)) [] root.crdt x

pub on_roots : {X : Type 0} (n : Names) (own : Own X) (Q : ℕ → Made X)
    → ((root : ℕ) (path : List KindStep) (at : Span) (form : CrdtForm) → AllByRecursion (Q root path (CrdtTree.node at form)) (own root path form))
    → (k : ℕ) (roots : List Root) → AllByRecursion (OnRoot n Q k roots) (all_of n own k roots)
on_roots n own Q made k [] = tt
on_roots n own Q made k (root ∷ roots) =
    let here : k ≡ k + 0 = omega arith in
    all_both (OnRoot n Q k (root ∷ roots)) (all_on n own k [] root.crdt) (all_of n own (k + 1) roots)
    (all_changed (OnPath n (Q k) [] root.crdt) (OnRoot n Q k (root ∷ roots)) (all_on n own k [] root.crdt)
    (λ x q. (0, root, refl, subst (λ j. OnPath n (Q j) [] root.crdt x) here q)) (on_path n own (Q k) k (made k) [] root.crdt))
    (all_changed (OnRoot n Q (k + 1) roots) (OnRoot n Q k (root ∷ roots)) (all_of n own (k + 1) roots)
    (λ x q. let next : k + 1 + q.0 ≡ k + suc q.0 = omega arith in (suc q.0, q.1, q.2, subst (λ j. OnPath n (Q j) [] q.1.crdt x) next q.3))
    (on_roots n own Q made (k + 1) roots))

-- an operation of the type at the end of its path
pub record IsOpOf (n : Names) (root : ℕ) (path : List KindStep) (c : CrdtTree) (o : PathOp) : Type 0 where
  pub root_is : o.root ≡ root
  pub path_is : o.path ≡ path
  pub own_is : IsOneOf o.own (own_ops n (form_of c))

pub record IsQueryOf (n : Names) (root : ℕ) (path : List KindStep) (c : CrdtTree) (o : PathQuery) : Type 0 where
  pub root_is : o.root ≡ root
  pub path_is : o.path ≡ path
  pub own_is : IsOneOf o.own (own_queries n (form_of c))

pub ops_made : (n : Names) (root : ℕ) (path : List KindStep) (at : Span) (form : CrdtForm)
    → AllByRecursion (IsOpOf n root path (CrdtTree.node at form)) (ops_at n root path form)
ops_made n root path at form =
    all_map (IsOpOf n root path (CrdtTree.node at form)) (λ own. record { root = root; path = path; own = own }) (own_ops n form)
    (all_of_each (λ own. IsOpOf n root path (CrdtTree.node at form) (record { root = root; path = path; own = own })) (own_ops n form)
    (λ own is. record { root_is = refl; path_is = refl; own_is = is }))

pub queries_made : (n : Names) (root : ℕ) (path : List KindStep) (at : Span) (form : CrdtForm)
    → AllByRecursion (IsQueryOf n root path (CrdtTree.node at form)) (queries_at n root path form)
queries_made n root path at form =
    all_map (IsQueryOf n root path (CrdtTree.node at form)) (λ own. record { root = root; path = path; own = own }) (own_queries n form)
    (all_of_each (λ own. IsQueryOf n root path (CrdtTree.node at form) (record { root = root; path = path; own = own })) (own_queries n form)
    (λ own is. record { root_is = refl; path_is = refl; own_is = is }))

-- # The member of a name

abbrev named_in : Names → CrdtForm → Name → Option Member
named_in n form x = find (λ m. same_name m.name x) (members_of n form)

op_case : (first own : OwnOp) (x : Name) (found : Name → Option Member) (here m : Member) → first ≡ own → same_name own.name x ≡ true
    → found first.name ≡ Some here → first.args ≡ here.args → here.result ≡ operation_kind → found x ≡ Some m
    → (own.args ≡ m.args) × (m.result ≡ operation_kind)
op_case first own x found here m is named at args result e =
    let name : x ≡ first.name = sym (same_text _ _ named) ∙ ap (λ z. z.name) (sym is) in
    let same : here ≡ m = one (sym at ∙ subst (λ y. found y ≡ Some m) name e) in
    (ap (λ z. z.args) (sym is) ∙ args ∙ ap (λ z. z.args) same, ap (λ z. z.result) (sym same) ∙ result)

pub own_op_is : (n : Names) (form : CrdtForm) (own : OwnOp) (x : Name) (m : Member) → IsOneOf own (own_ops n form) → same_name own.name x ≡ true
    → named_in n form x ≡ Some m → (own.args ≡ m.args) × (m.result ≡ operation_kind)
own_op_is n (CrdtForm.set_aw t) own x m (inl is) named e = op_case _ own x (named_in n (CrdtForm.set_aw t)) _ m is named refl refl refl e
own_op_is n (CrdtForm.set_aw t) own x m (inr (inl is)) named e = op_case _ own x (named_in n (CrdtForm.set_aw t)) _ m is named refl refl refl e
own_op_is n (CrdtForm.set_aw t) own x m (inr (inr is)) named e = absurd is
own_op_is n (CrdtForm.set_rw t) own x m (inl is) named e = op_case _ own x (named_in n (CrdtForm.set_rw t)) _ m is named refl refl refl e
own_op_is n (CrdtForm.set_rw t) own x m (inr (inl is)) named e = op_case _ own x (named_in n (CrdtForm.set_rw t)) _ m is named refl refl refl e
own_op_is n (CrdtForm.set_rw t) own x m (inr (inr is)) named e = absurd is
own_op_is n (CrdtForm.reg t) own x m (inl is) named e = op_case _ own x (named_in n (CrdtForm.reg t)) _ m is named refl refl refl e
own_op_is n (CrdtForm.reg t) own x m (inr is) named e = absurd is
own_op_is n (CrdtForm.mv_reg t) own x m (inl is) named e = op_case _ own x (named_in n (CrdtForm.mv_reg t)) _ m is named refl refl refl e
own_op_is n (CrdtForm.mv_reg t) own x m (inr is) named e = absurd is
own_op_is n CrdtForm.counter own x m (inl is) named e = op_case _ own x (named_in n CrdtForm.counter) _ m is named refl refl refl e
own_op_is n CrdtForm.counter own x m (inr is) named e = absurd is
own_op_is n (CrdtForm.map_uw t c) own x m (inl is) named e = op_case _ own x (named_in n (CrdtForm.map_uw t c)) _ m is named refl refl refl e
own_op_is n (CrdtForm.map_uw t c) own x m (inr is) named e = absurd is
own_op_is n (CrdtForm.map_dw t c) own x m (inl is) named e = op_case _ own x (named_in n (CrdtForm.map_dw t c)) _ m is named refl refl refl e
own_op_is n (CrdtForm.map_dw t c) own x m (inr is) named e = absurd is
own_op_is n (CrdtForm.struct parts) own x m is named e = absurd is

query_case : (first own : OwnQuery) (x : Name) (found : Name → Option Member) (here m : Member) → first ≡ own → same_name own.name x ≡ true
    → found first.name ≡ Some here → first.args ≡ here.args → first.result ≡ here.result → (is_get first.kind ≡ false → here.result ≡ bool_kind)
    → found x ≡ Some m → (own.args ≡ m.args) × (own.result ≡ m.result) × (is_get own.kind ≡ false → m.result ≡ bool_kind)
query_case first own x found here m is named at args result truth e =
    let name : x ≡ first.name = sym (same_text _ _ named) ∙ ap (λ z. z.name) (sym is) in
    let same : here ≡ m = one (sym at ∙ subst (λ y. found y ≡ Some m) name e) in (
      ap (λ z. z.args) (sym is) ∙ args ∙ ap (λ z. z.args) same,
      ap (λ z. z.result) (sym is) ∙ result ∙ ap (λ z. z.result) same,
      λ asks. ap (λ z. z.result) (sym same) ∙ truth (ap (λ z. is_get z.kind) is ∙ asks),
    )

-- a query that holds or not gives a truth
pub own_query_is : (n : Names) (form : CrdtForm) (own : OwnQuery) (x : Name) (m : Member) → IsOneOf own (own_queries n form) → same_name own.name x ≡ true
    → named_in n form x ≡ Some m → (own.args ≡ m.args) × (own.result ≡ m.result) × (is_get own.kind ≡ false → m.result ≡ bool_kind)
own_query_is n (CrdtForm.set_aw t) own x m (inl is) named e = query_case _ own x (named_in n (CrdtForm.set_aw t)) _ m is named refl refl refl (λ h. refl) e
own_query_is n (CrdtForm.set_aw t) own x m (inr is) named e = absurd is
own_query_is n (CrdtForm.set_rw t) own x m (inl is) named e = query_case _ own x (named_in n (CrdtForm.set_rw t)) _ m is named refl refl refl (λ h. refl) e
own_query_is n (CrdtForm.set_rw t) own x m (inr is) named e = absurd is
own_query_is n (CrdtForm.reg t) own x m (inl is) named e = query_case _ own x (named_in n (CrdtForm.reg t)) _ m is named refl refl refl (λ h. absurd cc) e
own_query_is n (CrdtForm.reg t) own x m (inr is) named e = absurd is
own_query_is n (CrdtForm.mv_reg t) own x m (inl is) named e = query_case _ own x (named_in n (CrdtForm.mv_reg t)) _ m is named refl refl refl (λ h. refl) e
own_query_is n (CrdtForm.mv_reg t) own x m (inr is) named e = absurd is
own_query_is n CrdtForm.counter own x m (inl is) named e = query_case _ own x (named_in n CrdtForm.counter) _ m is named refl refl refl (λ h. absurd cc) e
own_query_is n CrdtForm.counter own x m (inr is) named e = absurd is
own_query_is n (CrdtForm.map_uw t c) own x m (inl is) named e = query_case _ own x (named_in n (CrdtForm.map_uw t c)) _ m is named refl refl refl (λ h. refl) e
own_query_is n (CrdtForm.map_uw t c) own x m (inr is) named e = absurd is
own_query_is n (CrdtForm.map_dw t c) own x m (inl is) named e = query_case _ own x (named_in n (CrdtForm.map_dw t c)) _ m is named refl refl refl (λ h. refl) e
own_query_is n (CrdtForm.map_dw t c) own x m (inr is) named e = absurd is
own_query_is n (CrdtForm.struct parts) own x m is named e = absurd is
