-- Where a path leads by the type rules, it leads by the text's operations and queries.
use Rattle.std.proofs.Common.{◌≡◌, ◌+◌, ℕ, zero, suc, Bool, true, false, cond, List, [], ◌∷◌, ◌++◌, Option, Some, None, refl, ap, subst, sym, ◌∙◌, arith, inl, inr}
use Rattle.std.specs.Prelude.{slice_get, filter_map, find, option_map, position}
use Rattle.std.specs.List.{cons_option}
use Rattle.std.specs.Option.{option_zip}
use Rattle.std.proofs.lemmas.List.{append_assoc}
use Rattle.rp_span.specs.declared.Span.{Span}
use Rattle.rp_grammar.specs.Trees.{Ident, CrdtTree, CrdtForm, FieldTree, FieldTrees, StepTree, StepTrees}
use Rattle.type_rules.specs.Names.{Name, Names, same_name, text_of}
use Rattle.type_rules.specs.Kinds.{kind_of}
use Rattle.type_rules.specs.Paths.{Member, Way, field_of, form_of, past_dot, to_member, walked}
use Rattle.type_rules.specs.Faults.{IsOneOf}
use Rattle.desugaring.specs.Objects.{AtField, KindStep, Own, Reached, Root, all_in_fields, all_inside, all_of, all_on, field, field_named, follow, key, past}
use Rattle.desugaring.specs.Callees.{located}
use Rattle.desugaring.proofs.Options.{map_is, then_is}
use Rattle.lawful.proofs.Forms.{one}
use Rattle.lawful.proofs.Listed.{in_left, in_right, position_there}
use Rattle.lawful.proofs.Roots.{Reaches, field_at}

-- # The first that passes

pub find_is : {X : Type 0} (test : X → Bool) (xs : List X) (x : X) → IsOneOf x xs → test x ≡ true → (y : X) × (find test xs ≡ Some y)
find_is test [] x at passes = absurd at
find_is {X} test (y ∷ xs) x at passes = by_test test y xs x (test y) refl at passes (λ h. find_is test xs x h passes) where
  by_test : {X : Type 0} (test : X → Bool) (y : X) (xs : List X) (x : X) (first : Bool) → test y ≡ first → IsOneOf x (y ∷ xs) → test x ≡ true
      → (IsOneOf x xs → (z : X) × (find test xs ≡ Some z)) → (z : X) × (cond first (Some y) (find test xs) ≡ Some z)
  by_test test y xs x true is at passes rest = (y, refl)
  by_test test y xs x false is (inl h) passes rest = absurd (apart (sym passes ∙ sym (ap test h) ∙ is)) where
    apart : true ≡ false → ⊥
    apart e = cc
  by_test test y xs x false is (inr h) passes rest = rest h

zip_is : {X Y : Type 0} (o : Option X) (p : Option Y) (x : X) (y : Y) → o ≡ Some x → p ≡ Some y → option_zip o p ≡ Some (x, y)
zip_is o p x y e h = rw (e, h) refl

pub located_is : {X : Type 0} (test : X → Bool) (xs : List X) (x : X) → IsOneOf x xs → test x ≡ true → (z : ℕ × X) × (located test xs ≡ Some z)
located_is test xs x at passes =
    let i = position_there test x xs passes at in
    let y = find_is test xs x at passes in
    ((i.0, y.0), zip_is (position test xs) (find test xs) i.0 y.0 i.1 y.1)

pub found_among : {X : Type 0} (test : X → Bool) (xs : List X) (y : X) → find test xs ≡ Some y → IsOneOf y xs × (test y ≡ true)
found_among test [] y e = absurd cc
found_among {X} test (x ∷ xs) y e = by_test test x xs y (test x) refl e (found_among test xs y) where
  by_test : {X : Type 0} (test : X → Bool) (x : X) (xs : List X) (y : X) (first : Bool) → test x ≡ first → cond first (Some x) (find test xs) ≡ Some y
      → (find test xs ≡ Some y → IsOneOf y xs × (test y ≡ true)) → IsOneOf y (x ∷ xs) × (test y ≡ true)
  by_test test x xs y true is e rest = let h = one e in (inl h, subst (λ z. test z ≡ true) h is)
  by_test test x xs y false is e rest = let r = rest e in (inr r.0, r.1)

pub among_parts : {X Y : Type 0} (h : X → Option Y) (xs : List X) (x : X) (y : Y) → IsOneOf x xs → h x ≡ Some y → IsOneOf y (filter_map h xs)
among_parts h [] x y at is = absurd at
among_parts {X} {Y} h (z ∷ xs) x y (inl e) is = by_part (h z) (filter_map h xs) y (ap h e ∙ is) where
  by_part : {Y : Type 0} (o : Option Y) (ys : List Y) (y : Y) → o ≡ Some y → IsOneOf y (cons_option o ys)
  by_part None ys y e = absurd cc
  by_part (Some w) ys y e = inl (one e)
among_parts {X} {Y} h (z ∷ xs) x y (inr e) is = by_part (h z) (filter_map h xs) y (among_parts h xs x y e is) where
  by_part : {Y : Type 0} (o : Option Y) (ys : List Y) (y : Y) → IsOneOf y ys → IsOneOf y (cons_option o ys)
  by_part None ys y at = at
  by_part (Some w) ys y at = inr at

-- # A path that leads to a member is followed

misfit_stays : (n : Names) (at : Span) (steps : StepTrees) (m : Member) → walked n (Way.misfit at) steps ≡ Way.member m → ⊥
misfit_stays n at StepTrees.no_steps m e = absurd cc
misfit_stays n at (StepTrees.more_steps s steps) m e = misfit_stays n at steps m e

-- behind an operation or a query no step fits
past_member : (n : Names) (x : Ident) (o : Option Member) (s : StepTree) (steps : StepTrees) (m : Member)
    → walked n (to_member x o) (StepTrees.more_steps s steps) ≡ Way.member m → ⊥
past_member n x None s steps m e = misfit_stays n _ steps m e
past_member n x (Some j) s steps m e = misfit_stays n _ steps m e

field_found : (x : Name) (k : ℕ) (parts : FieldTrees) (c : CrdtTree) → field_of parts x ≡ Some c → (a : AtField) × (field_named x k parts ≡ Some a) × (a.crdt ≡ c)
field_found x k FieldTrees.no_fields c e = absurd cc
field_found x k (FieldTrees.more_fields (FieldTree.field y d) others) c e =
    by_name x k d others c (same_name (text_of y) x) e (field_found x (k + 1) others c) where
      by_name : (x : Name) (k : ℕ) (d : CrdtTree) (others : FieldTrees) (c : CrdtTree) (same : Bool) → cond same (Some d) (field_of others x) ≡ Some c
          → (field_of others x ≡ Some c → (a : AtField) × (field_named x (k + 1) others ≡ Some a) × (a.crdt ≡ c))
          → (a : AtField) × (cond same (Some (record { number = k; crdt = d })) (field_named x (k + 1) others) ≡ Some a) × (a.crdt ≡ c)
      by_name x k d others c true e rest = (record { number = k; crdt = d }, refl, one e)
      by_name x k d others c false e rest = rest e

abbrev Followed : Names → StepTrees → CrdtTree → Type 0
Followed n steps c = (r : Reached) × (follow n steps c ≡ Some r)

past_key : (n : Names) (step : KindStep) (steps : StepTrees) (c : CrdtTree) → Followed n steps c → (r : Reached) × (option_map (past step) (follow n steps c) ≡ Some r)
past_key n step steps c r = (past step r.0, map_is (past step) (follow n steps c) r.0 r.1)

pub followed : (n : Names) (steps : StepTrees) (c : CrdtTree) (m : Member) → walked n (Way.came c) steps ≡ Way.member m → Followed n steps c
followed n StepTrees.no_steps c m e = absurd cc
followed n (StepTrees.more_steps (StepTree.dot x) steps) (CrdtTree.node at (CrdtForm.struct parts)) m e =
    by_field n x steps at parts m (field_of parts (text_of x)) refl e (λ c h. followed n steps c m h) where
      by_field : (n : Names) (x : Ident) (steps : StepTrees) (at : Span) (parts : FieldTrees) (m : Member) (o : Option CrdtTree) → field_of parts (text_of x) ≡ o
          → walked n (past_dot n (CrdtTree.node at (CrdtForm.struct parts)) x o) steps ≡ Way.member m
          → ((c : CrdtTree) → walked n (Way.came c) steps ≡ Way.member m → Followed n steps c)
          → Followed n (StepTrees.more_steps (StepTree.dot x) steps) (CrdtTree.node at (CrdtForm.struct parts))
      by_field n x steps at parts m None is e rest = absurd (misfit_stays n _ steps m e)
      by_field n x steps at parts m (Some c) is e rest =
          let a = field_found (text_of x) 0 parts c is in
          let r = past_key n (field a.0.number) steps a.0.crdt (subst (Followed n steps) (sym a.2) (rest c e)) in
          (r.0, then_is (λ found. option_map (past (field found.number)) (follow n steps found.crdt)) (field_named (text_of x) 0 parts) a.0 r.0 a.1 r.1)
followed n (StepTrees.more_steps (StepTree.dot x) StepTrees.no_steps) (CrdtTree.node at (CrdtForm.set_aw t)) m e = (_, refl)
followed n (StepTrees.more_steps (StepTree.dot x) StepTrees.no_steps) (CrdtTree.node at (CrdtForm.set_rw t)) m e = (_, refl)
followed n (StepTrees.more_steps (StepTree.dot x) StepTrees.no_steps) (CrdtTree.node at (CrdtForm.reg t)) m e = (_, refl)
followed n (StepTrees.more_steps (StepTree.dot x) StepTrees.no_steps) (CrdtTree.node at (CrdtForm.mv_reg t)) m e = (_, refl)
followed n (StepTrees.more_steps (StepTree.dot x) StepTrees.no_steps) (CrdtTree.node at CrdtForm.counter) m e = (_, refl)
followed n (StepTrees.more_steps (StepTree.dot x) StepTrees.no_steps) (CrdtTree.node at (CrdtForm.map_uw t c)) m e = (_, refl)
followed n (StepTrees.more_steps (StepTree.dot x) StepTrees.no_steps) (CrdtTree.node at (CrdtForm.map_dw t c)) m e = (_, refl)
followed n (StepTrees.more_steps (StepTree.dot x) (StepTrees.more_steps s steps)) (CrdtTree.node at (CrdtForm.set_aw t)) m e = absurd (past_member n x _ s steps m e)
followed n (StepTrees.more_steps (StepTree.dot x) (StepTrees.more_steps s steps)) (CrdtTree.node at (CrdtForm.set_rw t)) m e = absurd (past_member n x _ s steps m e)
followed n (StepTrees.more_steps (StepTree.dot x) (StepTrees.more_steps s steps)) (CrdtTree.node at (CrdtForm.reg t)) m e = absurd (past_member n x _ s steps m e)
followed n (StepTrees.more_steps (StepTree.dot x) (StepTrees.more_steps s steps)) (CrdtTree.node at (CrdtForm.mv_reg t)) m e = absurd (past_member n x _ s steps m e)
followed n (StepTrees.more_steps (StepTree.dot x) (StepTrees.more_steps s steps)) (CrdtTree.node at CrdtForm.counter) m e = absurd (past_member n x _ s steps m e)
followed n (StepTrees.more_steps (StepTree.dot x) (StepTrees.more_steps s steps)) (CrdtTree.node at (CrdtForm.map_uw t c)) m e = absurd (past_member n x _ s steps m e)
followed n (StepTrees.more_steps (StepTree.dot x) (StepTrees.more_steps s steps)) (CrdtTree.node at (CrdtForm.map_dw t c)) m e = absurd (past_member n x _ s steps m e)
followed n (StepTrees.more_steps (StepTree.key k) steps) (CrdtTree.node at (CrdtForm.map_uw t c)) m e = past_key n (key (kind_of n t)) steps c (followed n steps c m e)
followed n (StepTrees.more_steps (StepTree.key k) steps) (CrdtTree.node at (CrdtForm.map_dw t c)) m e = past_key n (key (kind_of n t)) steps c (followed n steps c m e)
followed n (StepTrees.more_steps (StepTree.key k) steps) (CrdtTree.node at (CrdtForm.set_aw t)) m e = absurd (misfit_stays n _ steps m e)
followed n (StepTrees.more_steps (StepTree.key k) steps) (CrdtTree.node at (CrdtForm.set_rw t)) m e = absurd (misfit_stays n _ steps m e)
followed n (StepTrees.more_steps (StepTree.key k) steps) (CrdtTree.node at (CrdtForm.reg t)) m e = absurd (misfit_stays n _ steps m e)
followed n (StepTrees.more_steps (StepTree.key k) steps) (CrdtTree.node at (CrdtForm.mv_reg t)) m e = absurd (misfit_stays n _ steps m e)
followed n (StepTrees.more_steps (StepTree.key k) steps) (CrdtTree.node at CrdtForm.counter) m e = absurd (misfit_stays n _ steps m e)
followed n (StepTrees.more_steps (StepTree.key k) steps) (CrdtTree.node at (CrdtForm.struct parts)) m e = absurd (misfit_stays n _ steps m e)
followed n (StepTrees.more_steps (StepTree.returned s) steps) c m e = absurd (misfit_stays n _ steps m e)

-- # What stands at the end of a path stands among all

at_end_of : (path : List KindStep) → path ≡ path ++ []
at_end_of [] = refl
at_end_of (s ∷ path) = ap (λ p. s ∷ p) (at_end_of path)

in_fields : {X : Type 0} (n : Names) (own : Own X) (root : ℕ) (path : List KindStep) (k i j : ℕ) (parts : FieldTrees) (c : CrdtTree) (y : X) → k + i ≡ j
    → field_at i parts ≡ Some c → IsOneOf y (all_on n own root (path ++ field j ∷ []) c) → IsOneOf y (all_in_fields n own root path k parts)
in_fields n own root path k i j FieldTrees.no_fields c y number is at = absurd cc
in_fields n own root path k zero j (FieldTrees.more_fields (FieldTree.field x d) others) c y number is at =
    let same : j ≡ k = omega (arith, number) in
    in_left y (all_on n own root (path ++ field k ∷ []) d) (all_in_fields n own root path (k + 1) others)
    (subst (λ z. IsOneOf y (all_on n own root (path ++ field z ∷ []) d)) same
    (subst (λ z. IsOneOf y (all_on n own root (path ++ field j ∷ []) z)) (sym (one is)) at))
in_fields n own root path k (suc i) j (FieldTrees.more_fields (FieldTree.field x d) others) c y number is at =
    let next : k + 1 + i ≡ j = omega (arith, number) in
    in_right y (all_on n own root (path ++ field k ∷ []) d) (all_in_fields n own root path (k + 1) others) (in_fields n own root path (k + 1) i j others c y next is at)

pub on_path : {X : Type 0} (n : Names) (own : Own X) (root : ℕ) (path : List KindStep) (c : CrdtTree) (suffix : List KindStep) (d : CrdtTree) (y : X)
    → Reaches n c suffix d → IsOneOf y (own root (path ++ suffix) (form_of d)) → IsOneOf y (all_on n own root path c)
on_path n own root path (CrdtTree.node s form) suffix d y Reaches.here at =
    in_left y (own root path form) (all_inside n own root path form) (subst (λ p. IsOneOf y (own root p form)) (sym (at_end_of path)) at)
on_path n own root path c suffix d y (Reaches.at_field {parts = parts} {k = k} {c = inner} {path = rest} is r) at =
    let number : 0 + k ≡ k = omega arith in
    in_right y (own root path (CrdtForm.struct parts)) (all_in_fields n own root path 0 parts)
    (in_fields n own root path 0 k k parts inner y number is (on_path n own root (path ++ field k ∷ []) inner rest d y r
    (subst (λ p. IsOneOf y (own root p (form_of d))) (sym (append_assoc path (field k ∷ []) rest)) at)))
on_path n own root path c suffix d y (Reaches.at_key_uw {t = t} {c = inner} {path = rest} r) at =
    let k = key (kind_of n t) in
    in_right y (own root path (CrdtForm.map_uw t inner)) (all_on n own root (path ++ k ∷ []) inner)
    (on_path n own root (path ++ k ∷ []) inner rest d y r (subst (λ p. IsOneOf y (own root p (form_of d))) (sym (append_assoc path (k ∷ []) rest)) at))
on_path n own root path c suffix d y (Reaches.at_key_dw {t = t} {c = inner} {path = rest} r) at =
    let k = key (kind_of n t) in
    in_right y (own root path (CrdtForm.map_dw t inner)) (all_on n own root (path ++ k ∷ []) inner)
    (on_path n own root (path ++ k ∷ []) inner rest d y r (subst (λ p. IsOneOf y (own root p (form_of d))) (sym (append_assoc path (k ∷ []) rest)) at))

pub on_root : {X : Type 0} (n : Names) (own : Own X) (k i j : ℕ) (roots : List Root) (root : Root) (y : X) → k + i ≡ j → slice_get roots i ≡ Some root
    → IsOneOf y (all_on n own j [] root.crdt) → IsOneOf y (all_of n own k roots)
on_root n own k i j [] root y number is at = absurd cc
on_root n own k zero j (first ∷ roots) root y number is at =
    let same : j ≡ k = omega (arith, number) in
    in_left y (all_on n own k [] first.crdt) (all_of n own (k + 1) roots)
    (subst (λ z. IsOneOf y (all_on n own z [] first.crdt)) same (subst (λ z. IsOneOf y (all_on n own j [] z.crdt)) (sym (one is)) at))
on_root n own k (suc i) j (first ∷ roots) root y number is at =
    let next : k + 1 + i ≡ j = omega (arith, number) in
    in_right y (all_on n own k [] first.crdt) (all_of n own (k + 1) roots) (on_root n own (k + 1) i j roots root y next is at)
