-- What an access calls is found by the object at which it ends.
use Rattle.std.proofs.Common.{◌≡◌, ℕ, zero, suc, ◌+◌, Bool, true, false, ◌&&◌, cond, List, [], ◌∷◌, ◌++◌, map, Some, refl, ap, ap₂, subst, ◌∙◌, arith}
use Rattle.std.specs.List.{slice_get}
use Rattle.std.proofs.lemmas.Bool.{ne_eqb}
use Rattle.std.proofs.lemmas.Option.{same_Some}
use Rattle.rp_grammar.specs.Trees.{CrdtTree, CrdtForm, FieldTree, FieldTrees, StepTree, StepTrees}
use Rattle.type_rules.specs.Names.{Name, Names, same_name, text_of}
use Rattle.desugaring.specs.Objects.{KindStep, Reached, Root, all_of, field, field_named, follow, same_path}
use Rattle.text_tables.specs.declared.object.Object.{Object}
use Rattle.text_tables.specs.means.Counted.{many_on, object, objects_in_fields, objects_of, objects_on}
use Rattle.text_tables.proofs.PlaceLaw.{IsOwn, World, before_in, before_on, behind_field, own_at, past_there, place_law, search_from, skip_on}

-- # Among all roots

-- so many stand before those of the root of this number
abbrev pub before_root : Bool → List Root → ℕ → ℕ
before_root op [] i = 0
before_root op (root ∷ roots) zero = 0
before_root op (root ∷ roots) (suc i) = many_on op root.crdt + before_root op roots i

other_root : {X Y : Type 0} {n : Names} {op : Bool} (w : World X Y n op) (a b : ℕ) (q s : List KindStep) (last : Name) (y : Y) → (a ≡ b → ⊥)
    → w.test b q last (w.make a s y) ≡ false
other_root w a b q s last y h =
    w.tested a b s q last y ∙ ap (λ e. e && same_path s q && same_name (w.name y) last) (ne_eqb a b h)

pub root_law : {X Y : Type 0} {n : Names} {op : Bool} (w : World X Y n op) (k i : ℕ) (roots : List Root) (root : Root) (steps : StepTrees) (f j : ℕ) (y : Y) (r : Reached)
    → slice_get roots i ≡ Some root → follow n steps root.crdt ≡ Some r → same_path r.path r.path ≡ true → IsOwn w r j y
    → search_from (w.test (k + i) r.path r.last) f (all_of n (own_at w) k roots)
    ≡ Some (f + (before_root op roots i + (before_on op steps root.crdt + j)), w.make (k + i) r.path y)
root_law w k i [] root steps f j y r at h self own = absurd cc
root_law {n = n} {op = op} w k zero (one ∷ roots) root steps f j y r at h self own =
    let same : one ≡ root = same_Some one root at in
    let here : k ≡ k + 0 = omega arith in
    subst (λ i. search_from (w.test i r.path r.last) f (all_of n (own_at w) k (one ∷ roots)) ≡ Some (f + (0 + (before_on op steps root.crdt + j)), w.make i r.path y)) here
    (place_law w k [] steps one.crdt f j y (all_of n (own_at w) (k + 1) roots) r (ap (λ (z : Root). follow n steps z.crdt) same ∙ h) self own
    ∙ ap (λ (z : Root). Some (f + (before_on op steps z.crdt + j), w.make k r.path y)) same
    ∙ ap (λ m. Some (m, w.make k r.path y)) (omega arith))
root_law {n = n} {op = op} w k (suc i) (one ∷ roots) root steps f j y r at h self own =
    let next : k + 1 + i ≡ k + suc i = omega arith in
    let test = w.test (k + suc i) r.path r.last in
    skip_on w test k [] one.crdt f (all_of n (own_at w) (k + 1) roots)
    (λ s y. other_root w k (k + suc i) r.path s r.last y (λ e. omega (arith, e)))
    ∙ subst (λ m. search_from (w.test m r.path r.last) (f + many_on op one.crdt) (all_of n (own_at w) (k + 1) roots)
    ≡ Some (f + many_on op one.crdt + (before_root op roots i + (before_on op steps root.crdt + j)), w.make m r.path y)) next
    (root_law w (k + 1) i roots root steps (f + many_on op one.crdt) j y r at h self own)
    ∙ ap (λ m. Some (m, w.make (k + suc i) r.path y)) (omega arith)

-- # The object that begins there

abbrev pub IsIn : {X : Type 0} → X → List X → Type 0
IsIn x xs = (i : ℕ) × (slice_get xs i ≡ Some x)

in_front : {X : Type 0} (x : X) (xs ys : List X) → IsIn x xs → IsIn x (xs ++ ys)
in_front x xs ys at = (at.0, by xs ys at.0 at.1)
  where
    by : {X : Type 0} {x : X} (xs ys : List X) (i : ℕ) → slice_get xs i ≡ Some x → slice_get (xs ++ ys) i ≡ Some x
    by [] ys i e = absurd cc
    by (z ∷ xs) ys zero e = e
    by (z ∷ xs) ys (suc i) e = by xs ys i e

in_back : {X : Type 0} (x : X) (xs ys : List X) → IsIn x ys → IsIn x (xs ++ ys)
in_back x [] ys at = at
in_back x (z ∷ xs) ys at = let rest = in_back x xs ys at in (suc rest.0, rest.1)

abbrev pub start_of : CrdtTree → ℕ
start_of (CrdtTree.node at form) = at.from

-- that of what is reached, where so many operations and queries stand before the type
abbrev pub reached_object : ℕ → ℕ → StepTrees → CrdtTree → Reached → Object
reached_object ops queries steps c r = object (start_of r.crdt) (ops + before_on true steps c) (queries + before_on false steps c)

own_object : (ops queries : ℕ) (c : CrdtTree) (r : Reached) (x : Name) → Some (record { path = []; crdt = c; last = x }) ≡ Some r
    → IsIn (object (start_of r.crdt) (ops + 0) (queries + 0)) (objects_on ops queries c)
own_object ops queries (CrdtTree.node at form) r x h =
    let end : Reached = record { path = []; crdt = CrdtTree.node at form; last = x } in
    subst (λ (r : Reached). IsIn (object (start_of r.crdt) (ops + 0) (queries + 0)) (objects_on ops queries (CrdtTree.node at form)))
    (same_Some end r h) (0, ap₂ (λ a b. Some (object at.from a b)) (omega arith) (omega arith))

behind_own : (ops queries a b c d from : ℕ) (x : Object) (xs : List Object) → IsIn (object from (ops + 1 + a) (queries + 1 + b)) xs → 1 + a ≡ c → 1 + b ≡ d
    → IsIn (object from (ops + c) (queries + d)) (x ∷ xs)
behind_own ops queries a b c d from x xs at e g =
    (suc at.0, at.1 ∙ ap₂ (λ m k. Some (object from m k)) (omega (arith, e)) (omega (arith, g)))

field_in : (n : Names) (x : Name) (steps : StepTrees) (j : ℕ) (c : CrdtTree) (fields : FieldTrees) (ops queries : ℕ) (r : Reached) (b : Bool)
    → behind_field n steps (cond b (Some (record { number = j; crdt = c })) (field_named x (j + 1) fields)) ≡ Some r
    → ((to : Reached) → follow n steps c ≡ Some to → IsIn (reached_object ops queries steps c to) (objects_on ops queries c))
    → (behind_field n steps (field_named x (j + 1) fields) ≡ Some r
    → IsIn (object (start_of r.crdt) (ops + many_on true c + before_in true x steps fields) (queries + many_on false c + before_in false x steps fields))
    (objects_in_fields (ops + many_on true c) (queries + many_on false c) fields))
    → IsIn (object (start_of r.crdt) (ops + cond b (before_on true steps c) (many_on true c + before_in true x steps fields))
    (queries + cond b (before_on false steps c) (many_on false c + before_in false x steps fields)))
    (objects_on ops queries c ++ objects_in_fields (ops + many_on true c) (queries + many_on false c) fields)
field_in n x steps j c fields ops queries r true h inner later =
    past_there (field j) (follow n steps c) r _ h (λ to is r_is.
    subst (λ (r : Reached). IsIn (object (start_of r.crdt) (ops + before_on true steps c) (queries + before_on false steps c))
    (objects_on ops queries c ++ objects_in_fields (ops + many_on true c) (queries + many_on false c) fields)) r_is
    (in_front _ (objects_on ops queries c) _ (inner to is)))
field_in n x steps j c _ ops queries r false h inner later =
    let rest = in_back _ (objects_on ops queries c) _ (later h) in
    (rest.0, rest.1 ∙ ap₂ (λ a b. Some (object (start_of r.crdt) a b)) (omega arith) (omega arith))

mutual
  pub object_law : (n : Names) (steps : StepTrees) (c : CrdtTree) (ops queries : ℕ) (r : Reached) → follow n steps c ≡ Some r
      → IsIn (reached_object ops queries steps c r) (objects_on ops queries c)
  object_law n (StepTrees.more_steps (StepTree.dot x) steps) (CrdtTree.node at (CrdtForm.struct fields)) ops queries r h =
      let inner = field_object n (text_of x) steps 0 fields (ops + 0) (queries + 0) r h in
      (suc inner.0, inner.1 ∙ ap₂ (λ a b. Some (object (start_of r.crdt) a b)) (omega arith) (omega arith))
  object_law n (StepTrees.more_steps (StepTree.dot x) StepTrees.no_steps) (CrdtTree.node at (CrdtForm.set_aw t)) ops queries r h =
      own_object ops queries (CrdtTree.node at (CrdtForm.set_aw t)) r (text_of x) h
  object_law n (StepTrees.more_steps (StepTree.dot x) StepTrees.no_steps) (CrdtTree.node at (CrdtForm.set_rw t)) ops queries r h =
      own_object ops queries (CrdtTree.node at (CrdtForm.set_rw t)) r (text_of x) h
  object_law n (StepTrees.more_steps (StepTree.dot x) StepTrees.no_steps) (CrdtTree.node at (CrdtForm.reg t)) ops queries r h =
      own_object ops queries (CrdtTree.node at (CrdtForm.reg t)) r (text_of x) h
  object_law n (StepTrees.more_steps (StepTree.dot x) StepTrees.no_steps) (CrdtTree.node at (CrdtForm.mv_reg t)) ops queries r h =
      own_object ops queries (CrdtTree.node at (CrdtForm.mv_reg t)) r (text_of x) h
  object_law n (StepTrees.more_steps (StepTree.dot x) StepTrees.no_steps) (CrdtTree.node at CrdtForm.counter) ops queries r h =
      own_object ops queries (CrdtTree.node at CrdtForm.counter) r (text_of x) h
  object_law n (StepTrees.more_steps (StepTree.dot x) StepTrees.no_steps) (CrdtTree.node at (CrdtForm.map_uw t c)) ops queries r h =
      own_object ops queries (CrdtTree.node at (CrdtForm.map_uw t c)) r (text_of x) h
  object_law n (StepTrees.more_steps (StepTree.dot x) StepTrees.no_steps) (CrdtTree.node at (CrdtForm.map_dw t c)) ops queries r h =
      own_object ops queries (CrdtTree.node at (CrdtForm.map_dw t c)) r (text_of x) h
  object_law n (StepTrees.more_steps (StepTree.key e) steps) (CrdtTree.node at (CrdtForm.map_uw t c)) ops queries r h =
      past_there _ (follow n steps c) r _ h (λ to is r_is.
      subst (λ (r : Reached). IsIn (object (start_of r.crdt) (ops + (1 + before_on true steps c)) (queries + (1 + before_on false steps c)))
      (objects_on ops queries (CrdtTree.node at (CrdtForm.map_uw t c)))) r_is
      (behind_own ops queries (before_on true steps c) (before_on false steps c) (1 + before_on true steps c) (1 + before_on false steps c)
      (start_of to.crdt) (object at.from ops queries) (objects_on (ops + 1) (queries + 1) c)
      (object_law n steps c (ops + 1) (queries + 1) to is) refl refl))
  object_law n (StepTrees.more_steps (StepTree.key e) steps) (CrdtTree.node at (CrdtForm.map_dw t c)) ops queries r h =
      past_there _ (follow n steps c) r _ h (λ to is r_is.
      subst (λ (r : Reached). IsIn (object (start_of r.crdt) (ops + (1 + before_on true steps c)) (queries + (1 + before_on false steps c)))
      (objects_on ops queries (CrdtTree.node at (CrdtForm.map_dw t c)))) r_is
      (behind_own ops queries (before_on true steps c) (before_on false steps c) (1 + before_on true steps c) (1 + before_on false steps c)
      (start_of to.crdt) (object at.from ops queries) (objects_on (ops + 1) (queries + 1) c)
      (object_law n steps c (ops + 1) (queries + 1) to is) refl refl))
  object_law n _ _ ops queries r h = absurd cc

  field_object : (n : Names) (x : Name) (steps : StepTrees) (j : ℕ) (fields : FieldTrees) (ops queries : ℕ) (r : Reached)
      → behind_field n steps (field_named x j fields) ≡ Some r
      → IsIn (object (start_of r.crdt) (ops + before_in true x steps fields) (queries + before_in false x steps fields)) (objects_in_fields ops queries fields)
  field_object n x steps j FieldTrees.no_fields ops queries r h = absurd cc
  field_object n x steps j (FieldTrees.more_fields (FieldTree.field z c) fields) ops queries r h =
      field_in n x steps j c fields ops queries r (same_name (text_of z) x) h
      (λ to is. object_law n steps c ops queries to is)
      (λ h. field_object n x steps (j + 1) fields (ops + many_on true c) (queries + many_on false c) r h)

pub roots_object : (n : Names) (i : ℕ) (roots : List Root) (root : Root) (steps : StepTrees) (ops queries : ℕ) (r : Reached)
    → slice_get roots i ≡ Some root → follow n steps root.crdt ≡ Some r
    → IsIn (object (start_of r.crdt) (ops + (before_root true roots i + before_on true steps root.crdt))
    (queries + (before_root false roots i + before_on false steps root.crdt))) (objects_of ops queries (map (λ z. z.crdt) roots))
roots_object n i [] root steps ops queries r at h = absurd cc
roots_object n zero (one ∷ roots) root steps ops queries r at h =
    let same : one ≡ root = same_Some one root at in
    subst (λ (z : Root). IsIn (object (start_of r.crdt) (ops + (0 + before_on true steps z.crdt)) (queries + (0 + before_on false steps z.crdt)))
    (objects_of ops queries (map (λ z. z.crdt) (one ∷ roots)))) same
    (let found = in_front _ (objects_on ops queries one.crdt) (objects_of (ops + many_on true one.crdt) (queries + many_on false one.crdt) (map (λ z. z.crdt) roots))
    (object_law n steps one.crdt ops queries r (ap (λ (z : Root). follow n steps z.crdt) same ∙ h)) in
    (found.0, found.1 ∙ ap₂ (λ a b. Some (object (start_of r.crdt) a b)) (omega arith) (omega arith)))
roots_object n (suc i) (one ∷ roots) root steps ops queries r at h =
    let rest = in_back _ (objects_on ops queries one.crdt) _ (roots_object n i roots root steps (ops + many_on true one.crdt) (queries + many_on false one.crdt) r at h) in
    (rest.0, rest.1 ∙ ap₂ (λ a b. Some (object (start_of r.crdt) a b)) (omega arith) (omega arith))
