-- The number of an operation or a query is that of its root's first and its place among those on the root.
use Rattle.std.proofs.Common.{◌≡◌, ℕ, ◌+◌, ◌≤◌, Bool, true, false, ◌&&◌, cond, List, [], ◌∷◌, ◌++◌, length, map, Option, Some, None, refl, sym, ap, ap₂, subst, ◌∙◌, arith}
use Rattle.std.specs.Prelude.{nat_eq, if◌then◌else◌}
use Rattle.std.specs.Option.{option_and_then, option_map}
use Rattle.std.proofs.lemmas.Bool.{eq-eqb, ne_eqb}
use Rattle.std.proofs.lemmas.List.{append-nil, append_assoc}
use Rattle.std.proofs.lemmas.Option.{same_Some}
use Rattle.rp_span.specs.declared.Span.{Span}
use Rattle.rp_grammar.specs.Trees.{CrdtTree, CrdtForm, FieldTree, FieldTrees, StepTree, StepTrees}
use Rattle.type_rules.specs.Names.{Name, Names, same_name, text_of}
use Rattle.type_rules.specs.Kinds.{kind_of}
use Rattle.type_rules.specs.Paths.{form_of}
use Rattle.desugaring.specs.Objects.{AtField, KindStep, Reached, all_in_fields, all_inside, all_on, field, field_named, follow, key, past, same_path, same_step}
use Rattle.text_tables.specs.means.Counted.{many_in_fields, many_inside, many_on, own_many}

-- the first that passes, with its number, where the first of all has the number f
abbrev pub search_from : {X : Type 0} → (X → Bool) → ℕ → List X → Option (ℕ × X)
search_from test f [] = None
search_from test f (x ∷ xs) = if test x then Some (f, x) else search_from test (f + 1) xs

-- operations, or queries: how one is made, and when it is the one that stands on a path
pub record World (X Y : Type 0) (n : Names) (op : Bool) : Type 0 where
  pub make : ℕ → List KindStep → Y → X
  pub name : Y → Name
  pub list : CrdtForm → List Y
  pub test : ℕ → List KindStep → Name → X → Bool
  pub tested : (root to : ℕ) (path q : List KindStep) (last : Name) (y : Y)
      → test to q last (make root path y) ≡ (nat_eq root to && same_path path q && same_name (name y) last)
  pub many : (form : CrdtForm) → length (list form) ≡ own_many op form

abbrev pub own_at : {X Y : Type 0} {n : Names} {op : Bool} → World X Y n op → ℕ → List KindStep → CrdtForm → List X
own_at w root path form = map (w.make root path) (w.list form)

-- what is called there is this one, at this place among those that the type has itself
abbrev pub IsOwn : {X Y : Type 0} {n : Names} {op : Bool} → World X Y n op → Reached → ℕ → Y → Type 0
IsOwn w r k y = search_from (λ y. same_name (w.name y) r.last) 0 (w.list (form_of r.crdt)) ≡ Some (k, y)

-- so many stand before those that the type has itself to which the steps lead
abbrev mutual
  pub before_on : Bool → StepTrees → CrdtTree → ℕ
  before_on op (StepTrees.more_steps (StepTree.dot x) steps) (CrdtTree.node at (CrdtForm.struct fields)) =
      before_in op (text_of x) steps fields
  before_on op (StepTrees.more_steps (StepTree.key e) steps) (CrdtTree.node at (CrdtForm.map_uw t c)) = 1 + before_on op steps c
  before_on op (StepTrees.more_steps (StepTree.key e) steps) (CrdtTree.node at (CrdtForm.map_dw t c)) = 1 + before_on op steps c
  before_on op _ _ = 0

  pub before_in : Bool → Name → StepTrees → FieldTrees → ℕ
  before_in op x steps FieldTrees.no_fields = 0
  before_in op x steps (FieldTrees.more_fields (FieldTree.field y c) fields) =
      if same_name (text_of y) x then before_on op steps c else many_on op c + before_in op x steps fields

-- # Paths

prefix : (p s t : List KindStep) → same_path (p ++ s) (p ++ t) ≡ (same_path p p && same_path s t)
prefix [] s t = refl
prefix (x ∷ p) s t = by (same_step x x) (prefix p s t)
  where
    by : (b : Bool) → same_path (p ++ s) (p ++ t) ≡ (same_path p p && same_path s t)
        → (b && same_path (p ++ s) (p ++ t)) ≡ ((b && same_path p p) && same_path s t)
    by true later = later
    by false later = refl

last_false : (a b c : Bool) → b ≡ false → (a && b && c) ≡ false
last_false true b c e = ap (λ b. b && c) e
last_false false b c e = refl

apart : {X Y : Type 0} {n : Names} {op : Bool} (w : World X Y n op) (root : ℕ) (p s t : List KindStep) (last : Name) (y : Y) → same_path s t ≡ false
    → w.test root (p ++ t) last (w.make root (p ++ s) y) ≡ false
apart w root p s t last y e =
    w.tested root root (p ++ s) (p ++ t) last y
    ∙ last_false (nat_eq root root) (same_path (p ++ s) (p ++ t)) (same_name (w.name y) last)
    (prefix p s t ∙ ap (λ b. same_path p p && b) e ∙ none (same_path p p))
  where
    none : (b : Bool) → (b && false) ≡ false
    none true = refl
    none false = refl

-- # What isn't it is passed over

abbrev Misses : {X Y : Type 0} {n : Names} {op : Bool} → World X Y n op → (X → Bool) → ℕ → List KindStep → Type 0
Misses {Y = Y} w test root p = (s : List KindStep) (y : Y) → test (w.make root (p ++ s) y) ≡ false

skip_map : {X Y : Type 0} (test : X → Bool) (g : Y → X) (f : ℕ) (ys : List Y) (rest : List X) → ((y : Y) → test (g y) ≡ false)
    → search_from test f (map g ys ++ rest) ≡ search_from test (f + length ys) rest
skip_map test g f [] rest h = ap (λ m. search_from test m rest) (omega arith)
skip_map test g f (y ∷ ys) rest h =
    ap (λ b. cond b (Some (f, g y)) (search_from test (f + 1) (map g ys ++ rest))) (h y)
    ∙ skip_map test g (f + 1) ys rest h ∙ ap (λ m. search_from test m rest) (omega arith)

further : {X Y : Type 0} {n : Names} {op : Bool} (w : World X Y n op) (test : X → Bool) (root : ℕ) (p : List KindStep) (x : KindStep)
    → Misses w test root p → Misses w test root (p ++ x ∷ [])
further w test root p x m s y = ap (λ q. test (w.make root q y)) (append_assoc p (x ∷ []) s) ∙ m (x ∷ s) y

mutual
  pub skip_on : {X Y : Type 0} {n : Names} {op : Bool} (w : World X Y n op) (test : X → Bool) (root : ℕ) (p : List KindStep) (c : CrdtTree) (f : ℕ) (rest : List X)
      → Misses w test root p → search_from test f (all_on n (own_at w) root p c ++ rest) ≡ search_from test (f + many_on op c) rest
  skip_on {n = n} {op = op} w test root p (CrdtTree.node at form) f rest m =
      ap (search_from test f) (append_assoc (map (w.make root p) (w.list form)) (all_inside n (own_at w) root p form) rest)
      ∙ skip_map test (w.make root p) f (w.list form) (all_inside n (own_at w) root p form ++ rest)
      (λ y. ap (λ q. test (w.make root q y)) (sym (append-nil p)) ∙ m [] y)
      ∙ ap (λ k. search_from test (f + k) (all_inside n (own_at w) root p form ++ rest)) (w.many form)
      ∙ skip_inside w test root p form (f + own_many op form) rest m
      ∙ ap (λ k. search_from test k rest) (omega arith)

  skip_inside : {X Y : Type 0} {n : Names} {op : Bool} (w : World X Y n op) (test : X → Bool) (root : ℕ) (p : List KindStep) (form : CrdtForm) (f : ℕ) (rest : List X)
      → Misses w test root p → search_from test f (all_inside n (own_at w) root p form ++ rest) ≡ search_from test (f + many_inside op form) rest
  skip_inside w test root p (CrdtForm.set_aw t) f rest m = ap (λ k. search_from test k rest) (omega arith)
  skip_inside w test root p (CrdtForm.set_rw t) f rest m = ap (λ k. search_from test k rest) (omega arith)
  skip_inside w test root p (CrdtForm.reg t) f rest m = ap (λ k. search_from test k rest) (omega arith)
  skip_inside w test root p (CrdtForm.mv_reg t) f rest m = ap (λ k. search_from test k rest) (omega arith)
  skip_inside w test root p CrdtForm.counter f rest m = ap (λ k. search_from test k rest) (omega arith)
  skip_inside {n = n} w test root p (CrdtForm.map_uw t c) f rest m =
      skip_on w test root (p ++ key (kind_of n t) ∷ []) c f rest (further w test root p (key (kind_of n t)) m)
  skip_inside {n = n} w test root p (CrdtForm.map_dw t c) f rest m =
      skip_on w test root (p ++ key (kind_of n t) ∷ []) c f rest (further w test root p (key (kind_of n t)) m)
  skip_inside w test root p (CrdtForm.struct fields) f rest m = skip_fields w test root p 0 fields f rest m

  skip_fields : {X Y : Type 0} {n : Names} {op : Bool} (w : World X Y n op) (test : X → Bool) (root : ℕ) (p : List KindStep) (j : ℕ) (fields : FieldTrees) (f : ℕ) (rest : List X)
      → Misses w test root p → search_from test f (all_in_fields n (own_at w) root p j fields ++ rest) ≡ search_from test (f + many_in_fields op fields) rest
  skip_fields w test root p j FieldTrees.no_fields f rest m = ap (λ k. search_from test k rest) (omega arith)
  skip_fields {n = n} {op = op} w test root p j (FieldTrees.more_fields (FieldTree.field x c) fields) f rest m =
      ap (search_from test f) (append_assoc (all_on n (own_at w) root (p ++ field j ∷ []) c) (all_in_fields n (own_at w) root p (j + 1) fields) rest)
      ∙ skip_on w test root (p ++ field j ∷ []) c f (all_in_fields n (own_at w) root p (j + 1) fields ++ rest) (further w test root p (field j) m)
      ∙ skip_fields w test root p (j + 1) fields (f + many_on op c) rest m
      ∙ ap (λ k. search_from test k rest) (omega arith)

-- # It is found

found_map : {X Y : Type 0} (test : X → Bool) (g : Y → X) (at : Y → Bool) (f i : ℕ) (ys : List Y) (rest : List X) (k : ℕ) (z : Y)
    → ((y : Y) → test (g y) ≡ at y) → search_from at i ys ≡ Some (k, z) → search_from test (f + i) (map g ys ++ rest) ≡ Some (f + k, g z)
found_map test g at f i [] rest k z h e = absurd cc
found_map test g at f i (y ∷ ys) rest k z h e =
    ap (λ b. cond b (Some (f + i, g y)) (search_from test (f + i + 1) (map g ys ++ rest))) (h y)
    ∙ by (at y) (λ e. found_map test g at f (i + 1) ys rest k z h e) e
  where
    by : (b : Bool)
        → (search_from at (i + 1) ys ≡ Some (k, z) → search_from test (f + (i + 1)) (map g ys ++ rest) ≡ Some (f + k, g z))
        → cond b (Some (i, y)) (search_from at (i + 1) ys) ≡ Some (k, z)
        → cond b (Some (f + i, g y)) (search_from test (f + i + 1) (map g ys ++ rest)) ≡ Some (f + k, g z)
    by true later e = ap (λ o. option_map (λ q. (f + q.0, g q.1)) o) e
    by false later e = ap (λ m. search_from test m (map g ys ++ rest)) (omega arith) ∙ later e

-- what a type has itself
leaf : {X Y : Type 0} {n : Names} {op : Bool} (w : World X Y n op) (root : ℕ) (p : List KindStep) (form : CrdtForm) (x : Name) (f k : ℕ) (y : Y) (rest : List X)
    → same_path p p ≡ true → search_from (λ y. same_name (w.name y) x) 0 (w.list form) ≡ Some (k, y)
    → search_from (w.test root p x) f (map (w.make root p) (w.list form) ++ rest) ≡ Some (f + 0 + k, w.make root p y)
leaf w root p form x f k y rest self e =
    ap (λ m. search_from (w.test root p x) m (map (w.make root p) (w.list form) ++ rest)) (omega arith)
    ∙ found_map (w.test root p x) (w.make root p) (λ y. same_name (w.name y) x) f 0 (w.list form) rest k y
    (λ y. w.tested root root p p x y
    ∙ ap (λ b. b && same_path p p && same_name (w.name y) x) (eq-eqb root root refl)
    ∙ ap (λ b. b && same_name (w.name y) x) self)
    e
    ∙ ap (λ m. Some (m, w.make root p y)) (omega arith)

pub past_there : (step : KindStep) (o : Option Reached) (r : Reached) (P : Type 0) → option_map (past step) o ≡ Some r
    → ((to : Reached) → o ≡ Some to → past step to ≡ r → P) → P
past_there step None r P e use_it = absurd cc
past_there step (Some to) r P e use_it = use_it to refl (same_Some (past step to) r e)

no_field_at : (j k : ℕ) (s t : List KindStep) → (j ≡ k → ⊥) → same_path (field j ∷ s) (field k ∷ t) ≡ false
no_field_at j k s t h = ap (λ b. b && same_path s t) (ne_eqb j k h)

later_field : (x : Name) (j : ℕ) (fields : FieldTrees) (a : AtField) → field_named x j fields ≡ Some a → j ≤ a.number
later_field x j FieldTrees.no_fields a e = absurd cc
later_field x j (FieldTrees.more_fields (FieldTree.field y c) fields) a e = by (same_name (text_of y) x) (later_field x (j + 1) fields a) e
  where
    by : (b : Bool) → (field_named x (j + 1) fields ≡ Some a → j + 1 ≤ a.number) → cond b (Some (record { number = j; crdt = c })) (field_named x (j + 1) fields) ≡ Some a → j ≤ a.number
    by true later e = let same : j ≡ a.number = ap (λ (a : AtField). a.number) (same_Some (record { number = j; crdt = c }) a e) in omega arith
    by false later e = let above = later e in omega arith

abbrev pub behind_field : Names → StepTrees → Option AtField → Option Reached
behind_field n steps o = option_and_then (λ found. option_map (past (field found.number)) (follow n steps found.crdt)) o

-- it is found among these, behind so many
abbrev pub Found : {X Y : Type 0} {n : Names} {op : Bool} → World X Y n op → ℕ → List KindStep → Reached → ℕ → ℕ → Y → List X → Type 0
Found w root p r f k y xs = search_from (w.test root (p ++ r.path) r.last) f xs ≡ Some (f + k, w.make root (p ++ r.path) y)

abbrev pub IsSelf : List KindStep → Reached → Type 0
IsSelf p r = same_path (p ++ r.path) (p ++ r.path) ≡ true

leaf_law : {X Y : Type 0} {n : Names} {op : Bool} (w : World X Y n op) (root : ℕ) (p : List KindStep) (at : Span) (form : CrdtForm) (x : Name) (f k : ℕ) (y : Y) (rest : List X) (r : Reached)
    → Some (record { path = []; crdt = CrdtTree.node at form; last = x }) ≡ Some r
    → IsSelf p r → IsOwn w r k y → Found w root p r f (0 + k) y (all_on n (own_at w) root p (CrdtTree.node at form) ++ rest)
leaf_law {n = n} w root p at form x f k y rest r h =
    let end : Reached = record { path = []; crdt = CrdtTree.node at form; last = x } in
    subst (λ (r : Reached). IsSelf p r → IsOwn w r k y → Found w root p r f (0 + k) y (all_on n (own_at w) root p (CrdtTree.node at form) ++ rest))
    (same_Some end r h)
    (λ self own.
    ap (λ q. search_from (w.test root q x) f ((map (w.make root p) (w.list form) ++ all_inside n (own_at w) root p form) ++ rest)) (append-nil p)
    ∙ ap (search_from (w.test root p x) f) (append_assoc (map (w.make root p) (w.list form)) (all_inside n (own_at w) root p form) rest)
    ∙ leaf w root p form x f k y (all_inside n (own_at w) root p form ++ rest)
    (subst (λ q. same_path q q ≡ true) (append-nil p) self) own
    ∙ ap₂ (λ m q. Some (m, w.make root q y)) (omega arith) (sym (append-nil p)))

empty : {Y : Type 0} (ys : List Y) → length ys ≡ 0 → ys ≡ []
empty [] e = refl
empty (y ∷ ys) e = absurd (omega (arith, e))

-- what was reached from one step further
longer : (p : List KindStep) (s : KindStep) (to : Reached) → IsSelf p (past s to) → IsSelf (p ++ s ∷ []) to
longer p s to self = subst (λ q. same_path q q ≡ true) (sym (append_assoc p (s ∷ []) to.path)) self

nearer : {X Y : Type 0} {n : Names} {op : Bool} (w : World X Y n op) (root : ℕ) (p : List KindStep) (s : KindStep) (to : Reached) (f k : ℕ) (y : Y) (xs : List X)
    → Found w root (p ++ s ∷ []) to f k y xs → Found w root p (past s to) f k y xs
nearer w root p s to f k y xs e =
    subst (λ q. search_from (w.test root q to.last) f xs ≡ Some (f + k, w.make root q y)) (append_assoc p (s ∷ []) to.path) e

key_step : {X Y : Type 0} {n : Names} {op : Bool} (w : World X Y n op) (root : ℕ) (p : List KindStep) (s : KindStep) (form : CrdtForm) (f m k : ℕ) (y : Y) (xs rest : List X) (to : Reached)
    → same_path [] (s ∷ to.path) ≡ false
    → Found w root p (past s to) (f + own_many op form) k y (xs ++ rest)
    → own_many op form + k ≡ m
    → Found w root p (past s to) f m y ((map (w.make root p) (w.list form) ++ xs) ++ rest)
key_step {op = op} w root p s form f m k y xs rest to none e is =
    let test = w.test root (p ++ s ∷ to.path) to.last in
    ap (search_from test f) (append_assoc (map (w.make root p) (w.list form)) xs rest)
    ∙ skip_map test (w.make root p) f (w.list form) (xs ++ rest)
    (λ y. ap (λ q. test (w.make root q y)) (sym (append-nil p)) ∙ apart w root p [] (s ∷ to.path) to.last y none)
    ∙ ap (λ m. search_from test (f + m) (xs ++ rest)) (w.many form)
    ∙ e
    ∙ ap (λ m. Some (m, w.make root (p ++ s ∷ to.path) y)) (omega (arith, is))

passed : {X Y : Type 0} {n : Names} {op : Bool} (w : World X Y n op) (root : ℕ) (p : List KindStep) (x : Name) (steps : StepTrees) (j : ℕ) (fields : FieldTrees) (r : Reached)
    → behind_field n steps (field_named x (j + 1) fields) ≡ Some r
    → Misses w (w.test root (p ++ r.path) r.last) root (p ++ field j ∷ [])
passed {n = n} w root p x steps j fields r h = by (field_named x (j + 1) fields) refl h
  where
    by : (o : Option AtField) → field_named x (j + 1) fields ≡ o → behind_field n steps o ≡ Some r
        → Misses w (w.test root (p ++ r.path) r.last) root (p ++ field j ∷ [])
    by None at h = absurd cc
    by (Some a) at h =
        past_there (field a.number) (follow n steps a.crdt) r _ h (λ to is r_is. λ s y.
        ap (λ (r : Reached). w.test root (p ++ r.path) r.last (w.make root ((p ++ field j ∷ []) ++ s) y)) (sym r_is)
        ∙ ap (λ q. w.test root (p ++ field a.number ∷ to.path) to.last (w.make root q y)) (append_assoc p (field j ∷ []) s)
        ∙ apart w root p (field j ∷ s) (field a.number ∷ to.path) to.last y
        (no_field_at j a.number s to.path (λ same. omega (arith, same, later_field x (j + 1) fields a at))))

by_name : {X Y : Type 0} {n : Names} {op : Bool} (w : World X Y n op) (root : ℕ) (p : List KindStep) (x : Name) (steps : StepTrees) (j : ℕ) (c : CrdtTree) (fields : FieldTrees) (f k : ℕ) (y : Y) (rest : List X) (r : Reached)
    (b : Bool) → behind_field n steps (cond b (Some (record { number = j; crdt = c })) (field_named x (j + 1) fields)) ≡ Some r
    → IsSelf p r → IsOwn w r k y
    → ((to : Reached) → follow n steps c ≡ Some to → IsSelf (p ++ field j ∷ []) to → IsOwn w to k y
    → Found w root (p ++ field j ∷ []) to f (before_on op steps c + k) y
    (all_on n (own_at w) root (p ++ field j ∷ []) c ++ (all_in_fields n (own_at w) root p (j + 1) fields ++ rest)))
    → (behind_field n steps (field_named x (j + 1) fields) ≡ Some r → IsSelf p r → IsOwn w r k y
    → Found w root p r (f + many_on op c) (before_in op x steps fields + k) y (all_in_fields n (own_at w) root p (j + 1) fields ++ rest))
    → Found w root p r f (cond b (before_on op steps c) (many_on op c + before_in op x steps fields) + k) y
    ((all_on n (own_at w) root (p ++ field j ∷ []) c ++ all_in_fields n (own_at w) root p (j + 1) fields) ++ rest)
by_name {n = n} {op = op} w root p x steps j c fields f k y rest r true h self own inner later =
    past_there (field j) (follow n steps c) r _ h (λ to is r_is.
    subst (λ (r : Reached). IsSelf p r → IsOwn w r k y → Found w root p r f (before_on op steps c + k) y
    ((all_on n (own_at w) root (p ++ field j ∷ []) c ++ all_in_fields n (own_at w) root p (j + 1) fields) ++ rest))
    r_is
    (λ self own.
    ap (search_from (w.test root (p ++ field j ∷ to.path) to.last) f)
    (append_assoc (all_on n (own_at w) root (p ++ field j ∷ []) c) (all_in_fields n (own_at w) root p (j + 1) fields) rest)
    ∙ nearer w root p (field j) to f (before_on op steps c + k) y _ (inner to is (longer p (field j) to self) own))
    self own)
by_name {n = n} {op = op} w root p x steps j c fields f k y rest r false h self own inner later =
    ap (search_from (w.test root (p ++ r.path) r.last) f)
    (append_assoc (all_on n (own_at w) root (p ++ field j ∷ []) c) (all_in_fields n (own_at w) root p (j + 1) fields) rest)
    ∙ skip_on w (w.test root (p ++ r.path) r.last) root (p ++ field j ∷ []) c f (all_in_fields n (own_at w) root p (j + 1) fields ++ rest)
    (passed w root p x steps j fields r h)
    ∙ later h self own
    ∙ ap (λ m. Some (m, w.make root (p ++ r.path) y)) (omega arith)

mutual
  pub place_law : {X Y : Type 0} {n : Names} {op : Bool} (w : World X Y n op) (root : ℕ) (p : List KindStep) (steps : StepTrees) (c : CrdtTree) (f k : ℕ) (y : Y) (rest : List X) (r : Reached)
      → follow n steps c ≡ Some r → IsSelf p r → IsOwn w r k y
      → Found w root p r f (before_on op steps c + k) y (all_on n (own_at w) root p c ++ rest)
  place_law {n = n} {op = op} w root p (StepTrees.more_steps (StepTree.dot x) steps) (CrdtTree.node at (CrdtForm.struct fields)) f k y rest r h self own =
      ap (λ ys. search_from (w.test root (p ++ r.path) r.last) f ((map (w.make root p) ys ++ all_in_fields n (own_at w) root p 0 fields) ++ rest))
      (empty (w.list (CrdtForm.struct fields)) (w.many (CrdtForm.struct fields)))
      ∙ field_law w root p (text_of x) steps 0 fields f k y rest r h self own
  place_law w root p (StepTrees.more_steps (StepTree.dot x) StepTrees.no_steps) (CrdtTree.node at (CrdtForm.set_aw t)) f k y rest r h self own =
      leaf_law w root p at (CrdtForm.set_aw t) (text_of x) f k y rest r h self own
  place_law w root p (StepTrees.more_steps (StepTree.dot x) StepTrees.no_steps) (CrdtTree.node at (CrdtForm.set_rw t)) f k y rest r h self own =
      leaf_law w root p at (CrdtForm.set_rw t) (text_of x) f k y rest r h self own
  place_law w root p (StepTrees.more_steps (StepTree.dot x) StepTrees.no_steps) (CrdtTree.node at (CrdtForm.reg t)) f k y rest r h self own =
      leaf_law w root p at (CrdtForm.reg t) (text_of x) f k y rest r h self own
  place_law w root p (StepTrees.more_steps (StepTree.dot x) StepTrees.no_steps) (CrdtTree.node at (CrdtForm.mv_reg t)) f k y rest r h self own =
      leaf_law w root p at (CrdtForm.mv_reg t) (text_of x) f k y rest r h self own
  place_law w root p (StepTrees.more_steps (StepTree.dot x) StepTrees.no_steps) (CrdtTree.node at CrdtForm.counter) f k y rest r h self own =
      leaf_law w root p at CrdtForm.counter (text_of x) f k y rest r h self own
  place_law w root p (StepTrees.more_steps (StepTree.dot x) StepTrees.no_steps) (CrdtTree.node at (CrdtForm.map_uw t c)) f k y rest r h self own =
      leaf_law w root p at (CrdtForm.map_uw t c) (text_of x) f k y rest r h self own
  place_law w root p (StepTrees.more_steps (StepTree.dot x) StepTrees.no_steps) (CrdtTree.node at (CrdtForm.map_dw t c)) f k y rest r h self own =
      leaf_law w root p at (CrdtForm.map_dw t c) (text_of x) f k y rest r h self own
  place_law {n = n} {op = op} w root p (StepTrees.more_steps (StepTree.key e) steps) (CrdtTree.node at (CrdtForm.map_uw t c)) f k y rest r h self own =
      past_there (key (kind_of n t)) (follow n steps c) r _ h (λ to is r_is.
      subst (λ (r : Reached). IsSelf p r → IsOwn w r k y → Found w root p r f (1 + before_on op steps c + k) y (all_on n (own_at w) root p (CrdtTree.node at (CrdtForm.map_uw t c)) ++ rest))
      r_is
      (λ self own. key_step w root p (key (kind_of n t)) (CrdtForm.map_uw t c) f (1 + before_on op steps c + k) (before_on op steps c + k) y
      (all_on n (own_at w) root (p ++ key (kind_of n t) ∷ []) c) rest to refl
      (nearer w root p (key (kind_of n t)) to (f + own_many op (CrdtForm.map_uw t c)) (before_on op steps c + k) y _
      (place_law w root (p ++ key (kind_of n t) ∷ []) steps c (f + own_many op (CrdtForm.map_uw t c)) k y rest to is (longer p (key (kind_of n t)) to self) own))
      (omega arith))
      self own)
  place_law {n = n} {op = op} w root p (StepTrees.more_steps (StepTree.key e) steps) (CrdtTree.node at (CrdtForm.map_dw t c)) f k y rest r h self own =
      past_there (key (kind_of n t)) (follow n steps c) r _ h (λ to is r_is.
      subst (λ (r : Reached). IsSelf p r → IsOwn w r k y → Found w root p r f (1 + before_on op steps c + k) y (all_on n (own_at w) root p (CrdtTree.node at (CrdtForm.map_dw t c)) ++ rest))
      r_is
      (λ self own. key_step w root p (key (kind_of n t)) (CrdtForm.map_dw t c) f (1 + before_on op steps c + k) (before_on op steps c + k) y
      (all_on n (own_at w) root (p ++ key (kind_of n t) ∷ []) c) rest to refl
      (nearer w root p (key (kind_of n t)) to (f + own_many op (CrdtForm.map_dw t c)) (before_on op steps c + k) y _
      (place_law w root (p ++ key (kind_of n t) ∷ []) steps c (f + own_many op (CrdtForm.map_dw t c)) k y rest to is (longer p (key (kind_of n t)) to self) own))
      (omega arith))
      self own)
  place_law w root p _ _ f k y rest r h self own = absurd cc

  field_law : {X Y : Type 0} {n : Names} {op : Bool} (w : World X Y n op) (root : ℕ) (p : List KindStep) (x : Name) (steps : StepTrees) (j : ℕ) (fields : FieldTrees) (f k : ℕ) (y : Y) (rest : List X) (r : Reached)
      → behind_field n steps (field_named x j fields) ≡ Some r → IsSelf p r → IsOwn w r k y
      → Found w root p r f (before_in op x steps fields + k) y (all_in_fields n (own_at w) root p j fields ++ rest)
  field_law w root p x steps j FieldTrees.no_fields f k y rest r h self own = absurd cc
  field_law {n = n} {op = op} w root p x steps j (FieldTrees.more_fields (FieldTree.field z c) fields) f k y rest r h self own =
      by_name w root p x steps j c fields f k y rest r (same_name (text_of z) x) h self own
      (λ to is s o. place_law w root (p ++ field j ∷ []) steps c f k y (all_in_fields n (own_at w) root p (j + 1) fields ++ rest) to is s o)
      (λ h s o. field_law w root p x steps (j + 1) fields (f + many_on op c) k y rest r h s o)
