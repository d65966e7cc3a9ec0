-- Some path of an operation or a query is long where a replicated type says so.
use Rattle.std.proofs.Common.{◌≡◌, ℕ, suc, ◌+◌, Bool, true, false, ◌||◌, List, [], ◌∷◌, ◌++◌, length, map, refl, ap, ap₂, ◌∙◌, arith}
use Rattle.std.specs.Prelude.{if◌then◌else◌}
use Rattle.std.specs.List.{list_any}
use Rattle.std.proofs.lemmas.List.{length-append}
use Rattle.std.proofs.lemmas.List.Folds.{list_any-append}
use Rattle.std.proofs.lemmas.List.Elements.{filter_map-append}
use Rattle.rp_grammar.specs.Trees.{CrdtTree, CrdtForm, DeclTree, FieldTree, FieldTrees, Ident}
use Rattle.rp_lang.specs.declared.limit.LimitName.TheVariants.{PathDepth}
use Rattle.type_rules.specs.Names.{Names}
use Rattle.type_rules.specs.Kinds.{kind_of}
use Rattle.type_rules.specs.Queries.{names_of}
use Rattle.desugaring.specs.Limits.{is_past}
use Rattle.desugaring.specs.Objects.{KindStep, Root, all_in_fields, all_inside, all_of, all_on, field, key, path_ops, path_queries, roots_of}
use Rattle.text_names.specs.Parts.{crdt_in}
use Rattle.text_tables.specs.means.Counted.{crdts_in, own_many}
use Rattle.text_tables.specs.means.Kept.{crdts_of}
use Rattle.text_tables.specs.means.Limited.{is_long_in_fields, is_long_on}
use Rattle.text_tables.proofs.PlaceLaw.{World, own_at}
use Rattle.text_tables.proofs.CalledLaw.{op_world, query_world}
use Rattle.text_tables.proofs.DeclaredLaw.{crdts_are}

-- a test of what stands on a path, by the path alone
abbrev IsOfPath : {X Y : Type 0} {n : Names} {op : Bool} → World X Y n op → (X → Bool) → Type 0
IsOfPath {Y = Y} w test = (root : ℕ) (path : List KindStep) (y : Y) → test (w.make root path y) ≡ is_past PathDepth (length path)

any_own : {X Y : Type 0} (test : X → Bool) (g : Y → X) (b : Bool) (ys : List Y) (m : ℕ) → ((y : Y) → test (g y) ≡ b) → length ys ≡ suc m
    → list_any test (map g ys) ≡ b
any_own test g b [] m h e = absurd (omega (arith, e))
any_own test g b (y ∷ []) m h e = ap (λ c. c || false) (h y) ∙ same b
  where
    same : (b : Bool) → (b || false) ≡ b
    same true = refl
    same false = refl
any_own test g b (y ∷ z ∷ ys) m h e =
    ap₂ (λ c d. c || d) (h y) (any_own test g b (z ∷ ys) (length ys) h refl) ∙ same b
  where
    same : (b : Bool) → (b || b) ≡ b
    same true = refl
    same false = refl

none_own : {X Y : Type 0} (test : X → Bool) (g : Y → X) (ys : List Y) → length ys ≡ 0 → list_any test (map g ys) ≡ false
none_own test g [] e = refl
none_own test g (y ∷ ys) e = absurd (omega (arith, e))

one_more : (path : List KindStep) (s : KindStep) (depth : ℕ) → length path ≡ depth → length (path ++ s ∷ []) ≡ depth + 1
one_more path s depth e = length-append path (s ∷ []) ∙ ap (λ k. k + 1) e

or_false : (b : Bool) → (b || false) ≡ b
or_false true = refl
or_false false = refl

leaf_long : {X Y : Type 0} {n : Names} {op : Bool} (w : World X Y n op) (test : X → Bool) (of_path : IsOfPath w test) (root : ℕ) (path : List KindStep) (depth : ℕ) (form : CrdtForm) (m : ℕ)
    → length path ≡ depth → own_many op form ≡ suc m → list_any test (map (w.make root path) (w.list form)) ≡ is_past PathDepth depth
leaf_long w test of_path root path depth form m e h =
    any_own test (w.make root path) (is_past PathDepth depth) (w.list form) m
    (λ y. of_path root path y ∙ ap (is_past PathDepth) e) (w.many form ∙ h)

two_or_one : (op : Bool) → (m : ℕ) × ((if op then 2 else 1) ≡ suc m)
two_or_one true = (1, refl)
two_or_one false = (0, refl)

abbrev LongOn : {X Y : Type 0} {n : Names} {op : Bool} → World X Y n op → (X → Bool) → ℕ → List KindStep → CrdtTree → ℕ → Type 0
LongOn {n = n} w test root path c depth = list_any test (all_on n (own_at w) root path c) ≡ is_long_on depth c

inside_long : {X Y : Type 0} {n : Names} {op : Bool} (w : World X Y n op) (test : X → Bool) (root : ℕ) (path : List KindStep) (form : CrdtForm) (b c : Bool)
    → list_any test (map (w.make root path) (w.list form)) ≡ b → list_any test (all_inside n (own_at w) root path form) ≡ c
    → list_any test (map (w.make root path) (w.list form) ++ all_inside n (own_at w) root path form) ≡ (b || c)
inside_long {n = n} w test root path form b c e h =
    list_any-append test (map (w.make root path) (w.list form)) (all_inside n (own_at w) root path form) ∙ ap₂ (λ a b. a || b) e h

mutual
  long_on : {X Y : Type 0} {n : Names} {op : Bool} (w : World X Y n op) (test : X → Bool) (of_path : IsOfPath w test) (root : ℕ) (path : List KindStep) (c : CrdtTree) (depth : ℕ)
      → length path ≡ depth → LongOn w test root path c depth
  long_on {op = op} w test of_path root path (CrdtTree.node at (CrdtForm.set_aw t)) depth e =
      let m = two_or_one op in
      inside_long w test root path (CrdtForm.set_aw t) _ false (leaf_long w test of_path root path depth (CrdtForm.set_aw t) m.0 e m.1) refl ∙ or_false _
  long_on {op = op} w test of_path root path (CrdtTree.node at (CrdtForm.set_rw t)) depth e =
      let m = two_or_one op in
      inside_long w test root path (CrdtForm.set_rw t) _ false (leaf_long w test of_path root path depth (CrdtForm.set_rw t) m.0 e m.1) refl ∙ or_false _
  long_on w test of_path root path (CrdtTree.node at (CrdtForm.reg t)) depth e =
      inside_long w test root path (CrdtForm.reg t) _ false (leaf_long w test of_path root path depth (CrdtForm.reg t) 0 e refl) refl ∙ or_false _
  long_on w test of_path root path (CrdtTree.node at (CrdtForm.mv_reg t)) depth e =
      inside_long w test root path (CrdtForm.mv_reg t) _ false (leaf_long w test of_path root path depth (CrdtForm.mv_reg t) 0 e refl) refl ∙ or_false _
  long_on w test of_path root path (CrdtTree.node at CrdtForm.counter) depth e =
      inside_long w test root path CrdtForm.counter _ false (leaf_long w test of_path root path depth CrdtForm.counter 0 e refl) refl ∙ or_false _
  long_on {n = n} w test of_path root path (CrdtTree.node at (CrdtForm.map_uw t c)) depth e =
      inside_long w test root path (CrdtForm.map_uw t c) _ _ (leaf_long w test of_path root path depth (CrdtForm.map_uw t c) 0 e refl)
      (long_on w test of_path root (path ++ key (kind_of n t) ∷ []) c (depth + 1) (one_more path (key (kind_of n t)) depth e))
  long_on {n = n} w test of_path root path (CrdtTree.node at (CrdtForm.map_dw t c)) depth e =
      inside_long w test root path (CrdtForm.map_dw t c) _ _ (leaf_long w test of_path root path depth (CrdtForm.map_dw t c) 0 e refl)
      (long_on w test of_path root (path ++ key (kind_of n t) ∷ []) c (depth + 1) (one_more path (key (kind_of n t)) depth e))
  long_on {n = n} w test of_path root path (CrdtTree.node at (CrdtForm.struct fields)) depth e =
      inside_long w test root path (CrdtForm.struct fields) false _ (none_own test (w.make root path) (w.list (CrdtForm.struct fields)) (w.many (CrdtForm.struct fields)))
      (long_fields w test of_path root path 0 fields depth e)

  long_fields : {X Y : Type 0} {n : Names} {op : Bool} (w : World X Y n op) (test : X → Bool) (of_path : IsOfPath w test) (root : ℕ) (path : List KindStep) (k : ℕ) (fields : FieldTrees) (depth : ℕ)
      → length path ≡ depth → list_any test (all_in_fields n (own_at w) root path k fields) ≡ is_long_in_fields depth fields
  long_fields w test of_path root path k FieldTrees.no_fields depth e = refl
  long_fields {n = n} w test of_path root path k (FieldTrees.more_fields (FieldTree.field x c) fields) depth e =
      list_any-append test (all_on n (own_at w) root (path ++ field k ∷ []) c) (all_in_fields n (own_at w) root path (k + 1) fields)
      ∙ ap₂ (λ a b. a || b) (long_on w test of_path root (path ++ field k ∷ []) c (depth + 1) (one_more path (field k) depth e))
      (long_fields w test of_path root path (k + 1) fields depth e)

long_of : {X Y : Type 0} {n : Names} {op : Bool} (w : World X Y n op) (test : X → Bool) (of_path : IsOfPath w test) (k : ℕ) (roots : List Root)
    → list_any test (all_of n (own_at w) k roots) ≡ list_any (is_long_on 0) (map (λ root. root.crdt) roots)
long_of w test of_path k [] = refl
long_of {n = n} w test of_path k (root ∷ roots) =
    list_any-append test (all_on n (own_at w) k [] root.crdt) (all_of n (own_at w) (k + 1) roots)
    ∙ ap₂ (λ a b. a || b) (long_on w test of_path k [] root.crdt 0 refl) (long_of w test of_path (k + 1) roots)

pub long_law : (n : Names) (ds : List DeclTree) → n ≡ names_of ds
    → (list_any (λ op. is_past PathDepth (length op.path)) (path_ops n) || list_any (λ query. is_past PathDepth (length query.path)) (path_queries n))
    ≡ list_any (is_long_on 0) (crdts_in ds)
long_law n ds is =
    let crdts : crdts_of n ≡ crdts_in ds = ap crdts_of is ∙ crdts_are ds in
    let ops = long_of (op_world n) (λ o. is_past PathDepth (length o.path)) (λ root path y. refl) 0 (roots_of n) in
    let queries = long_of (query_world n) (λ o. is_past PathDepth (length o.path)) (λ root path y. refl) 0 (roots_of n) in
    ap₂ (λ a b. a || b) ops queries ∙ same (list_any (is_long_on 0) (crdts_of n)) ∙ ap (list_any (is_long_on 0)) crdts
  where
    same : (b : Bool) → (b || b) ≡ b
    same true = refl
    same false = refl

-- # Loops

pub long_step : (depth : ℕ) (tree : FieldTrees) (x : Ident) (c : CrdtTree) (rest : FieldTrees) → tree ≡ FieldTrees.more_fields (FieldTree.field x c) rest
    → is_long_in_fields depth tree ≡ (is_long_on (depth + 1) c || is_long_in_fields depth rest)
long_step depth tree x c rest e = ap (is_long_in_fields depth) e

pub decls_step : (d : DeclTree) (ds : List DeclTree)
    → list_any (is_long_on 0) (crdts_in (d ∷ ds)) ≡ (list_any (is_long_on 0) (crdts_in (d ∷ [])) || list_any (is_long_on 0) (crdts_in ds))
decls_step d ds =
    ap (list_any (is_long_on 0)) (filter_map-append crdt_in (d ∷ []) ds) ∙ list_any-append (is_long_on 0) (crdts_in (d ∷ [])) (crdts_in ds)
