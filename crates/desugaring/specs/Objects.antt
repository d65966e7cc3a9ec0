-- The operations and queries of replicated objects by their numbers, and where a path leads.
use Rattle.std.specs.Prelude.{ℕ, ◌+◌, Bool, true, false, ◌&&◌, ◌==◌, List, [], ◌∷◌, ◌++◌, map, filter_map, Option, Some, None, option_map, option_and_then, if◌then◌else◌}
use Rattle.rp_grammar.specs.Trees.{CrdtTree, CrdtForm, FieldTree, FieldTrees, StepTree, StepTrees}
use Rattle.rp_lang.specs.declared.op.OpKind.{OpKind}
use Rattle.rp_lang.specs.declared.op.OpKind.TheVariants.{Add, Remove, Assign, Increment, Delete}
use Rattle.rp_lang.specs.declared.query.QueryKind.{QueryKind}
use Rattle.rp_lang.specs.declared.query.QueryKind.TheVariants.{Contains, HasKey, GetReg, GetSum}
use Rattle.type_rules.specs.declared.kind.Kind.{Kind}
use Rattle.type_rules.specs.Names.{Name, Names, Declared, same_name, text_of}
use Rattle.type_rules.specs.Kinds.{kind_of}
use Rattle.type_rules.specs.Paths.{Does, Member, members_of}
use Rattle.desugaring.specs.Appearances.{same_kind}

-- # What each replicated type has itself

pub record OwnOp : Type 0 where
  pub name : Name
  pub kind : OpKind
  pub args : List Kind

pub record OwnQuery : Type 0 where
  pub name : Name
  pub kind : QueryKind
  pub args : List Kind
  pub result : Kind

abbrev pub op_kind : Does → Option OpKind
op_kind Does.adds = Some Add
op_kind Does.removes = Some Remove
op_kind Does.assigns = Some Assign
op_kind Does.increments = Some Increment
op_kind Does.deletes = Some Delete
op_kind Does.contains = None
op_kind Does.has_key = None
op_kind Does.gets_value = None
op_kind Does.gets_sum = None

abbrev pub query_kind : Does → Option QueryKind
query_kind Does.contains = Some Contains
query_kind Does.has_key = Some HasKey
query_kind Does.gets_value = Some GetReg
query_kind Does.gets_sum = Some GetSum
query_kind Does.adds = None
query_kind Does.removes = None
query_kind Does.assigns = None
query_kind Does.increments = None
query_kind Does.deletes = None

abbrev pub own_op : Member → Option OwnOp
own_op m = option_map (λ kind. record { name = m.name; kind = kind; args = m.args }) (op_kind m.does)

abbrev pub own_query : Member → Option OwnQuery
own_query m = option_map (λ kind. record { name = m.name; kind = kind; args = m.args; result = m.result }) (query_kind m.does)

abbrev pub own_ops : Names → CrdtForm → List OwnOp
own_ops n form = filter_map own_op (members_of n form)

abbrev pub own_queries : Names → CrdtForm → List OwnQuery
own_queries n form = filter_map own_query (members_of n form)

-- # Operations and queries of a text

-- a field by its number, or a key of a type
pub data KindStep : Type 0 where
  field : (number : ℕ) → KindStep
  key : (kind : Kind) → KindStep

pub record PathOp : Type 0 where
  pub root : ℕ
  pub path : List KindStep
  pub own : OwnOp

pub record PathQuery : Type 0 where
  pub root : ℕ
  pub path : List KindStep
  pub own : OwnQuery

-- What is on a path is a list of X, made of what each type has itself.
abbrev pub Own : Type 0 → Type 0
Own X = ℕ → List KindStep → CrdtForm → List X

-- a type's own before those inside it, fields in their order
abbrev mutual
  pub all_on : {X : Type 0} → Names → Own X → ℕ → List KindStep → CrdtTree → List X
  all_on n own root path (CrdtTree.node at form) = own root path form ++ all_inside n own root path form

  pub all_inside : {X : Type 0} → Names → Own X → ℕ → List KindStep → CrdtForm → List X
  all_inside n own root path (CrdtForm.map_uw t c) = all_on n own root (path ++ key (kind_of n t) ∷ []) c
  all_inside n own root path (CrdtForm.map_dw t c) = all_on n own root (path ++ key (kind_of n t) ∷ []) c
  all_inside n own root path (CrdtForm.struct fields) = all_in_fields n own root path 0 fields
  all_inside n own root path _ = []

  pub all_in_fields : {X : Type 0} → Names → Own X → ℕ → List KindStep → ℕ → FieldTrees → List X
  all_in_fields n own root path k FieldTrees.no_fields = []
  all_in_fields n own root path k (FieldTrees.more_fields (FieldTree.field x c) fields) =
      all_on n own root (path ++ field k ∷ []) c ++ all_in_fields n own root path (k + 1) fields

abbrev pub ops_at : Names → Own PathOp
ops_at n root path form = map (λ own. record { root = root; path = path; own = own }) (own_ops n form)

abbrev pub queries_at : Names → Own PathQuery
queries_at n root path form = map (λ own. record { root = root; path = path; own = own }) (own_queries n form)

-- a replicated object
pub record Root : Type 0 where
  pub name : Name
  pub crdt : CrdtTree

abbrev pub root_in : Name → Declared → Option Root
root_in name (Declared.root crdt) = Some (record { name = name; crdt = crdt })
root_in name _ = None

abbrev pub roots_of : Names → List Root
roots_of n = filter_map (λ entry. root_in entry.name entry.what) n.entries

-- by root, where the first of them has the number k
abbrev pub all_of : {X : Type 0} → Names → Own X → ℕ → List Root → List X
all_of n own k [] = []
all_of n own k (root ∷ roots) = all_on n own k [] root.crdt ++ all_of n own (k + 1) roots

-- the operations behind `tx`, which is number 0
abbrev pub path_ops : Names → List PathOp
path_ops n = all_of n (ops_at n) 0 (roots_of n)

abbrev pub path_queries : Names → List PathQuery
path_queries n = all_of n (queries_at n) 0 (roots_of n)

-- # The types of arguments: the keys on the path, outermost first, and then its own

abbrev pub keys_on : List KindStep → List Kind
keys_on [] = []
keys_on (field k ∷ path) = keys_on path
keys_on (key kind ∷ path) = kind ∷ keys_on path

abbrev pub op_kinds : PathOp → List Kind
op_kinds o = keys_on o.path ++ o.own.args

abbrev pub query_kinds : PathQuery → List Kind
query_kinds q = keys_on q.path ++ q.own.args

-- # Where the steps behind a root lead

-- the path, the type at its end, and the name of what is called there
pub record Reached : Type 0 where
  pub path : List KindStep
  pub crdt : CrdtTree
  pub last : Name

-- a field with its number, where the first of the others has the number k
pub record AtField : Type 0 where
  pub number : ℕ
  pub crdt : CrdtTree

abbrev pub field_named : Name → ℕ → FieldTrees → Option AtField
field_named x k FieldTrees.no_fields = None
field_named x k (FieldTrees.more_fields (FieldTree.field y c) fields) =
    if same_name (text_of y) x then Some (record { number = k; crdt = c }) else field_named x (k + 1) fields

abbrev pub past : KindStep → Reached → Reached
past step r = record { path = step ∷ r.path; crdt = r.crdt; last = r.last }

abbrev pub follow : Names → StepTrees → CrdtTree → Option Reached
follow n StepTrees.no_steps c = None
follow n (StepTrees.more_steps (StepTree.dot x) steps) (CrdtTree.node at (CrdtForm.struct fields)) =
    option_and_then (λ found. option_map (past (field found.number)) (follow n steps found.crdt))
    (field_named (text_of x) 0 fields)
follow n (StepTrees.more_steps (StepTree.dot x) StepTrees.no_steps) c =
    Some (record { path = []; crdt = c; last = text_of x })
follow n (StepTrees.more_steps (StepTree.key e) steps) (CrdtTree.node at (CrdtForm.map_uw t c)) =
    option_map (past (key (kind_of n t))) (follow n steps c)
follow n (StepTrees.more_steps (StepTree.key e) steps) (CrdtTree.node at (CrdtForm.map_dw t c)) =
    option_map (past (key (kind_of n t))) (follow n steps c)
follow n _ _ = None

-- # Numbers

abbrev pub same_step : KindStep → KindStep → Bool
same_step (field j) (field k) = j == k
same_step (key j) (key k) = same_kind j k
same_step _ _ = false

abbrev pub same_path : List KindStep → List KindStep → Bool
same_path [] [] = true
same_path (s ∷ ss) (t ∷ ts) = same_step s t && same_path ss ts
same_path _ _ = false

-- it stands on this path of the root, and has this name
abbrev pub is_op_at : ℕ → Reached → PathOp → Bool
is_op_at root r o = o.root == root && same_path o.path r.path && same_name o.own.name r.last

abbrev pub is_query_at : ℕ → Reached → PathQuery → Bool
is_query_at root r q = q.root == root && same_path q.path r.path && same_name q.own.name r.last
