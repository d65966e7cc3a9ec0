-- Where a path from a root leads: to an operation or a query of the replicated type that it reaches.
use Rattle.std.specs.Prelude.{ℕ, Bool, true, false, List, [], ◌∷◌, find, codes, Option, Some, None, if◌then◌else◌}
use Rattle.rp_span.specs.declared.Span.{Span}
use Rattle.rp_grammar.specs.Trees.{Ident, CrdtTree, CrdtForm, FieldTree, FieldTrees, StepTree, StepTrees, ExprTree}
use Rattle.type_rules.specs.declared.kind.Kind.{Kind}
use Rattle.type_rules.specs.Names.{Name, Names, same_name, text_of}
use Rattle.type_rules.specs.Kinds.{kind_of, maybe_of, bool_kind, int_kind, operation_kind, unknown_kind}
use Rattle.type_rules.specs.Starts.{span_of, start}

-- what the operations and the queries of replicated types do
pub data Does : Type 0 where
  adds : Does
  removes : Does
  assigns : Does
  increments : Does
  deletes : Does
  -- whether a set or a register holds a value, and whether a map has a key
  contains : Does
  has_key : Does
  -- the value of a register, and the sum of a counter
  gets_value : Does
  gets_sum : Does

abbrev pub is_operation : Does → Bool
is_operation Does.adds = true
is_operation Does.removes = true
is_operation Does.assigns = true
is_operation Does.increments = true
is_operation Does.deletes = true
is_operation Does.contains = false
is_operation Does.has_key = false
is_operation Does.gets_value = false
is_operation Does.gets_sum = false

-- a query that holds or not
abbrev pub is_question : Does → Bool
is_question Does.contains = true
is_question Does.has_key = true
is_question Does.gets_value = false
is_question Does.gets_sum = false
is_question Does.adds = false
is_question Does.removes = false
is_question Does.assigns = false
is_question Does.increments = false
is_question Does.deletes = false

-- an operation or a query, with the types of its arguments and its own
pub record Member : Type 0 where
  pub name : Name
  pub does : Does
  pub args : List Kind
  pub result : Kind

abbrev pub operation : List ℕ → Does → Kind → Member
operation name does arg = record { name = name; does = does; args = arg ∷ []; result = operation_kind }

-- whether it holds this, or has this key
abbrev pub question : Does → Kind → Member
question does arg = record { name = codes "contains"; does = does; args = arg ∷ []; result = bool_kind }

abbrev pub get : Does → Kind → Member
get does result = record { name = codes "get"; does = does; args = []; result = result }

abbrev pub set_members : Kind → List Member
set_members k = operation (codes "add") Does.adds k ∷ operation (codes "remove") Does.removes k ∷ question Does.contains k ∷ []

abbrev pub map_members : Kind → List Member
map_members k = operation (codes "delete") Does.deletes k ∷ question Does.has_key k ∷ []

-- what a replicated type has itself
abbrev pub members_of : Names → CrdtForm → List Member
members_of n (CrdtForm.set_aw t) = set_members (kind_of n t)
members_of n (CrdtForm.set_rw t) = set_members (kind_of n t)
members_of n (CrdtForm.reg t) = operation (codes "assign") Does.assigns (kind_of n t) ∷ get Does.gets_value (maybe_of (kind_of n t)) ∷ []
members_of n (CrdtForm.mv_reg t) = operation (codes "assign") Does.assigns (kind_of n t) ∷ question Does.contains (kind_of n t) ∷ []
members_of n CrdtForm.counter = operation (codes "increment") Does.increments int_kind ∷ get Does.gets_sum int_kind ∷ []
members_of n (CrdtForm.map_uw t c) = map_members (kind_of n t)
members_of n (CrdtForm.map_dw t c) = map_members (kind_of n t)
members_of n (CrdtForm.struct parts) = []

abbrev pub form_of : CrdtTree → CrdtForm
form_of (CrdtTree.node at form) = form

-- the operation or query of this name
abbrev pub member_of : Names → CrdtTree → Name → Option Member
member_of n c x = find (λ m. same_name m.name x) (members_of n (form_of c))

abbrev pub field_of : FieldTrees → Name → Option CrdtTree
field_of FieldTrees.no_fields x = None
field_of (FieldTrees.more_fields (FieldTree.field y c) fields) x = if same_name (text_of y) x then Some c else field_of fields x

-- what stands at a field of a struct
abbrev pub at_field : CrdtTree → Name → Option CrdtTree
at_field (CrdtTree.node at (CrdtForm.struct fields)) x = field_of fields x
at_field (CrdtTree.node at (CrdtForm.set_aw t)) x = None
at_field (CrdtTree.node at (CrdtForm.set_rw t)) x = None
at_field (CrdtTree.node at (CrdtForm.reg t)) x = None
at_field (CrdtTree.node at (CrdtForm.mv_reg t)) x = None
at_field (CrdtTree.node at CrdtForm.counter) x = None
at_field (CrdtTree.node at (CrdtForm.map_uw t c)) x = None
at_field (CrdtTree.node at (CrdtForm.map_dw t c)) x = None

-- the type of a map's keys, and what it holds at each
pub record MapParts : Type 0 where
  pub keys : Kind
  pub held : CrdtTree

abbrev pub map_parts : Names → CrdtTree → Option MapParts
map_parts n (CrdtTree.node at (CrdtForm.map_uw t c)) = Some (record { keys = kind_of n t; held = c })
map_parts n (CrdtTree.node at (CrdtForm.map_dw t c)) = Some (record { keys = kind_of n t; held = c })
map_parts n (CrdtTree.node at (CrdtForm.struct parts)) = None
map_parts n (CrdtTree.node at (CrdtForm.set_aw t)) = None
map_parts n (CrdtTree.node at (CrdtForm.set_rw t)) = None
map_parts n (CrdtTree.node at (CrdtForm.reg t)) = None
map_parts n (CrdtTree.node at (CrdtForm.mv_reg t)) = None
map_parts n (CrdtTree.node at CrdtForm.counter) = None

-- # Paths

-- how far a path has come
pub data Way : Type 0 where
  -- to a root or a part of it
  came : CrdtTree → Way
  member : Member → Way
  -- to a step that doesn't fit, where it begins
  misfit : Span → Way

abbrev pub step_start : StepTree → Span
step_start (StepTree.dot x) = span_of x
step_start (StepTree.returned at) = at
step_start (StepTree.key e) = start e

abbrev pub to_member : Ident → Option Member → Way
to_member x None = Way.misfit (span_of x)
to_member x (Some m) = Way.member m

-- a field of a struct, or else an operation or a query
abbrev pub past_dot : Names → CrdtTree → Ident → Option CrdtTree → Way
past_dot n c x (Some f) = Way.came f
past_dot n c x None = to_member x (member_of n c (text_of x))

abbrev pub past_key : ExprTree → Option MapParts → Way
past_key e None = Way.misfit (start e)
past_key e (Some parts) = Way.came parts.held

abbrev pub step_from : Names → CrdtTree → StepTree → Way
step_from n c (StepTree.dot x) = past_dot n c x (at_field c (text_of x))
step_from n c (StepTree.returned at) = Way.misfit at
step_from n c (StepTree.key e) = past_key e (map_parts n c)

-- one step further; behind an operation or a query no step fits
abbrev pub stepped : Names → Way → StepTree → Way
stepped n (Way.came c) s = step_from n c s
stepped n (Way.member m) s = Way.misfit (step_start s)
stepped n (Way.misfit at) s = Way.misfit at

abbrev pub walked : Names → Way → StepTrees → Way
walked n way StepTrees.no_steps = way
walked n way (StepTrees.more_steps s steps) = walked n (stepped n way s) steps

-- the type of a key that is asked there
abbrev pub asked_key : Option MapParts → Kind
asked_key None = unknown_kind
asked_key (Some parts) = parts.keys

abbrev pub key_kind : Names → Way → Kind
key_kind n (Way.came c) = asked_key (map_parts n c)
key_kind n (Way.member m) = unknown_kind
key_kind n (Way.misfit at) = unknown_kind
