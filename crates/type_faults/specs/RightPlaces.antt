-- Where one look at a place tells that no rule is broken there.
use Rattle.std.specs.Prelude.{Bool, false, not, ◌&&◌, ◌||◌, ◌==◌, List, Option, Some, None, if◌then◌else◌}
use Rattle.rp_grammar.specs.Trees.{AccessTree, ArgTrees, ExprTree, ExprForm, StepTrees}
use Rattle.type_rules.specs.declared.kind.Kind.{Kind}
use Rattle.type_rules.specs.Names.{text_of}
use Rattle.type_rules.specs.Kinds.{bool_kind, int_kind}
use Rattle.type_rules.specs.Accesses.{Var, find_var}
use Rattle.type_rules.specs.Sites.{Want}
use Rattle.type_judges.specs.Meant.{is_other}

-- a place that asks this type or none, and a plain term only where this is one
abbrev pub takes : Want → Kind → Bool → Bool
takes w k plain = not (w.rule == 18) && not (is_other w.asked k) && (plain || not w.plain)

-- a place that takes what has a type of its own
abbrev pub takes_own : Want → Option Kind → Bool → Bool
takes_own w None plain = false
takes_own w (Some k) plain = takes w k plain

-- # Operators

-- the type of operators that may stand anywhere, whatever their operands are
abbrev pub operator_kind : ExprTree → Option Kind
operator_kind (ExprTree.node at (ExprForm.implies a b)) = Some bool_kind
operator_kind (ExprTree.node at (ExprForm.or es)) = Some bool_kind
operator_kind (ExprTree.node at (ExprForm.and es)) = Some bool_kind
operator_kind (ExprTree.node at (ExprForm.not e)) = Some bool_kind
operator_kind (ExprTree.node at (ExprForm.compare c a b)) = Some bool_kind
operator_kind (ExprTree.node at (ExprForm.plus a b)) = Some int_kind
operator_kind (ExprTree.node at (ExprForm.minus a b)) = Some int_kind
operator_kind (ExprTree.node at form) = None

-- # Variables and written values

-- the type of a variable that has a value
abbrev pub read_kind : Option Var → Option Kind
read_kind None = None
read_kind (Some v) = if v.set then Some v.kind else None

-- of an access that is such a variable, with nothing behind its name
abbrev pub variable_kind : List Var → AccessTree → Option Kind
variable_kind vs (AccessTree.path x (StepTrees.more_steps s steps) args) = None
variable_kind vs (AccessTree.path x StepTrees.no_steps (ArgTrees.given es)) = None
variable_kind vs (AccessTree.path x StepTrees.no_steps ArgTrees.absent) = read_kind (find_var vs (text_of x))

-- of an expression in which nothing stands
abbrev pub leaf_kind : List Var → ExprTree → Option Kind
leaf_kind vs (ExprTree.node at (ExprForm.int i)) = Some int_kind
leaf_kind vs (ExprTree.node at (ExprForm.truth b)) = Some bool_kind
leaf_kind vs (ExprTree.node at (ExprForm.access a)) = variable_kind vs a
leaf_kind vs (ExprTree.node at form) = None
