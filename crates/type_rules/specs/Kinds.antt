-- Types, and when one fits where another is asked.
use Rattle.std.specs.Prelude.{ℕ, ◌+◌, ◌-◌, Bool, true, false, ◌&&◌, ◌||◌, ◌==◌, nat_le, List, map, Option, Some, None, if◌then◌else◌}
use Rattle.rp_span.specs.declared.Span.{Span}
use Rattle.rp_grammar.specs.Trees.{TypeTree, TypeForm, ParamTree}
use Rattle.type_rules.specs.declared.kind.Kind.{Kind}
use Rattle.type_rules.specs.declared.kind.Base.{Base}
use Rattle.type_rules.specs.declared.kind.Base.TheVariants as base
use Rattle.type_rules.specs.Names.{Names, type_number, param_type}

abbrev pub plain_kind : Base → Kind
plain_kind b = record { base = b; maybes = 0 }

abbrev pub bool_kind : Kind
bool_kind = plain_kind base.Bool

abbrev pub int_kind : Kind
int_kind = plain_kind base.Int

-- what `op(c)` and an operation are
abbrev pub operation_kind : Kind
operation_kind = plain_kind base.Operation

abbrev pub unknown_kind : Kind
unknown_kind = plain_kind base.Unknown

-- `Maybe` of a type
abbrev pub maybe_of : Kind → Kind
maybe_of k = record { base = k.base; maybes = k.maybes + 1 }

abbrev pub is_unknown : Base → Bool
is_unknown base.Unknown = true
is_unknown _ = false

abbrev pub is_open : Base → Bool
is_open base.Open = true
is_open _ = false

-- what stands for any type
abbrev pub is_any : Base → Bool
is_any b = is_unknown b || is_open b

-- what a `Maybe` type is of; of an unknown type an unknown one
abbrev pub inside : Kind → Option Kind
inside k =
    if is_unknown k.base && k.maybes == 0 then Some k
    else (if k.maybes == 0 then None else Some (record { base = k.base; maybes = k.maybes - 1 }))

-- # One type, and types that fit

abbrev pub same_base : Base → Base → Bool
same_base base.Bool base.Bool = true
same_base base.Int base.Int = true
same_base base.Text base.Text = true
same_base (base.Declared a) (base.Declared b) = a == b
same_base base.Call base.Call = true
same_base base.Invocation base.Invocation = true
same_base base.Operation base.Operation = true
same_base base.Info base.Info = true
same_base base.Outcome base.Outcome = true
same_base _ _ = false

-- some type is both: what hangs on an unknown name, and what an unasked `none` holds, may be any type
abbrev pub fits : Kind → Kind → Bool
fits a b =
    if is_any a.base then is_any b.base || nat_le a.maybes b.maybes
    else (if is_any b.base then nat_le b.maybes a.maybes
    else same_base a.base b.base && a.maybes == b.maybes)

-- a type of data; an unknown one breaks nothing further
abbrev pub is_ordinary_base : Base → Bool
is_ordinary_base base.Call = false
is_ordinary_base base.Invocation = false
is_ordinary_base base.Operation = false
is_ordinary_base base.Info = false
is_ordinary_base base.Outcome = false
is_ordinary_base _ = true

abbrev pub is_ordinary : Kind → Bool
is_ordinary k = is_ordinary_base k.base

-- # The type that a text writes

abbrev pub named_kind : Option ℕ → Kind
named_kind None = unknown_kind
named_kind (Some type) = plain_kind (base.Declared type)

abbrev mutual
  pub kind_of : Names → TypeTree → Kind
  kind_of n (TypeTree.node at form) = form_kind n form

  pub form_kind : Names → TypeForm → Kind
  form_kind n (TypeForm.named x) = named_kind (type_number n x)
  form_kind n TypeForm.bool = bool_kind
  form_kind n TypeForm.int = int_kind
  form_kind n TypeForm.text = plain_kind base.Text
  form_kind n (TypeForm.maybe t) = maybe_of (kind_of n t)
  form_kind n TypeForm.call = plain_kind base.Call
  form_kind n TypeForm.invocation = plain_kind base.Invocation

abbrev pub param_kinds : Names → List ParamTree → List Kind
param_kinds n params = map (λ p. kind_of n (param_type p)) params

-- what stands inside all `Maybe`s
abbrev mutual
  pub innermost : TypeTree → TypeTree
  innermost (TypeTree.node at form) = innermost_form at form

  pub innermost_form : Span → TypeForm → TypeTree
  innermost_form at (TypeForm.maybe t) = innermost t
  innermost_form at form = TypeTree.node at form
