-- What the rules say of an access, by what its root's name stands for and by its type.
use Rattle.std.specs.Prelude.{ℕ, Bool, true, false, not, Option, Some, None}
use Rattle.rp_grammar.specs.Trees.{ExprTree, ExprForm}
use Rattle.type_rules.specs.declared.kind.Kind.{Kind}
use Rattle.type_rules.specs.Kinds.{fits}
use Rattle.type_rules.specs.Rules.{is_late_query}
use Rattle.type_terms.specs.Meanings.{Meaning}

-- a query that isn't declared before the declaration of this number
abbrev pub is_late : ℕ → Meaning → Bool
is_late k (Meaning.declared e) = is_late_query k (Some e)
is_late k (Meaning.variable v) = false
is_late k Meaning.nothing = false

-- a variable without a value on some path
abbrev pub is_unset : Meaning → Bool
is_unset (Meaning.variable v) = not v.set
is_unset (Meaning.declared e) = false
is_unset Meaning.nothing = false

-- a type is asked, and this is another
abbrev pub is_other : Option Kind → Kind → Bool
is_other None own = false
is_other (Some k) own = not (fits k own)

abbrev pub is_access : ExprTree → Bool
is_access (ExprTree.node at (ExprForm.access a)) = true
is_access (ExprTree.node at form) = false
