-- What a name stands for, and what an access is by what its root's name stands for.
use Rattle.std.specs.Prelude.{Bool, true, false, List, Option, Some, None}
use Rattle.rp_grammar.specs.Trees.{Ident, AccessTree, StepTrees}
use Rattle.type_rules.specs.Names.{Name, Names, Entry, entry_named}
use Rattle.type_rules.specs.Accesses.{Var, Access, alone, find_var, of_declared}
use Rattle.type_tables.specs.Variables.{var_view}
use Rattle.text_names.specs.Views.{item_view}
use Rattle.type_terms.specs.declared.meaning.Meaning as code_meaning
use Rattle.type_terms.specs.declared.meaning.Meaning.TheVariants as code

pub data Meaning : Type 0 where
  -- a variable in sight
  variable : Var → Meaning
  -- a root, a query, a procedure or a constructor
  declared : Entry → Meaning
  -- nothing in sight has the name
  nothing : Meaning

abbrev pub meaning_view : code_meaning.Meaning → Meaning
meaning_view (code.Variable v) = Meaning.variable (var_view v)
meaning_view (code.Declared e) = Meaning.declared (item_view e)
meaning_view code.Nothing = Meaning.nothing

-- a variable in sight comes before a constructor of its name
abbrev pub meant : Option Var → Option Entry → Meaning
meant (Some v) e = Meaning.variable v
meant None (Some e) = Meaning.declared e
meant None None = Meaning.nothing

abbrev pub meaning_of : Names → List Var → Name → Meaning
meaning_of n vs x = meant (find_var vs x) (entry_named n x)

abbrev pub of_meaning : Names → Ident → StepTrees → Meaning → Access
of_meaning n x steps (Meaning.variable v) = alone x steps (Access.variable v)
of_meaning n x steps (Meaning.declared e) = of_declared n x steps e.decl e.what
of_meaning n x steps Meaning.nothing = Access.unknown

abbrev pub access_by : Names → Meaning → AccessTree → Access
access_by n m (AccessTree.path x steps args) = of_meaning n x steps m

abbrev pub is_nothing : Meaning → Bool
is_nothing (Meaning.variable v) = false
is_nothing (Meaning.declared e) = false
is_nothing Meaning.nothing = true
