-- How far a walk has come.
use Rattle.std.specs.Prelude.{◌≡◌, List}
use Rattle.type_rules.specs.declared.kind.Kind.{Kind}
use Rattle.type_rules.specs.Accesses.{Var}
use Rattle.text_kinds.specs.Numbered.{with_kinds}
use Rattle.text_kinds.specs.Seen.{kinds_view}
use Rattle.text_kinds.specs.means.Brought.{Seen}
use Rattle.text_kinds.specs.declared.appearances.Seeker.{Seeker}

abbrev pub seen : Seeker → Seen
seen s = record { vars = s.vars; kinds = kinds_view s.kinds }

-- what is still to come completes the whole, and the same variables are in sight
pub record Goes (start now : Seen) (rest whole : List Kind) : Type 0 where
  pub vars : now.vars ≡ start.vars
  pub names : now.kinds.names ≡ start.kinds.names
  pub comes : with_kinds rest now.kinds ≡ with_kinds whole start.kinds

-- and what will be in sight is this
pub record Gains (start now : Seen) (rest whole : List Kind) (seen all : List Var) : Type 0 where
  pub vars : seen ≡ all
  pub names : now.kinds.names ≡ start.kinds.names
  pub comes : with_kinds rest now.kinds ≡ with_kinds whole start.kinds
