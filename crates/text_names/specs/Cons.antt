-- Constructors by their names.
use Rattle.std.specs.Prelude.{List, [], ◌∷◌, Option, Some, None, if◌then◌else◌}
use Rattle.rp_grammar.specs.Trees.{ConTree}
use Rattle.type_rules.specs.Names.{Name, same_name, text_of, con_name}

-- the first of this name
abbrev pub con_named : List ConTree → Name → Option ConTree
con_named [] x = None
con_named (c ∷ cs) x = if same_name (text_of (con_name c)) x then Some c else con_named cs x
