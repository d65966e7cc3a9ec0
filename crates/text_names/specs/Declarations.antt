-- The names that the code keeps, as the definitions' names.
use Rattle.std.specs.Prelude.{map}
use Rattle.type_rules.specs.Names.{Names}
use Rattle.text_names.specs.declared.names.TextNames.{TextNames}
use Rattle.text_names.specs.Views.{type_item_view, item_view}

abbrev pub names_view : TextNames → Names
names_view n = record { types = map type_item_view n.types; entries = map item_view n.items; formulas = n.formulas }
