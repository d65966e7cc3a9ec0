-- Constructors of a type, by its cases.
use Rattle.std.specs.Prelude.{List, map}
use Rattle.type_rules.specs.declared.kind.Kind.{Kind}
use Rattle.type_rules.specs.Matches.{Case}
use Rattle.desugaring.specs.Tables.{Con}

abbrev pub cons_with : Kind → List Case → List Con
cons_with k cases = map (λ c. record { name = c.name; of = k; fields = c.fields }) cases
