use Rattle.std.specs.Prelude.{◌∷◌}
use Rattle.type_rules.specs.Kinds.{bool_kind}
use Rattle.type_rules.specs.Queries.{names_of}
use Rattle.desugaring.specs.Appearances.{kinds_from}
use Rattle.desugaring.specs.Tables.{tables_of}
use Rattle.lawful.proofs.Blocks.{kinds_differ}
use Rattle.lawful.proofs.Arms.{cases_are}
use Rattle.lawful.proofs.Places.{cases_differ}
use Rattle.lawful.proofs.laws.arms_are_complete.Goals as goal

pub returns : goal.returns
returns c = λ tree p is words.
    cases_are (tables_of tree) p words is.1.cons is.1.types (kinds_differ (bool_kind ∷ kinds_from (names_of tree) 0 0 tree)) (cases_differ tree is.0)
