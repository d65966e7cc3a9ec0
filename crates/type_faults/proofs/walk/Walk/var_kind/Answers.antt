use Rattle.std.proofs.Common.{ap, sym, ◌∙◌}
use Rattle.std.specs.Option.{option_map}
use Rattle.type_rules.specs.StmtSites.{var_kind}
use Rattle.type_tables.specs.Variables.{var_view}
use Rattle.type_faults.proofs.walk.Walk.var_kind.Goals as goal

pub returns-in-Some : goal.returns-in-Some
returns-in-Some c = ap (λ o. var_kind (option_map var_view o)) (sym c.in-Some.is) ∙ ap var_kind c.find.ensures

pub returns-in-None : goal.returns-in-None
returns-in-None c = ap (λ o. var_kind (option_map var_view o)) (sym c.in-None.is) ∙ ap var_kind c.find.ensures
