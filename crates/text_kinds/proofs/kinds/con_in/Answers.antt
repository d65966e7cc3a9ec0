use Rattle.std.proofs.Common.{[], sym, ap, ◌∙◌}
use Rattle.std.specs.Prelude.{unwrap_or}
use Rattle.std.specs.List.{position_from}
use Rattle.std.specs.Option.{option_map}
use Rattle.type_rules.specs.Names.{same_name}
use Rattle.type_rules.specs.Matches.{Case}
use Rattle.type_terms.specs.Views.{cases_view}
use Rattle.text_names.specs.Declarations.{names_view}
use Rattle.text_kinds.proofs.kinds.con_in.Goals as goal

pub returns-in-Some : goal.returns-in-Some
returns-in-Some c =
    let n = names_view c.args.names.now in
    c.place_in.ensures n
    ∙ ap (λ o. position_from (λ (x : Case). same_name x.name c.args.name.now) 0 (unwrap_or o []))
    (ap (option_map (cases_view n)) (sym c.in-Some.is) ∙ c.cases_of.ensures)

pub returns-in-None : goal.returns-in-None
returns-in-None c =
    let n = names_view c.args.names.now in
    ap (λ o. position_from (λ (x : Case). same_name x.name c.args.name.now) 0 (unwrap_or o []))
    (ap (option_map (cases_view n)) (sym c.in-None.is) ∙ c.cases_of.ensures)
