use Rattle.std.proofs.Common.{sym, ap, ◌∙◌}
use Rattle.std.specs.Option.{option_map}
use Rattle.type_rules.specs.Matches.{case_fields, case_named, find_case}
use Rattle.type_terms.specs.Views.{cases_view}
use Rattle.text_names.specs.Declarations.{names_view}
use Rattle.text_kinds.proofs.Bare.{fields_are}
use Rattle.text_kinds.proofs.appearances.case_of.Goals as goal

pub returns-in-Some : goal.returns-in-Some
returns-in-Some c =
    let n = names_view c.args.names.now in
    let name = c.args.name.now in
    fields_are n c.find_case.result (find_case (cases_view n c.in-Some.cases) name) (c.find_case.ensures n)
    ∙ ap (λ cs. case_fields (case_named cs name)) (ap (option_map (cases_view n)) (sym c.in-Some.is) ∙ c.cases_of.ensures)

pub returns-in-None : goal.returns-in-None
returns-in-None c =
    let n = names_view c.args.names.now in
    ap (λ cs. case_fields (case_named cs c.args.name.now)) (ap (option_map (cases_view n)) (sym c.in-None.is)
    ∙ c.cases_of.ensures)
