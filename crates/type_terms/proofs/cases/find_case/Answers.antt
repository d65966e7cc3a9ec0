use Rattle.std.proofs.Common.{Option, map, ap, sym, ◌∙◌}
use Rattle.std.specs.Option.{option_map}
use Rattle.rp_ast.specs.View.{con_view}
use Rattle.type_rules.specs.Matches as spec
use Rattle.type_rules.specs.Matches.{Case, con_case}
use Rattle.type_terms.specs.Views.{cases_view}
use Rattle.type_terms.specs.declared.cases.Cases as code_cases
use Rattle.type_terms.proofs.Found.{case_found}
use Rattle.type_terms.proofs.cases.find_case.Goals as goal

pub returns-in-Some : goal.returns-in-Some
returns-in-Some c = λ n.
    let name = c.args.name.now in
    let cons = map con_view c.in-Declared.cons.now.cons.now in
    let fields : Option Case → Option _ = option_map (λ case. case.fields) in
    ap (λ found. fields (option_map (con_case n) (option_map (λ con. con_view con.now) found))) (sym c.in-Some.is)
    ∙ ap (λ found. fields (option_map (con_case n) found)) c.named.ensures
    ∙ ap fields (sym (case_found n cons name))
    ∙ ap (λ (cases : code_cases.Cases). fields (spec.find_case (cases_view n cases) name)) (sym c.in-Declared.is)

pub returns-in-None : goal.returns-in-None
returns-in-None c = λ n.
    let name = c.args.name.now in
    let cons = map con_view c.in-Declared.cons.now.cons.now in
    let fields : Option Case → Option _ = option_map (λ case. case.fields) in
    ap (λ found. fields (option_map (con_case n) (option_map (λ con. con_view con.now) found))) (sym c.in-None.is)
    ∙ ap (λ found. fields (option_map (con_case n) found)) c.named.ensures
    ∙ ap fields (sym (case_found n cons name))
    ∙ ap (λ (cases : code_cases.Cases). fields (spec.find_case (cases_view n cases) name)) (sym c.in-Declared.is)
