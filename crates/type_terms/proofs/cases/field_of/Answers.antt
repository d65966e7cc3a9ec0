use Rattle.std.proofs.Common.{drop, ap, sym, ◌∙◌}
use Rattle.rp_ast.specs.View.{params_view}
use Rattle.type_rules.specs.Kinds.{param_kinds}
use Rattle.type_rules.specs.Matches.{first_kind}
use Rattle.text_names.specs.Declarations.{names_view}
use Rattle.text_names.proofs.Entries.{if_ok}
use Rattle.type_terms.specs.Views.{fields_of}
use Rattle.type_terms.specs.declared.cases.Case as code_case
use Rattle.type_terms.proofs.cases.field_of.Goals as goal

pub returns-in-Con : goal.returns-in-Con
returns-in-Con c =
    let n = names_view c.args.names.now in
    let place = c.args.place in
    if_ok c.param_kind.result
    (λ kind e. e ∙ ap (λ fields. first_kind (drop place (param_kinds n (params_view fields)))) c.as_slice.ensures.items
    ∙ ap (λ (case : code_case.Case). first_kind (drop place (fields_of n case))) (sym c.in-Con.is))
    c.param_kind.ensures
