use Rattle.std.proofs.Common.{◌≡◌, Some, length, ltb-true, refl, sym, ◌∙◌}
use Rattle.std.specs.List.{slice_get}
use Rattle.std.proofs.lemmas.Option.{slice_get_read}
use Rattle.rp_ast.specs.View.{param_view}
use Rattle.type_rules.specs.Names.{param_type}
use Rattle.type_rules.specs.Kinds.{kind_of}
use Rattle.text_names.specs.Declarations.{names_view}
use Rattle.text_names.proofs.Entries.{if_ok}
use Rattle.type_terms.proofs.Found.{first_read}
use Rattle.type_terms.proofs.access.param_kind.Goals as goal

pub returns-in-Some : goal.returns-in-Some
returns-in-Some c =
    let n = names_view c.args.names.now in
    let place = c.args.place in
    let params = c.args.params.now in
    let there : slice_get params place ≡ Some c.in-Some.param.now =
    slice_get_read params (length params) place _ refl
    (ltb-true _ _ (sym c.in-Some.ensures.lookup.0)) c.in-Some.ensures.lookup.1 in
    if_ok c.kind_of.result
    (λ kind e. e ∙ sym (first_read (λ p. kind_of n (param_type p)) param_view params place c.in-Some.param.now there))
    c.kind_of.ensures
