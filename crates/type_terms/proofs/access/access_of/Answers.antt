use Rattle.std.proofs.Common.{ap, ◌∙◌}
use Rattle.rp_ast.specs.View.{access_view}
use Rattle.text_names.specs.Declarations.{names_view}
use Rattle.text_names.proofs.Entries.{if_ok}
use Rattle.type_terms.specs.Meanings.{access_by}
use Rattle.type_terms.proofs.Meant.{node_meant}
use Rattle.type_terms.proofs.access.access_of.Goals as goal

pub returns : goal.returns
returns c =
    let n = names_view c.args.names.now in
    let a = c.args.access.now in
    if_ok c.access_by.result
    (λ what e. e ∙ ap (λ m. access_by n m (access_view a)) c.meaning_of-meaning.ensures ∙ node_meant n c.args.vars.now a)
    (c.access_by.ensures n)
