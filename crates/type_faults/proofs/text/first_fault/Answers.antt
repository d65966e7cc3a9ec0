use Rattle.std.proofs.Common.{ap, ap₂, ◌∙◌}
use Rattle.rp_ast.specs.View.{ast_view, decls_view}
use Rattle.type_rules.specs.Queries.{names_of}
use Rattle.type_rules.specs.TextSites.{nothing_seen}
use Rattle.type_rules.specs.Faults.{first, sooner}
use Rattle.type_faults.specs.Texts.{inner_from, named_from}
use Rattle.type_faults.proofs.Named.{names_apart}
use Rattle.type_faults.proofs.text.first_fault.Goals as goal

pub returns : goal.returns
returns c =
    let tree = ast_view c.args.ast.now in
    let n = names_of tree in
    c.sooner.ensures
    ∙ ap₂ sooner
    (c.in_ok-named.ensures n ∙ ap (λ l. first n (named_from nothing_seen (decls_view l))) c.as_slice.ensures.items)
    (c.in_ok-below.ensures ∙ ap (λ m. first m (inner_from m 0 tree)) c.requires.names)
    ∙ names_apart n nothing_seen 0 tree
