use Rattle.std.proofs.Common.{ap, ◌∙◌}
use Rattle.rp_ast.specs.View.{ast_view}
use Rattle.type_rules.specs.Faults.{first}
use Rattle.text_names.proofs.Entries.{if_ok}
use Rattle.type_faults.specs.Texts.{inner_from}
use Rattle.type_faults.proofs.Lists.{none_counted, none_flagged}
use Rattle.type_faults.proofs.text.walked.Goals as goal

pub returns : goal.returns
returns c =
    let tree = ast_view c.args.ast.now in
    if_ok c.decls.result
    (λ f e. e ∙ ap (λ n. first n (inner_from n 0 tree)) c.new-walk.ensures.names)
    (c.decls.ensures (none_flagged c.new-walk.ensures.used) (none_counted c.new-walk.ensures.later))
