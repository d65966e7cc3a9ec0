use Rattle.std.proofs.Common.{ap, ◌∙◌}
use Rattle.std.specs.Prelude.{ltb}
use Rattle.type_tables.specs.Counts.{count_in}
use Rattle.type_judges.proofs.Later.{among_counted}
use Rattle.type_judges.proofs.rule_uses.is_later.Goals as goal

pub returns : goal.returns
returns c = λ later counted.
    let name = c.args.name.now.text in
    c.has.ensures ∙ ap (λ x. ltb 0 (count_in c.args.scope.now.later.now x)) c.as_slice.ensures.items
    ∙ ap (ltb 0) (counted name) ∙ among_counted name later
