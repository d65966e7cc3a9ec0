use Rattle.std.proofs.Common.{◌∙◌, ap}
use Rattle.crdt_defs.specs.Calls.{calls_view}
use Rattle.crdt_defs.specs.Histories.{some_call}
use Rattle.crdt_lib.proofs.answer.has_key.Goals as goal

pub returns : goal.returns
returns c =
    let h = calls_view c.args.h.now in
    c.any.ensures ∙ ap (λ those. some_call h those) c.narrow.ensures
