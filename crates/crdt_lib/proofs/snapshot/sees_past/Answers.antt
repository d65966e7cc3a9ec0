use Rattle.std.proofs.Common.{sym, ◌∙◌, ap}
use Rattle.std.specs.List.{list_all}
use Rattle.std.specs.FinSet as set
use Rattle.crdt_defs.specs.Histories.{past_of}
use Rattle.crdt_lib.proofs.snapshot.sees_past.Goals as goal

pub returns : goal.returns
returns g c =
    c.sees_all.ensures
    ∙ ap (list_all (set.contains (g.V.View.calls c.args.view.now))) c.as_slice.ensures.items
    ∙ ap (λ o. list_all (set.contains (g.V.View.calls c.args.view.now)) (past_of o)) (sym c.call.ensures.seen)
