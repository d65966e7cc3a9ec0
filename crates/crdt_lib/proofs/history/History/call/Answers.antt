use Rattle.std.proofs.Common.{subst, Option}
use Rattle.std.specs.List.Sorted.{IsStrictlyIncreasing}
use Rattle.crdt_defs.specs.Calls.{Call}
use Rattle.crdt_defs.specs.Histories.{past_of}
use Rattle.crdt_lib.proofs.HistoryLemmas.{seen_call}
use Rattle.crdt_lib.proofs.history.History.call.Goals as goal

pub returns-clause-seen : goal.returns-clause-seen
returns-clause-seen c = rw (← c.self.view_is) (seen_call c.self.inside.calls c.args.c _ c.get.ensures)

pub returns-clause-ascending : goal.returns-clause-ascending
returns-clause-ascending c =
    let P : Option Call → Type 0 = λ o. IsStrictlyIncreasing (past_of o) in
    subst P (seen_call c.self.inside.calls c.args.c _ c.get.ensures) (c.self.invariant.ascending c.args.c)
