use Rattle.std.proofs.Common.{◌<◌, ℕ, List, Some, sym, ◌∙◌, ap, subst}
use Rattle.std.specs.Prelude.{All}
use Rattle.crdt_defs.specs.declared.call.CallRec.{CallRec}
use Rattle.crdt_defs.specs.Calls.{calls_view}
use Rattle.event_machine.specs.Machine as spec
use Rattle.machine_tests.specs.means.Indexed.{listed_at}
use Rattle.machine_tests.proofs.IndexLemmas.{indexed_below}
use Rattle.machine_tests.proofs.indexed.IndexedHistory.of_tx.Goals as goal

pub returns-clause-calls : goal.returns-clause-calls
returns-clause-calls c = λ n.
    let at = c.numbers_at.ensures ∙ ap (λ (lists : List (List ℕ)). listed_at lists c.args.tx) c.as_slice.ensures.value in
    ap (λ (xs : List ℕ). spec.is_in xs n) at
    ∙ c.self.invariant.each c.args.tx n
    ∙ ap (λ (calls : List CallRec). spec.own_calls (calls_view calls) (Some c.args.tx) n) c.self.view_is

pub returns-clause-below : goal.returns-clause-below
returns-clause-below c =
    let at = c.numbers_at.ensures ∙ ap (λ (lists : List (List ℕ)). listed_at lists c.args.tx) c.as_slice.ensures.value in
    subst (λ (xs : List ℕ). All (λ n. n < 16384) xs) (sym at) (indexed_below (calls_view c.self.inside.history) c.self.inside.by_tx.items c.args.tx c.self.inside.top c.len-calls.ensures.history c.self.invariant)
