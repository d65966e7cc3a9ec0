use Rattle.std.proofs.Common.{ℕ, List, sym, subst}
use Rattle.crdt_defs.specs.declared.call.CallRec.{CallRec}
use Rattle.crdt_defs.specs.Calls.{call_view, calls_view}
use Rattle.crdt_lib.proofs.HistoryLemmas.{seen_push}
use Rattle.machine_tests.specs.means.Indexed.{IsIndexed, listed_at}
use Rattle.machine_tests.proofs.IndexLemmas.{indexed_same, indexed_more}
use Rattle.machine_tests.proofs.indexed.IndexedHistory.push.Goals as goal

pub invariant_of-self : goal.invariant_of-self
invariant_of-self c = indexed_same (calls_view c.self.inside.history) c.self.inside.by_tx.items c.note.new.lists.items c.self.inside.top c.in_err-note.ensures.err c.self.invariant

pub invariant_of-self-in-Err : goal.invariant_of-self-in-Err
invariant_of-self-in-Err c =
    let lists = c.self.inside.by_tx.items in
    let back = c.take_back.ensures (listed_at lists) c.len.result c.in_ok-note.ensures.ok in
    subst (λ (calls : List CallRec). IsIndexed (calls_view calls) c.take_back.new.lists.items c.self.inside.top) (sym c.in-Err.ensures.err)
    (indexed_same (calls_view c.self.inside.history) lists c.take_back.new.lists.items c.self.inside.top back c.self.invariant)

pub invariant_of-self-in-Ok : goal.invariant_of-self-in-Ok
invariant_of-self-in-Ok c =
    subst (λ (top : ℕ). IsIndexed (calls_view c.push.new.self) c.note.new.lists.items top) (sym c.greater-top.ensures)
    (rw (c.in-Ok.ensures.ok, seen_push) (indexed_more (calls_view c.self.inside.history) (call_view c.args.call) c.len.result c.self.inside.by_tx.items c.note.new.lists.items c.self.inside.top c.len.ensures.seen c.in_ok-note.ensures.ok c.self.invariant))
