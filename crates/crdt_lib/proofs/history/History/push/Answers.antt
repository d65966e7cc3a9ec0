use Rattle.std.proofs.Common.{sym, ◌∙◌, ap, subst, length}
use Rattle.crdt_defs.specs.Calls.{call_view, calls_view}
use Rattle.crdt_defs.specs.Histories.{MayFollow}
use Rattle.crdt_lib.proofs.HistoryLemmas.{seen_length, seen_push, history_push}
use Rattle.crdt_lib.proofs.history.History.push.Goals as goal

pub invariant_of-self-2 : goal.invariant_of-self-2
invariant_of-self-2 c =
    let follows = subst (λ n. MayFollow n (call_view c.args.call)) (ap length (sym c.self.view_is) ∙ sym (seen_length c.self.inside.calls)) c.requires in
    rw (c.in_ok-push.ensures.ok, seen_push) (history_push (calls_view c.self.inside.calls) (call_view c.args.call) c.self.invariant follows)
