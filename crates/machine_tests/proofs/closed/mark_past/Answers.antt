use Rattle.std.proofs.Common.{◌≡◌, ◌<◌, true, ◌||◌, length, ap, sym, subst, ◌∙◌, arith}
use Rattle.std.specs.Prelude.{All}
use Rattle.crdt_defs.specs.Calls.{calls_view}
use Rattle.crdt_defs.specs.Histories.{meets}
use Rattle.crdt_defs.specs.Snapshots.{bit}
use Rattle.crdt_lib.proofs.HistoryLemmas.{seen_length}
use Rattle.event_machine.specs.Machine as spec
use Rattle.machine_tests.proofs.ClosedLemmas.{past_low, seen_causes, marked_causes, before_is_earlier}
use Rattle.machine_tests.proofs.closed.mark_past.Goals as goal

pub mark_all-requires-clause-below : goal.mark_all-requires-clause-below
mark_all-requires-clause-below c =
    subst (λ xs. All (λ n. n < 16384) xs) (sym c.as_slice.ensures.items) (past_low (calls_view c.args.h.now) c.args.d _ c.requires.history c.call.ensures.seen)

pub returns-then-is_seen-clause-causes : goal.returns-then-is_seen-clause-causes
returns-then-is_seen-clause-causes c =
    let h = calls_view c.args.h.now in
    let same : length h ≡ length c.args.h.now = seen_length c.args.h.now in
    let within : c.args.d < length h = omega arith in
    seen_causes h (spec.calls_of h c.args.sees.now) c.args.d (bit c.args.row.now) (bit c.mark_all.new.row) within (sym c.if-is_seen.ensures)
    (λ b. c.mark_all.ensures.marked b
    ∙ ap (λ xs. spec.is_in xs b || bit c.args.row.now b) c.as_slice.ensures.items
    ∙ ap (λ o. meets (λ call. spec.is_in call.past b) o || bit c.args.row.now b) (sym c.call.ensures.seen))
    c.requires.later

pub returns-else-not-row-d-clause-causes : goal.returns-else-not-row-d-clause-causes
returns-else-not-row-d-clause-causes c =
    let h = calls_view c.args.h.now in
    let marked : bit c.args.row.now c.args.d ≡ true = cc in
    marked_causes h (spec.calls_of h c.args.sees.now) c.args.d (bit c.args.row.now) c.requires.transitive (before_is_earlier h c.requires.history) marked c.requires.later
