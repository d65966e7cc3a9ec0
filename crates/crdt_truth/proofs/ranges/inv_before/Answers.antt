use Rattle.std.proofs.Common.{sym, length, subst}
use Rattle.crdt_defs.specs.Calls.{calls_view}
use Rattle.crdt_defs.specs.Parts.{is_done_by}
use Rattle.crdt_truth.specs.Readings.{parts_view}
use Rattle.crdt_truth.specs.means.Done.{AreThose}
use Rattle.crdt_truth.proofs.ranges.inv_before.Goals as goal

pub returns-in-Some-list_of : goal.returns-in-Some-list_of
returns-in-Some-list_of c =
    let s = parts_view c.args.r.now in
    let n = length (calls_view c.args.r.now.history.now) in
    let early = c.requires.each c.args.i c.in-Some.early.now (sym c.in-Some.ensures) in
    let late = c.requires.each c.args.j c.in-Some-list_of.late.now (sym c.in-Some-list_of.ensures) in
    c.lists_before.ensures (is_done_by s c.args.i) (is_done_by s c.args.j) n
    (subst (AreThose (is_done_by s c.args.i) n) (sym c.as_slice.ensures.items) early)
    (subst (AreThose (is_done_by s c.args.j) n) (sym c.as_slice-in-Some-list_of.ensures.items) late)
