use Rattle.std.proofs.Common.{◌≤◌, ◌+◌, [], get_or, length, sym, subst, arith}
use Rattle.std.proofs.lemmas.Option.{slice_get-get_or}
use Rattle.crdt_truth.specs.Readings.{parts_view}
use Rattle.crdt_truth.specs.means.Done.{AreDone}
use Rattle.crdt_truth.proofs.DoneLemmas.{done_more, done_kept, done_past}
use Rattle.crdt_truth.proofs.done.note.Goals as goal

pub returns-in_default : goal.returns-in_default
returns-in_default c = done_kept (parts_view c.args.r.now) c.args.c c.args.lists.now.items c.done_by.result c.requires.done c.done_by.ensures c.in_default.is

pub returns-in_ok-put : goal.returns-in_ok-put
returns-in_ok-put c =
    let s = parts_view c.args.r.now in
    let lists = c.args.lists.now.items in
    let i = c.in-Some.i in
    let here = slice_get-get_or lists i [] (omega (arith, c.len.ensures)) in
    subst (AreDone s (c.args.c + 1)) (sym (c.in_ok-put.ensures (get_or lists i []) here))
    (done_more s c.args.c lists c.done_by.result i (get_or lists i []) c.requires.done c.done_by.ensures c.in-Some.is here)

pub returns-else-i-len : goal.returns-else-i-len
returns-else-i-len c =
    let past : length c.args.lists.now.items ≤ c.in-Some.i = omega (arith, c.len.ensures) in
    done_past (parts_view c.args.r.now) c.args.c c.args.lists.now.items c.done_by.result c.in-Some.i c.requires.done c.done_by.ensures c.in-Some.is past
