use Rattle.std.proofs.Common.{◌≡◌, true, false, arith, ◌∙◌}
use Rattle.std.proofs.lemmas.Grind.{common_steps}
use Rattle.std.specs.List.{list_any}
use Rattle.crdt_defs.specs.Calls.{calls_view}
use Rattle.crdt_defs.specs.Histories.{before}
use Rattle.crdt_lib.proofs.PickedLemmas.{before_listed}
use Rattle.crdt_lib.proofs.picked.is_before.Goals as goal

pub returns-then-before : goal.returns-then-before
returns-then-before c =
    let some : true ≡ list_any (before (calls_view c.args.h.now) c.args.c) c.args.calls.now = grind (arith, common_steps) in
    some ∙ before_listed c.args.h.now c.args.calls.now c.args.c c.requires

pub returns : goal.returns
returns c =
    let none : false ≡ list_any (before (calls_view c.args.h.now) c.args.c) c.args.calls.now = grind (arith, common_steps) in
    none ∙ before_listed c.args.h.now c.args.calls.now c.args.c c.requires
