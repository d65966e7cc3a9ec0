use Rattle.std.proofs.Common.{◌++◌, ◌∙◌, ap₂, map, reverse}
use Rattle.rp_logic.specs.SigView.{sig_view}
use Rattle.refute_defs.specs.Views.{node_view}
use Rattle.refute_branch.specs.Views.{branch_view}
use Rattle.refute_check.specs.means.Waits.{open_branches, wait}
use Rattle.refute_check.proofs.Walks.{children_within, goes_on}
use Rattle.refute_check.proofs.walk.visit.Goals as goal

pub enter_next-requires-clause-within : goal.enter_next-requires-clause-within
enter_next-requires-clause-within c =
    children_within c.args.b.now c.in-Ok.adds c.args.waiting.now c.wait_for_each.new.waiting
    (c.in_ok-wait_for_each-in-Ok.ensures ∙ ap₂
    (λ n m. map (wait n m) c.in-Ok.adds ++ reverse c.args.waiting.now) c.count.ensures.length
    c.count-in-Ok.ensures.length)
    c.requires.within

pub returns-in_ok-enter_next-in-Ok-clause-goes_on :
    goal.returns-in_ok-enter_next-in-Ok-clause-goes_on
returns-in_ok-enter_next-in-Ok-clause-goes_on c =
    goes_on (sig_view c.args.sig.now) c.args.number c.args.b.now c.in-Ok.adds c.args.waiting.now
    c.wait_for_each.new.waiting
    (open_branches c.in_ok-enter_next-in-Ok.field-0 (branch_view c.enter_next.new.b)
    c.enter_next.new.waiting) (node_view c.args.node.now) c.in-Ok.ensures.found
    (c.in_ok-wait_for_each-in-Ok.ensures ∙ ap₂
    (λ n m. map (wait n m) c.in-Ok.adds ++ reverse c.args.waiting.now) c.count.ensures.length
    c.count-in-Ok.ensures.length)
    c.in_ok-enter_next-in-Ok.ensures.open
