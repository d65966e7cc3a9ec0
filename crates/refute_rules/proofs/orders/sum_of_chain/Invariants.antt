use Rattle.std.proofs.Common.{◌≡◌, drop, pos}
use Rattle.rp_logic.specs.Views.{term_view}
use Rattle.refute_defs.specs.Children.{chain}
use Rattle.refute_branch.specs.Views.{branch_view}
use Rattle.refute_rules.proofs.orders.sum_of_chain.Given as goal

abbrev pub invariant-loop-p : goal.invariant-loop-p
invariant-loop-p l =
    chain (branch_view l.b) l.places (term_view l.start) (term_view l.start) (pos 0)
    ≡ chain (branch_view l.b) (drop l.p-index l.places) (term_view l.at) (term_view l.start) l.total
