use Rattle.std.proofs.Common.{◌≡◌, drop}
use Rattle.rp_logic.specs.Views.{formulas_view}
use Rattle.refute_branch.specs.Views.{branch_view}
use Rattle.spent_defs.specs.Complete.{some_on}
use Rattle.spent_tests.proofs.on.some_on.Given as goal

abbrev pub invariant-loop-f : goal.invariant-loop-f
invariant-loop-f l =
    some_on (branch_view l.b) (formulas_view l.parts)
    ≡ some_on (branch_view l.b) (formulas_view (drop l.f-index l.parts))
