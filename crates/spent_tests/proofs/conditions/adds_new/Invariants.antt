use Rattle.std.proofs.Common.{◌≡◌, drop, map}
use Rattle.refute_branch.specs.Views.{branch_view}
use Rattle.refute_rules.specs.Added.{addition_view}
use Rattle.spent_defs.specs.Conditions.{adds_new}
use Rattle.spent_tests.proofs.conditions.adds_new.Given as goal

abbrev pub invariant-loop-a : goal.invariant-loop-a
invariant-loop-a l =
    adds_new (branch_view l.b) (map addition_view l.adds)
    ≡ adds_new (branch_view l.b) (map addition_view (drop l.a-index l.adds))
