use Rattle.spent_tests.proofs.conditions.+waits_from.Given as goal

abbrev pub decreases-waits_from : goal.decreases-waits_from
decreases-waits_from l = l.left
