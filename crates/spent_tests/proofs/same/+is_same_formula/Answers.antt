use Rattle.std.proofs.Common.{arith}
use Rattle.spent_tests.proofs.SameLists.{formulas_differ}
use Rattle.spent_tests.proofs.same.+is_same_formula.Goals as goal

pub are_same_formulas-returns-then-a-b : goal.are_same_formulas-returns-then-a-b
are_same_formulas-returns-then-a-b t c = formulas_differ c.args.a.now c.args.b.now (λ e. omega (arith, e))
