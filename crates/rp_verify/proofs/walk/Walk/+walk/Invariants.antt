use Rattle.std.proofs.Common.{◌+◌, ◌*◌}
use Rattle.rp_lang.specs.Views.{stmt_view, stmts_view}
use Rattle.rp_verify.proofs.Weights.{weight, weights, left_weight}
use Rattle.rp_verify.proofs.walk.Walk.+walk.Given as goal

abbrev pub decreases-follow : goal.decreases-follow
decreases-follow l = 2 * (weights (stmts_view l.stmts.now) + left_weight l.left.now) + 1

abbrev pub decreases-follow_stmt : goal.decreases-follow_stmt
decreases-follow_stmt l = 2 * (weight (stmt_view l.stmt.now) + weights (stmts_view l.others.now) + left_weight l.left.now)

abbrev pub decreases-follow_branch : goal.decreases-follow_branch
decreases-follow_branch l = 2 * (weights (stmts_view l.branch.now) + left_weight l.left.now) + 2
