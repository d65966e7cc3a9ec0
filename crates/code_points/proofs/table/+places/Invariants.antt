use Rattle.std.proofs.Common.{◌≡◌, ◌+◌, ◌*◌, ◌≤◌, ◌++◌, drop, length, map, option_map}
use Rattle.rp_lang.specs.Views.{stmt_view, stmts_view, stmt_arms_view}
use Rattle.code_points.specs.Points.{size, arms_size}
use Rattle.code_points.specs.PointView.{place_view, spot_view}
use Rattle.code_points.specs.Places.{block_places, arms_places}
use Rattle.code_points.proofs.Weights.{weight, weights, arms_weight}
use Rattle.code_points.proofs.table.+places.Given as goal

abbrev pub decreases-add_inside : goal.decreases-add_inside
decreases-add_inside l = 3 * weight (stmt_view l.stmt.now)

abbrev pub decreases-add_block : goal.decreases-add_block
decreases-add_block l = 1 + 3 * weights (stmts_view l.stmts.now)

abbrev pub decreases-add_arms : goal.decreases-add_arms
decreases-add_arms l = 3 * arms_weight (stmt_arms_view l.arms.now)

abbrev pub invariant-add_block-loop-left : goal.invariant-add_block-loop-left
invariant-add_block-loop-left l = record {
  added : map place_view l.places ++ block_places (stmts_view l.left) l.at (option_map spot_view l.behind)
      ≡ map place_view l.initial.places ++ block_places (stmts_view l.stmts) l.base (option_map spot_view l.behind);
  rest : l.rest ≡ size (stmts_view l.left);
  room : l.at + size (stmts_view l.left) ≡ l.base + size (stmts_view l.stmts);
  less : weights (stmts_view l.left) ≤ weights (stmts_view l.stmts);
}

abbrev pub decreases-add_block-loop-left : goal.decreases-add_block-loop-left
decreases-add_block-loop-left l = length l.left

abbrev pub invariant-add_arms-loop-arm : goal.invariant-add_arms-loop-arm
invariant-add_arms-loop-arm l = record {
  added : map place_view l.places ++ arms_places (stmt_arms_view (drop l.arm-index l.arms)) l.at (option_map spot_view l.next)
      ≡ map place_view l.initial.places ++ arms_places (stmt_arms_view l.arms) l.base (option_map spot_view l.next);
  room : l.at + arms_size (stmt_arms_view (drop l.arm-index l.arms)) ≡ l.base + arms_size (stmt_arms_view l.arms);
  less : arms_weight (stmt_arms_view (drop l.arm-index l.arms)) ≤ arms_weight (stmt_arms_view l.arms);
}
