use Rattle.std.proofs.Common.{◌≡◌, ◌+◌, ◌≤◌, min, drop}
use Rattle.code_points.specs.Points.{size, arms_size}
use Rattle.rp_lang.specs.Views.{stmts_view, stmt_arms_view}
use Rattle.code_points.proofs.point.+size.Given as goal

abbrev pub invariant-size-loop-stmt : goal.invariant-size-loop-stmt
invariant-size-loop-stmt l = record {
  all : min (size (stmts_view l.stmts)) 18446744073709551615 ≡ min (l.points + size (stmts_view (drop l.stmt-index l.stmts))) 18446744073709551615;
  fits : l.points ≤ 18446744073709551615;
}

abbrev pub invariant-arms_size-loop-arm : goal.invariant-arms_size-loop-arm
invariant-arms_size-loop-arm l = record {
  all : min (arms_size (stmt_arms_view l.arms)) 18446744073709551615 ≡ min (l.points + arms_size (stmt_arms_view (drop l.arm-index l.arms))) 18446744073709551615;
  fits : l.points ≤ 18446744073709551615;
}
