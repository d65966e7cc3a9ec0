use Rattle.std.proofs.Common.{◌≡◌, ◌+◌, ◌≤◌, min, drop}
use Rattle.rp_lang.specs.Sizes.{sts_count, st_arms_count}
use Rattle.rp_lang.specs.Views.{stmts_view, stmt_arms_view}
use Rattle.rp_lang.proofs.stmt.+stmt_count.Given as goal

abbrev pub invariant-count_all-loop-stmt : goal.invariant-count_all-loop-stmt
invariant-count_all-loop-stmt l = record {
  all : min (sts_count (stmts_view l.stmts)) 18446744073709551615 ≡ min (l.count + sts_count (stmts_view (drop l.stmt-index l.stmts))) 18446744073709551615;
  fits : l.count ≤ 18446744073709551615;
}

abbrev pub invariant-count_arms-loop-arm : goal.invariant-count_arms-loop-arm
invariant-count_arms-loop-arm l = record {
  all : min (st_arms_count (stmt_arms_view l.arms)) 18446744073709551615 ≡ min (l.count + st_arms_count (stmt_arms_view (drop l.arm-index l.arms))) 18446744073709551615;
  fits : l.count ≤ 18446744073709551615;
}
