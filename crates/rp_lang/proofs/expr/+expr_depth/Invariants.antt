use Rattle.std.proofs.Common.{◌≤◌, ◌↔◌, drop}
use Rattle.rp_lang.specs.Sizes.{exs_depth}
use Rattle.rp_lang.specs.Views.{exprs_view}
use Rattle.rp_lang.proofs.expr.+expr_depth.Given as goal

abbrev pub invariant-are_within-loop-e : goal.invariant-are_within-loop-e
invariant-are_within-loop-e l = (exs_depth (exprs_view l.exprs) ≤ l.limit) ↔ (exs_depth (exprs_view (drop l.e-index l.exprs)) ≤ l.limit)
