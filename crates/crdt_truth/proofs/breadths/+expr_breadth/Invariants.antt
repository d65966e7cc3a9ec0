use Rattle.std.proofs.Common.{◌≡◌, ◌≤◌, ◌+◌, ◌*◌, min, drop}
use Rattle.rp_lang.specs.Sizes.{ex_nodes, exs_nodes}
use Rattle.rp_lang.specs.Views.{expr_view, exprs_view}
use Rattle.crdt_truth.specs.Breadths.{exs_breadth}
use Rattle.crdt_truth.specs.Readings.{parts_view}
use Rattle.crdt_truth.proofs.breadths.+expr_breadth.Given as goal

abbrev pub decreases-expr_breadth : goal.decreases-expr_breadth
decreases-expr_breadth l = 2 * ex_nodes (expr_view l.e.now)

abbrev pub decreases-exprs_breadth : goal.decreases-exprs_breadth
decreases-exprs_breadth l = 2 * exs_nodes (exprs_view l.exprs.now) + 1

abbrev pub invariant-exprs_breadth-loop-e : goal.invariant-exprs_breadth-loop-e
invariant-exprs_breadth-loop-e l = record {
  all : min (exs_breadth (parts_view l.r) (exprs_view l.exprs)) 18446744073709551615 ≡ min (l.sum + exs_breadth (parts_view l.r) (exprs_view (drop l.e-index l.exprs))) 18446744073709551615;
  fits : l.sum ≤ 18446744073709551615;
}
