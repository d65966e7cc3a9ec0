use Rattle.std.proofs.Common.{◌≡◌, ◌+◌, ◌≤◌, min, drop}
use Rattle.rp_lang.specs.Sizes.{exs_nodes}
use Rattle.rp_lang.specs.Views.{exprs_view}
use Rattle.rp_lang.proofs.expr.+expr_nodes.Given as goal

abbrev pub invariant-exprs_nodes-loop-e : goal.invariant-exprs_nodes-loop-e
invariant-exprs_nodes-loop-e l = record {
  all : min (exs_nodes (exprs_view l.exprs)) 18446744073709551615 ≡ min (l.nodes + exs_nodes (exprs_view (drop l.e-index l.exprs))) 18446744073709551615;
  fits : l.nodes ≤ 18446744073709551615;
}
