use Rattle.std.proofs.Common.{◌≡◌, ◌+◌, ◌*◌, map, take}
use Rattle.rp_value.specs.ValueView.{value_view}
use Rattle.rp_lang.specs.Sizes.{ex_nodes, exs_nodes}
use Rattle.rp_lang.specs.Views.{expr_view, exprs_view}
use Rattle.crdt_defs.specs.Truths.{value}
use Rattle.crdt_truth.specs.Open.{binders_view}
use Rattle.crdt_truth.specs.Readings.{reading_view}
use Rattle.crdt_truth.proofs.exprs.+value.Given as goal

abbrev pub decreases-value : goal.decreases-value
decreases-value l = 2 * ex_nodes (expr_view l.e.now)

abbrev pub decreases-integer : goal.decreases-integer
decreases-integer l = 2 * ex_nodes (expr_view l.e.now) + 1

abbrev pub decreases-values : goal.decreases-values
decreases-values l = 2 * exs_nodes (exprs_view l.exprs.now) + 1

abbrev pub invariant-values-loop-e : goal.invariant-values-loop-e
invariant-values-loop-e l = map value_view l.made ≡ map (λ e. value (reading_view l.r) (binders_view l.binders) (expr_view e)) (take l.e-index l.exprs)
