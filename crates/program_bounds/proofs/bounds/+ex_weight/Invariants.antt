use Rattle.std.proofs.Common.{◌≡◌, ◌+◌, ◌≤◌, min, drop}
use Rattle.rp_lang.specs.Bounds.{exs_weight}
use Rattle.program_bounds.specs.UsesView.{uses_view}
use Rattle.rp_lang.specs.Views.{exprs_view}
use Rattle.program_bounds.proofs.bounds.+ex_weight.Given as goal

abbrev pub invariant-exs_weight-loop-e : goal.invariant-exs_weight-loop-e
invariant-exs_weight-loop-e l = record {
  all : min (exs_weight (uses_view l.uses) (exprs_view l.exprs)) 100001 ≡ min (l.sum + exs_weight (uses_view l.uses) (exprs_view (drop l.e-index l.exprs))) 100001;
  fits : l.sum ≤ 100001;
}
