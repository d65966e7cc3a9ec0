use Rattle.std.proofs.Common.{◌≡◌, drop}
use Rattle.rp_lang.specs.Bounds.{are_small_exs}
use Rattle.rp_lang.specs.Views.{exprs_view}
use Rattle.program_bounds.proofs.bounds.are_small_exs.Given as goal

abbrev pub invariant-loop-e : goal.invariant-loop-e
invariant-loop-e l = are_small_exs (exprs_view l.exprs) ≡ are_small_exs (exprs_view (drop l.e-index l.exprs))
