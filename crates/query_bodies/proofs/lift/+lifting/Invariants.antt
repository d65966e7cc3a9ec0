use Rattle.std.proofs.Common.{◌≡◌, map, take}
use Rattle.rp_lang.specs.Views.{expr_view}
use Rattle.query_bodies.specs.Expanded as spec
use Rattle.query_bodies.proofs.lift.+lifting.Given as goal

abbrev pub invariant-all_lifted-loop-e : goal.invariant-all_lifted-loop-e
invariant-all_lifted-loop-e l = map expr_view l.made ≡ map (λ e. spec.lifted_by l.by (expr_view e)) (take l.e-index l.exprs)
