use Rattle.std.proofs.Common.{◌≡◌, ◌++◌, map, take}
use Rattle.rp_logic.specs.Dual.{dual}
use Rattle.rp_logic.specs.Views.{formula_view}
use Rattle.query_enc.proofs.lists.push_duals.Given as goal

abbrev pub invariant-loop-f : goal.invariant-loop-f
invariant-loop-f l = map formula_view l.out ≡ map formula_view l.fn.out ++ map (λ f. dual (formula_view f)) (take l.f-index l.fs)
