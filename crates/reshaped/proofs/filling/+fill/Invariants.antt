use Rattle.std.proofs.Common.{◌≡◌, take, map}
use Rattle.rp_logic.specs.Filling.{filled_in}
use Rattle.rp_logic.specs.Views.{formula_view}
use Rattle.reshaped.specs.Fillings.{filling_view, under}
use Rattle.reshaped.proofs.filling.+fill.Given as goal

abbrev pub invariant-fill_each-loop-f : goal.invariant-fill_each-loop-f
invariant-fill_each-loop-f l = map formula_view l.made ≡ map (λ f. filled_in (under l.k (filling_view l.what)) (formula_view f)) (take l.f-index l.formulas)
