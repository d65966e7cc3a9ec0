use Rattle.std.proofs.Common.{◌≡◌, drop}
use Rattle.rp_logic.specs.Views.{formulas_view}
use Rattle.reshape.specs.Eliminating.{told_among}
use Rattle.reshaped.proofs.eliminating.told_among.Given as goal

abbrev pub invariant-loop-f : goal.invariant-loop-f
invariant-loop-f l = told_among (formulas_view l.parts) ≡ told_among (formulas_view (drop l.f-index l.parts))
