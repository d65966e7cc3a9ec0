use Rattle.std.proofs.Common.{◌≡◌, drop}
use Rattle.rp_logic.specs.Views.{terms_view}
use Rattle.reshaped.specs.Occurring.{stands_among}
use Rattle.reshaped.proofs.determining.+stands.Given as goal

abbrev pub invariant-stands_among-loop-t : goal.invariant-stands_among-loop-t
invariant-stands_among-loop-t l = stands_among (terms_view l.terms) ≡ stands_among (terms_view (drop l.t-index l.terms))
