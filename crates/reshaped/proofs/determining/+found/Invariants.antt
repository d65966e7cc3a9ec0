use Rattle.std.proofs.Common.{◌≡◌, drop}
use Rattle.rp_logic.specs.Views.{term_view, terms_view}
use Rattle.reshape.specs.Determining.{found_among}
use Rattle.reshaped.proofs.determining.+found.Given as goal

abbrev pub invariant-found_among-loop-i : goal.invariant-found_among-loop-i
invariant-found_among-loop-i l =
    found_among (terms_view l.args) l.con 0 (term_view l.whole) ≡ found_among (terms_view (drop l.i l.args)) l.con l.i (term_view l.whole)
