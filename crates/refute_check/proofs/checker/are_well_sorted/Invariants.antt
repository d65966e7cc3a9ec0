use Rattle.std.proofs.Common.{◌↔◌, drop}
use Rattle.rp_logic.specs.SigView.{sig_view}
use Rattle.refute_defs.specs.Closed.{AreWellSorted}
use Rattle.refute_defs.specs.Views.{given_view}
use Rattle.refute_check.proofs.checker.are_well_sorted.Given as goal

abbrev pub invariant-loop-f : goal.invariant-loop-f
invariant-loop-f l = AreWellSorted (sig_view l.sig) (given_view l.given)
    ↔ AreWellSorted (sig_view l.sig) (given_view (drop l.f-index l.given))
