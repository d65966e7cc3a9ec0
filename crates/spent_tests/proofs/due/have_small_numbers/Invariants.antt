use Rattle.std.proofs.Common.{◌≡◌, drop, map}
use Rattle.std.specs.List.{list_all}
use Rattle.rp_logic.specs.Views.{atom_view}
use Rattle.spent_defs.specs.Conditions.{has_small_number}
use Rattle.spent_tests.proofs.due.have_small_numbers.Given as goal

abbrev pub invariant-loop-atom : goal.invariant-loop-atom
invariant-loop-atom l =
    list_all has_small_number (map atom_view l.atoms)
    ≡ list_all has_small_number (map atom_view (drop l.atom-index l.atoms))
