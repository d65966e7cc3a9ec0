use Rattle.std.proofs.Common.{◌≡◌, ◌+◌, ◌*◌, drop}
use Rattle.rp_value.specs.ValueView.{value_view, values_view}
use Rattle.rp_lang.specs.ProgramView.{program_view}
use Rattle.crdt_defs.specs.Fitting.{fields_fit}
use Rattle.machine_tests.proofs.FittingLemmas.{weight, weights}
use Rattle.machine_tests.proofs.fitting.+fits.Given as goal

abbrev pub decreases-is_made_of : goal.decreases-is_made_of
decreases-is_made_of l = 3 * weight (value_view l.value.now)

abbrev pub decreases-fits : goal.decreases-fits
decreases-fits l = 3 * weight (value_view l.value.now) + 1

abbrev pub decreases-all_fit : goal.decreases-all_fit
decreases-all_fit l = 3 * weights (values_view l.values.now) + 2

abbrev pub invariant-all_fit-loop-i : goal.invariant-all_fit-loop-i
invariant-all_fit-loop-i l =
    fields_fit (program_view l.p) (drop l.i l.types) (values_view (drop l.i l.values)) ≡ fields_fit (program_view l.p) l.types (values_view l.values)
