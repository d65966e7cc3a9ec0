use Rattle.std.proofs.Common.{◌≡◌, ◌+◌, ◌*◌, map, drop, not, ◌&&◌}
use Rattle.std.specs.Prelude.{find}
use Rattle.std.specs.List.{list_any}
use Rattle.rp_value.specs.ValueView.{value_view, values_view}
use Rattle.rp_lang.specs.ProgramView.{program_view}
use Rattle.crdt_defs.specs.Fitting as spec
use Rattle.crdt_defs.specs.SameValues.{same_val}
use Rattle.machine_tests.proofs.FittingLemmas.{weight, weights}
use Rattle.machine_tests.proofs.atoms.+unknown.Given as goal

abbrev pub decreases-unknown_in : goal.decreases-unknown_in
decreases-unknown_in l = 2 * weight (value_view l.value.now)

abbrev pub decreases-unknown : goal.decreases-unknown
decreases-unknown l = 2 * weights (values_view l.values.now) + 1

abbrev pub invariant-unknown-loop-value : goal.invariant-unknown-loop-value
invariant-unknown-loop-value l =
    find (λ v. spec.is_id (program_view l.p) v && not (list_any (same_val v) (map value_view l.known))) (spec.all_atoms (map value_view (drop l.value-index l.values)))
    ≡ find (λ v. spec.is_id (program_view l.p) v && not (list_any (same_val v) (map value_view l.known))) (spec.all_atoms (map value_view l.values))
