use Rattle.well_sorted.proofs.SignatureLaws.{invariant-sorted, slots-sorted, expr-sorted}
use Rattle.well_sorted.proofs.laws.encoded_formulas_are_sorted.Goals as goal

pub returns : goal.returns
returns c = record { invariants = invariant-sorted; at_slots = slots-sorted; terms = expr-sorted }
