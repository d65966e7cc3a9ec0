use Rattle.well_sorted.proofs.AxiomLaw.{axioms-sorted}
use Rattle.well_sorted.proofs.laws.axioms_are_sorted.Goals as goal

pub returns : goal.returns
returns c = axioms-sorted
