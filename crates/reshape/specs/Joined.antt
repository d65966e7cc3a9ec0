-- The parts of two lists in one.
use Rattle.rp_logic.specs.Formulas.{Fms, no_fm, also_fm}

abbrev pub joined : Fms → Fms → Fms
joined no_fm gs = gs
joined (also_fm f fs) gs = also_fm f (joined fs gs)
