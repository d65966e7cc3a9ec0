-- The term that a spot is, and the premises under which it stands there.
use Rattle.rp_logic.specs.Terms.{Tm, Var, Sel}
use Rattle.rp_logic.specs.Formulas.{Fms, no_fm, also_fm}
use Rattle.crdt_enc.specs.Builders.{applied}
use Rattle.hist_struct.specs.Axioms.{is_built}
use Rattle.place_axioms.specs.declared.spots.Spot.{Spot}
use Rattle.place_axioms.specs.declared.spots.Spot.TheOpen.{Spot-F, Whole, Part}
use Rattle.place_axioms.specs.declared.spots.Spot.TheFolds.{fold-Spot}

-- the term, and that each term around it is built with the constructor whose argument it is
pub record Reached : Type 0 where
  pub term : Tm
  pub given : Fms

abbrev pub spot_step : Spot-F Reached → Reached
spot_step (Whole f) = record { term = applied f (Var 0); given = no_fm }
spot_step (Part con places i whole) = record { term = Sel con i whole.now.term; given = also_fm (is_built con places whole.now.term) whole.now.given }

abbrev pub spot_view : Spot → Reached
spot_view = fold-Spot Reached spot_step
