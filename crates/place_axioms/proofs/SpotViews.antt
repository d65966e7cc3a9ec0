-- What each variant of a spot is seen as.
use Rattle.std.proofs.Common.{◌≡◌, ℕ, ap, ◌∙◌}
use Rattle.std.specs.Borrow.{Bor}
use Rattle.rp_logic.specs.Terms.{Tm, Var, Sel}
use Rattle.rp_logic.specs.Formulas.{Fms, no_fm, also_fm}
use Rattle.crdt_enc.specs.Builders.{applied}
use Rattle.hist_struct.specs.Axioms.{is_built}
use Rattle.place_axioms.specs.declared.spots.Spot.{Spot}
use Rattle.place_axioms.specs.declared.spots.Spot.TheVariants.{Whole, Part, outs-Whole, outs-Part}
use Rattle.place_axioms.specs.declared.spots.Spot.TheFolds.{fold_out-Spot, map-Spot}
use Rattle.place_axioms.specs.Spots.{Reached, spot_step, spot_view}

-- a term with the premises under which it stands there
abbrev pub reached : Tm → Fms → Reached
reached t given = record { term = t; given = given }

pub spot_view-Whole : (f : ℕ) → spot_view (Whole f) ≡ reached (applied f (Var 0)) no_fm
spot_view-Whole f = fold_out-Spot Reached spot_step (Whole f) ∙ ap (λ l. spot_step (map-Spot Spot Reached spot_view l)) (outs-Whole f)

pub spot_view-Part : (con places i : ℕ) (whole : Bor Spot)
    → spot_view (Part con places i whole)
    ≡ reached (Sel con i (spot_view whole.now).term) (also_fm (is_built con places (spot_view whole.now).term) (spot_view whole.now).given)
spot_view-Part con places i whole = fold_out-Spot Reached spot_step (Part con places i whole) ∙ ap (λ l. spot_step (map-Spot Spot Reached spot_view l)) (outs-Part con places i whole)

pub ruleset spot_views = (spot_view-Whole, spot_view-Part)
