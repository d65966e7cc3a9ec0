use Rattle.std.proofs.Common.{◌≡◌, map, take}
use Rattle.rp_lang.specs.Views.{proc_view}
use Rattle.code_points.specs.PointView.{place_view}
use Rattle.machine_state.proofs.FitsLemmas.{points_of}
use Rattle.machine_state.proofs.state.all_places.Given as goal

abbrev pub invariant-loop-q : goal.invariant-loop-q
invariant-loop-q l = map (map place_view) l.all ≡ map points_of (map proc_view (take l.q-index l.q-items))
