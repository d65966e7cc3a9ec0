use Rattle.std.proofs.Common.{◌≡◌, ◌+◌, ◌*◌, ◌++◌, map, drop, length}
use Rattle.rp_lang.specs.ProgramView.{program_view}
use Rattle.rp_logic.specs.Formulas.{also_fm}
use Rattle.rp_logic.specs.Views.{formula_view}
use Rattle.hist_struct.specs.Axioms.{in_cons, in_fields, is_built}
use Rattle.place_axioms.specs.Spots.{spot_view}
use Rattle.place_axioms.specs.means.Below.{below}
use Rattle.place_axioms.proofs.walk.+push_type.Given as goal

abbrev pub invariant-push_cons-loop-con : goal.invariant-push_cons-loop-con
invariant-push_cons-loop-con l =
    map formula_view l.axioms ++ in_cons (program_view l.p) (below (program_view l.p) l.sort l.kind l.fuel) (spot_view l.spot).given (drop l.con-index l.cons) (spot_view l.spot).term
    ≡ map formula_view l.fn.axioms ++ in_cons (program_view l.p) (below (program_view l.p) l.sort l.kind l.fuel) (spot_view l.spot).given l.cons (spot_view l.spot).term

abbrev pub invariant-push_fields-loop-place : goal.invariant-push_fields-loop-place
invariant-push_fields-loop-place l =
    let t = (spot_view l.spot).term in
    let given = also_fm (is_built l.con (length l.fields) t) (spot_view l.spot).given in
    (l.i ≡ l.place)
    × (map formula_view l.axioms ++ in_fields (below (program_view l.p) l.sort l.kind l.fuel) given l.con l.place (drop l.place l.fields) t
    ≡ map formula_view l.fn.axioms ++ in_fields (below (program_view l.p) l.sort l.kind l.fuel) given l.con 0 l.fields t)

abbrev pub decreases-push_type : goal.decreases-push_type
decreases-push_type l = 4 * l.fuel

abbrev pub decreases-push_fields : goal.decreases-push_fields
decreases-push_fields l = 4 * l.fuel + 1

abbrev pub decreases-push_con : goal.decreases-push_con
decreases-push_con l = 4 * l.fuel + 2

abbrev pub decreases-push_cons : goal.decreases-push_cons
decreases-push_cons l = 4 * l.fuel + 3
