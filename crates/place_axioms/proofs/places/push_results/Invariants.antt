use Rattle.std.proofs.Common.{◌≡◌, ◌++◌, map, drop}
use Rattle.rp_lang.specs.ProgramView.{program_view}
use Rattle.rp_lang.specs.Views.{proc_view}
use Rattle.rp_logic.specs.Views.{formula_view}
use Rattle.hist_struct.specs.Axioms.{each_of}
use Rattle.place_axioms.specs.means.Below.{of_result}
use Rattle.place_axioms.proofs.places.push_results.Given as goal

abbrev pub invariant-loop-q : goal.invariant-loop-q
invariant-loop-q l = (l.n ≡ l.q-index) × (map formula_view l.axioms ++ each_of (of_result (program_view l.p)) l.q-index (map proc_view (drop l.q-index l.procs)) ≡ map formula_view l.fn.axioms ++ each_of (of_result (program_view l.p)) 0 (map proc_view l.procs))
