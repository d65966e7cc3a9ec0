use Rattle.std.proofs.Common.{◌≡◌, ◌++◌, map, drop}
use Rattle.rp_lang.specs.ProgramView.{program_view}
use Rattle.rp_logic.specs.Views.{formula_view}
use Rattle.rp_lang.specs.Views.{proc_view}
use Rattle.hist_struct.specs.Axioms.{results_fit}
use Rattle.axiom_forms.proofs.results.push_results_fit.Given as goal

abbrev pub invariant-loop-q : goal.invariant-loop-q
invariant-loop-q l = (l.n ≡ l.q-index) × (map formula_view l.axioms ++ results_fit (program_view l.p) l.f l.q-index (map proc_view (drop l.q-index l.procs)) ≡ map formula_view l.fn.axioms ++ results_fit (program_view l.p) l.f 0 (map proc_view l.procs))
