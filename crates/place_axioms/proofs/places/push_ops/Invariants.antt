use Rattle.std.proofs.Common.{◌≡◌, ◌++◌, map, drop}
use Rattle.rp_lang.specs.ProgramView.{program_view}
use Rattle.rp_logic.specs.Views.{formula_view}
use Rattle.hist_struct.specs.Axioms.{each_of}
use Rattle.place_axioms.specs.means.Below.{of_op}
use Rattle.place_axioms.proofs.places.push_ops.Given as goal

abbrev pub invariant-loop-op : goal.invariant-loop-op
invariant-loop-op l = (l.n ≡ l.op-index) × (map formula_view l.axioms ++ each_of (of_op (program_view l.p)) l.op-index (drop l.op-index l.ops) ≡ map formula_view l.fn.axioms ++ each_of (of_op (program_view l.p)) 0 l.ops)
