use Rattle.std.proofs.Common.{◌≡◌, ◌++◌, map, drop}
use Rattle.rp_lang.specs.ProgramView.{program_view}
use Rattle.rp_logic.specs.Views.{formula_view}
use Rattle.hist_struct.specs.Axioms.{known}
use Rattle.axiom_forms.proofs.identifiers.push_known_types.Given as goal

abbrev pub invariant-loop-atom : goal.invariant-loop-atom
invariant-loop-atom l = (l.ty ≡ l.atom-index) × (map formula_view l.axioms ++ known (program_view l.p) l.atom-index (drop l.atom-index l.atoms) ≡ map formula_view l.fn.axioms ++ known (program_view l.p) 0 l.atoms)
