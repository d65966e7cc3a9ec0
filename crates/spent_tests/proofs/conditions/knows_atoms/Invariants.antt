use Rattle.std.proofs.Common.{◌≡◌, drop, map}
use Rattle.rp_logic.specs.Views.{atom_view}
use Rattle.rp_logic.specs.SigView.{sig_view}
use Rattle.refute_branch.specs.Views.{branch_view}
use Rattle.spent_tests.specs.means.Parts.{atoms_known}
use Rattle.spent_tests.proofs.conditions.knows_atoms.Given as goal

abbrev pub invariant-loop-atom : goal.invariant-loop-atom
invariant-loop-atom l =
    atoms_known (sig_view l.sig) (branch_view l.b.branch) (map atom_view l.atoms)
    ≡ atoms_known (sig_view l.sig) (branch_view l.b.branch) (map atom_view (drop l.atom-index l.atoms))
