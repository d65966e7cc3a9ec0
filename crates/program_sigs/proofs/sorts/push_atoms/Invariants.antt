use Rattle.std.proofs.Common.{◌≡◌, ◌++◌, take}
use Rattle.rp_symbols.specs.Signatures.{atom_sorts}
use Rattle.program_sigs.proofs.sorts.push_atoms.Given as goal

abbrev pub invariant-loop-atom : goal.invariant-loop-atom
invariant-loop-atom l = l.sorts ≡ l.fn.sorts ++ atom_sorts (take l._atom-index l.atoms)
