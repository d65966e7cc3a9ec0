use Rattle.std.proofs.Common.{◌≡◌, ◌+◌, ◌++◌, drop}
use Rattle.rp_symbols.specs.Signatures.{id_decls}
use Rattle.program_sigs.proofs.relations.push_ids.Given as goal

abbrev pub invariant-loop-atom : goal.invariant-loop-atom
invariant-loop-atom l = (l.sort ≡ 2 + l.atom-index) × (l.rels ++ id_decls l.atom-index (drop l.atom-index l.atoms) ≡ l.fn.rels ++ id_decls 0 l.atoms)
