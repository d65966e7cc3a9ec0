use Rattle.std.proofs.Common.{◌≡◌, ◌++◌}
use Rattle.rp_symbols.specs.Signatures.{set_decls}
use Rattle.program_sigs.proofs.relations.push_sets.Given as goal

abbrev pub invariant-loop-set : goal.invariant-loop-set
invariant-loop-set l = l.rels ≡ l.fn.rels ++ set_decls l._set
