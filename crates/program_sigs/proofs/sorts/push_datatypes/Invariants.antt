use Rattle.std.proofs.Common.{◌≡◌, ◌++◌, take}
use Rattle.rp_symbols.specs.Signatures.{data_sorts}
use Rattle.program_sigs.proofs.sorts.push_datatypes.Given as goal

abbrev pub invariant-loop-decl : goal.invariant-loop-decl
invariant-loop-decl l = l.sorts ≡ l.fn.sorts ++ data_sorts (take l.decl-index l.datatypes)
