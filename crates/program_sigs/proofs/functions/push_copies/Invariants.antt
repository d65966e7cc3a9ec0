use Rattle.std.proofs.Common.{◌≡◌, ◌++◌, take}
use Rattle.program_sigs.proofs.functions.push_copies.Given as goal

abbrev pub invariant-loop-decl : goal.invariant-loop-decl
invariant-loop-decl l = l.fns ≡ l.fn.fns ++ take l.decl-index l.vals
