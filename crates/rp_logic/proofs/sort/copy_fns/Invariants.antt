use Rattle.std.proofs.Common.{◌≡◌, take}
use Rattle.rp_logic.proofs.sort.copy_fns.Given as goal

abbrev pub invariant-loop-decl : goal.invariant-loop-decl
invariant-loop-decl l = l.copies ≡ take l.decl-index l.fns
