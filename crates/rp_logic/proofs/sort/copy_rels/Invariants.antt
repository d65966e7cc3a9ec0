use Rattle.std.proofs.Common.{◌≡◌, take}
use Rattle.rp_logic.proofs.sort.copy_rels.Given as goal

abbrev pub invariant-loop-args : goal.invariant-loop-args
invariant-loop-args l = l.copies ≡ take l.args-index l.rels
