use Rattle.std.proofs.Common.{◌≡◌, drop}
use Rattle.std.specs.List.{list_all}
use Rattle.rp_logic.specs.Signatures as spec
use Rattle.rp_logic.proofs.kept.are_cons_within.Given as goal

abbrev pub invariant-loop-con : goal.invariant-loop-con
invariant-loop-con l = list_all (spec.is_con_within l.sorts) l.cons ≡ list_all (spec.is_con_within l.sorts) (drop l.con-index l.cons)
