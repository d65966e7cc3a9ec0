use Rattle.std.proofs.Common.{◌≡◌, drop}
use Rattle.std.specs.List.{list_all}
use Rattle.rp_logic.specs.Signatures as spec
use Rattle.rp_logic.proofs.kept.are_fns_within.Given as goal

abbrev pub invariant-loop-decl : goal.invariant-loop-decl
invariant-loop-decl l = list_all (spec.is_fn_within l.sorts) l.fns ≡ list_all (spec.is_fn_within l.sorts) (drop l.decl-index l.fns)
