use Rattle.std.proofs.Common.{◌≡◌, drop}
use Rattle.std.specs.List.{list_all}
use Rattle.rp_logic.specs.Signatures as spec
use Rattle.rp_logic.proofs.kept.are_rels_within.Given as goal

abbrev pub invariant-loop-args : goal.invariant-loop-args
invariant-loop-args l = list_all (spec.are_below l.sorts) l.rels ≡ list_all (spec.are_below l.sorts) (drop l.args-index l.rels)
