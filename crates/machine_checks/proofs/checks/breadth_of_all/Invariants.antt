use Rattle.std.proofs.Common.{◌≡◌, ◌≤◌, ◌+◌, min, map, drop}
use Rattle.rp_lang.specs.Views.{inv_view}
use Rattle.crdt_truth.specs.Readings.{parts_view}
use Rattle.machine_effects.specs.Limits.{of_all}
use Rattle.machine_checks.proofs.checks.breadth_of_all.Given as goal

abbrev pub invariant-loop-inv : goal.invariant-loop-inv
invariant-loop-inv l = record {
  all : min (of_all (parts_view l.r) (map inv_view l.invs)) 18446744073709551615 ≡ min (l.sum + of_all (parts_view l.r) (map inv_view (drop l.inv-index l.invs))) 18446744073709551615;
  fits : l.sum ≤ 18446744073709551615;
}
