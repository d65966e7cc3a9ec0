use Rattle.std.proofs.Common.{◌≡◌, map, drop}
use Rattle.rp_lang.specs.Views.{inv_view}
use Rattle.crdt_truth.specs.Readings.{reading_view}
use Rattle.event_machine.specs.Machine.{checked}
use Rattle.machine_checks.proofs.checks.first_false.Given as goal

abbrev pub invariant-loop-n : goal.invariant-loop-n
invariant-loop-n l = checked (reading_view l.r) l.n (map inv_view (drop l.n l.invs)) ≡ checked (reading_view l.r) 0 (map inv_view l.invs)
