use Rattle.std.proofs.Common.{◌≡◌, ◌+◌, ◌++◌, [], map, sum_by, drop}
use Rattle.rp_lang.specs.Views.{proc_view}
use Rattle.event_machine.specs.Goals.{goals_from}
use Rattle.rp_verify.specs.means.Counted.{proc_assertions}
use Rattle.rp_verify.specs.Verdicts.{unproved_from}
use Rattle.rp_verify.proofs.goals.false_goals.Given as goal

abbrev pub invariant-loop-i : goal.invariant-loop-i
invariant-loop-i l = record {
  at_start : l.walk.path ≡ [];
  room : l.walk.next + sum_by proc_assertions (map proc_view (drop l.i l.procs)) ≡ 1 + sum_by proc_assertions (map proc_view l.procs);
  told :
      l.walk.list ++ unproved_from l.walk.next (goals_from l.i (map proc_view (drop l.i l.procs)))
      ≡ unproved_from 1 (goals_from 0 (map proc_view l.procs));
}
