use Rattle.std.proofs.Common.{◌≡◌, map, sum_by, All, min, take}
use Rattle.rp_lang.specs.Views.{proc_view}
use Rattle.rp_verify.specs.means.Counted.{proc_assertions}
use Rattle.rp_verify.specs.Verdicts.{HasFewPaths}
use Rattle.rp_verify.proofs.goals.goals_within.Given as goal

abbrev pub invariant-loop-i : goal.invariant-loop-i
invariant-loop-i l = record {
  few : All HasFewPaths (map proc_view (take l.i l.procs));
  counted : l.goals ≡ min (sum_by proc_assertions (map proc_view (take l.i l.procs))) 2049;
}
