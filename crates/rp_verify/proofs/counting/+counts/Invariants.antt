use Rattle.std.proofs.Common.{◌≤◌, length, drop}
use Rattle.event_machine.specs.Checks.{Checks, stmts_checks}
use Rattle.rp_lang.specs.Views.{stmts_view}
use Rattle.rp_verify.specs.means.Counted.{AreCounts}
use Rattle.rp_verify.proofs.counting.+counts.Given as goal

abbrev pub invariant-stmts_counts-loop-i : goal.invariant-stmts_counts-loop-i
invariant-stmts_counts-loop-i l = record {
  within : l.i ≤ length l.stmts;
  counted : (next : Checks) → AreCounts next l.fn.behind → AreCounts (stmts_checks (stmts_view (drop l.i l.stmts)) next) l.counts;
}

abbrev pub decreases-stmts_counts-loop-i : goal.decreases-stmts_counts-loop-i
decreases-stmts_counts-loop-i l = l.i
