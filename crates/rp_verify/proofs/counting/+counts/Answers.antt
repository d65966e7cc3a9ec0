use Rattle.std.proofs.Common.{◌≡◌, drop, subst, arith}
use Rattle.event_machine.specs.Checks.{stmts_checks}
use Rattle.rp_lang.specs.Views.{stmts_view}
use Rattle.rp_verify.specs.means.Counted.{AreCounts}
use Rattle.rp_verify.proofs.counting.+counts.Goals as goal

pub stmts_counts-returns : goal.stmts_counts-returns
stmts_counts-returns t c next given =
    let start : c.loop-i.i ≡ 0 = omega arith in
    subst (λ i. AreCounts (stmts_checks (stmts_view (drop i c.args.stmts.now)) next) c.loop-i.counts) start (c.loop-i.invariant.counted next given)
