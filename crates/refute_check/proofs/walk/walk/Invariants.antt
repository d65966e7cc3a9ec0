use Rattle.std.proofs.Common.{◌≡◌, drop, map}
use Rattle.rp_logic.specs.SigView.{sig_view}
use Rattle.refute_defs.specs.Views.{node_view, given_view}
use Rattle.refute_defs.specs.Verdicts.{verdict, verdict_from}
use Rattle.refute_branch.specs.Views.{branch_view}
use Rattle.refute_branch.specs.Marks.{HasMarks}
use Rattle.refute_check.specs.means.Waits.{open_branches, AreWithin}
use Rattle.refute_check.proofs.walk.walk.Given as goal

abbrev pub invariant-loop-n : goal.invariant-loop-n
invariant-loop-n l = record {
  same : verdict (sig_view l.sig) (given_view l.given) (map node_view l.nodes)
      ≡ verdict_from (sig_view l.sig) l.n (open_branches l.is_open (branch_view l.b) l.waiting)
      (map node_view (drop l.n l.nodes));
  within : AreWithin l.b l.waiting;
  marked : HasMarks l.sig l.b;
}
