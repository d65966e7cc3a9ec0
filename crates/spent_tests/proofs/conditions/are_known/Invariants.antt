use Rattle.std.proofs.Common.{◌≡◌, drop}
use Rattle.rp_logic.specs.Views.{terms_view}
use Rattle.rp_logic.specs.SigView.{sig_view}
use Rattle.refute_branch.specs.Views.{branch_view}
use Rattle.spent_tests.specs.means.Parts.{all_known}
use Rattle.spent_tests.proofs.conditions.are_known.Given as goal

abbrev pub invariant-loop-t : goal.invariant-loop-t
invariant-loop-t l =
    all_known (sig_view l.sig) (branch_view l.b.branch) (terms_view l.terms)
    ≡ all_known (sig_view l.sig) (branch_view l.b.branch) (terms_view (drop l.t-index l.terms))
