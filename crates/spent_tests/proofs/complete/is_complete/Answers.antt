use Rattle.rp_logic.specs.SigView.{sig_view}
use Rattle.spent_tests.specs.Views.{ranked_view}
use Rattle.spent_tests.specs.means.Parts.{is_met_to}
use Rattle.spent_tests.proofs.Listings.{next_fails, next_passes}
use Rattle.spent_tests.proofs.complete.is_complete.Goals as goal

pub returns-then-not-branch : goal.returns-then-not-branch
returns-then-not-branch c =
    next_fails (is_met_to (sig_view c.args.sig.now) (ranked_view c.args.b.now) c.args.n)
    c.args.b.now.branch.formulas c.args.b.now.ranks c.loop-p.p c.get.result.now c.get-r.result.now _
    c.in_ok-is_met_up_to.field-0 c.loop-p.invariant c.get.ensures c.get-r.ensures
    c.in_ok-is_met_up_to.ensures c.if-not-branch.true

pub loop-p-preserved : goal.loop-p-preserved
loop-p-preserved c =
    next_passes (is_met_to (sig_view c.args.sig.now) (ranked_view c.args.b.now) c.args.n)
    c.args.b.now.branch.formulas c.args.b.now.ranks c.loop-p.p c.get.result.now c.get-r.result.now _
    c.in_ok-is_met_up_to.field-0 c.loop-p.invariant c.get.ensures c.get-r.ensures
    c.in_ok-is_met_up_to.ensures c.if-not-branch.false
