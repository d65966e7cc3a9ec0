use Rattle.rp_logic.specs.Views.{term_view}
use Rattle.axiom_forms.proofs.Built.{one_selected}
use Rattle.axiom_forms.proofs.literal.selectors.Goals as goal

pub loop-i-preserved : goal.loop-i-preserved
loop-i-preserved c = one_selected c.args.con c.loop-i.i (term_view c.args.t.now) _ _ _ c.loop-i.invariant c.in_ok-push.ensures.ok c.in_ok-selected.ensures
