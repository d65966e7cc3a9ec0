use Rattle.rp_logic.specs.Views.{term_view}
use Rattle.query_enc.proofs.TermLists.{one_selected}
use Rattle.query_enc.proofs.built.push_selectors.Goals as goal

pub loop-i-preserved : goal.loop-i-preserved
loop-i-preserved c =
    one_selected c.args.con c.args.first c.loop-i.i _ (term_view c.args.t.now) _ _ _ _ c.loop-i.invariant c.in_ok-push.ensures.ok c.in_ok-selector.ensures c.in_ok-place.ensures
