use Rattle.rp_lang.specs.ProgramView.{program_view}
use Rattle.program_sigs.proofs.Lists.{vals_more}
use Rattle.program_sigs.proofs.functions.push_vals.Goals as goal

pub loop-view-preserved : goal.loop-view-preserved
loop-view-preserved c =
    vals_more (program_view c.args.p.now) c.loop-view._view c.args.fns.now c.loop-view.fns c.push_copies.new.fns c.in_ok-vals.vals c.as_slice.result.now c.loop-view.invariant c.in_ok-push_copies.ensures c.as_slice.ensures.items c.in_ok-vals.ensures
