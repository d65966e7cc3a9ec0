use Rattle.rp_logic.specs.SigView.{sig_view}
use Rattle.rp_logic.specs.Views.{term_view}
use Rattle.refute_rules.proofs.Added.{each_con}
use Rattle.refute_rules.proofs.additions.one_for_each_con.Goals as goal

pub returns : goal.returns
returns c = each_con (sig_view c.args.sig.now) (term_view c.args.t.now) c.args.cons.now
    c.loop-con.adds c.loop-con.con-index c.loop-con-test.false c.loop-con.invariant
