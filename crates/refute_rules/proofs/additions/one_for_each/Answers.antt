use Rattle.refute_rules.proofs.Added.{each_part}
use Rattle.refute_rules.proofs.additions.one_for_each.Goals as goal

pub returns : goal.returns
returns c = each_part c.args.parts.now c.loop-f.adds c.loop-f.f-index c.loop-f-test.false
    c.loop-f.invariant
