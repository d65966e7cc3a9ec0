use Rattle.refute_check.proofs.Walks.{entered_open, entered_within, waits_within}
use Rattle.refute_check.proofs.walk.enter_next.Goals as goal

pub enter-requires-clause-fewer : goal.enter-requires-clause-fewer
enter-requires-clause-fewer c =
    waits_within c.args.b.now c.args.waiting.now c.pop.new.self c.in-Some.next
    c.in-Some.ensures c.requires.within

pub returns-in_ok-enter-in-Some-clause-open : goal.returns-in_ok-enter-in-Some-clause-open
returns-in_ok-enter-in-Some-clause-open c =
    entered_open c.args.b.now c.enter.new.b c.args.waiting.now c.pop.new.self c.in-Some.next
    c.in-Some.ensures c.in_ok-enter-in-Some.ensures.branch c.requires.within

pub returns-in_ok-enter-in-Some-clause-within : goal.returns-in_ok-enter-in-Some-clause-within
returns-in_ok-enter-in-Some-clause-within c =
    entered_within c.args.b.now c.enter.new.b c.args.waiting.now c.pop.new.self c.in-Some.next
    c.in-Some.ensures c.in_ok-enter-in-Some.ensures.branch c.requires.within
