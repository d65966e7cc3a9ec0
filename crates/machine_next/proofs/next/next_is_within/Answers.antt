use Rattle.machine_next.proofs.NextLemmas.{next_within}
use Rattle.machine_next.proofs.next.next_is_within.Goals as goal

pub returns : goal.returns
returns c = next_within c.args._p.now c.args.s.now c.args._i c.requires.fits c.len-calls.ensures.history c.requires.running
