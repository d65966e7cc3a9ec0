use Rattle.reading.proofs.Cut.{last_gone, none_gone}
use Rattle.reading.proofs.reader.drop_last.Goals as goal

pub returns-in-Some : goal.returns-in-Some
returns-in-Some c = last_gone c.args.known.now c.pop.new.self c.in-Some.field-0 c.in-Some.ensures

pub returns-in-None : goal.returns-in-None
returns-in-None c = none_gone c.args.known.now c.pop.new.self c.in-None.ensures.0 c.in-None.ensures.1
