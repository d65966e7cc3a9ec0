use Rattle.std.proofs.Common.{◌∙◌, arith}
use Rattle.reading.proofs.Cut.{cut}
use Rattle.reading.proofs.reader.shorten.Goals as goal

pub returns : goal.returns
returns c = c.loop-gone.invariant ∙ cut c.args.known.now c.loop-gone._gone c.args.len (omega arith)
