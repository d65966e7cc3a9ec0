use Rattle.std.proofs.Common.{sym, arith}
use Rattle.crdt_truth.proofs.ListValues.{no_others}
use Rattle.crdt_truth.proofs.meaning.+same_all.Goals as goal

pub returns-in-len1-up-b : goal.returns-in-len1-up-b
returns-in-len1-up-b t c = sym (no_others c.args.a.now c.args.b.now (omega arith) (omega arith))
