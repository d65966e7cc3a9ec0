use Rattle.std.proofs.Common.{◌∙◌}
use Rattle.crdt_lib.proofs.IntegerLemmas.{ints_listed}
use Rattle.crdt_lib.proofs.integers.args_fit.Goals as goal

pub returns : goal.returns
returns c = c.all_ints_fit.ensures ∙ ints_listed c.args.args.now
