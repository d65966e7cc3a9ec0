use Rattle.std.proofs.Common.{sym, arith}
use Rattle.crdt_truth.proofs.ListValues.{some_vals}
use Rattle.crdt_truth.proofs.formulas.are_none.Goals as goal

pub returns-in-len1-up : goal.returns-in-len1-up
returns-in-len1-up c = sym (some_vals c.args.values.now (omega arith))
