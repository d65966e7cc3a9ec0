use Rattle.std.proofs.Common.{arith}
use Rattle.type_tables.proofs.Bits.{joined_is, put_is}
use Rattle.type_tables.proofs.flags.mixed_word.Goals as goal

pub returns-then-both : goal.returns-then-both
returns-then-both c = λ i h. joined_is c.args.both c.if-both.true c.args.own c.args.other c.args.mask i (omega arith) h

pub returns-else-both : goal.returns-else-both
returns-else-both c = λ i h. put_is c.args.both c.if-both.false c.args.own c.args.other c.args.mask i (omega arith) h
