use Rattle.type_tables.proofs.Bits.{set_is, cleared_is}
use Rattle.type_tables.proofs.flags.with_bit.Goals as goal

pub returns-then-flag : goal.returns-then-flag
returns-then-flag c = λ i h. set_is c.args.word c.args.place i c.args.flag c.if-flag.true c.requires

pub returns-else-flag : goal.returns-else-flag
returns-else-flag c = λ i h. cleared_is c.args.word c.args.place i c.args.flag c.if-flag.false c.requires h
