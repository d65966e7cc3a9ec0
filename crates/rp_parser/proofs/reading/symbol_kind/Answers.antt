use Rattle.rp_parser.proofs.Readable.{is_mark, not_none}
use Rattle.rp_parser.proofs.reading.symbol_kind.Goals as goal

pub unreachable-requires : goal.unreachable-requires
unreachable-requires c = not_none c.symbol_of.result c.in-None.is (c.symbol_of.ensures.some.1 (is_mark c.requires))
