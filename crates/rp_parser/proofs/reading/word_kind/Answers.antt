use Rattle.rp_parser.proofs.Readable.{is_reserved, not_none}
use Rattle.rp_parser.proofs.reading.word_kind.Goals as goal

pub unreachable-requires : goal.unreachable-requires
unreachable-requires c = not_none c.word_of.result c.in-None.is (c.word_of.ensures.some.1 (is_reserved c.requires))
