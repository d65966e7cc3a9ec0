use Rattle.std.proofs.Common.{arith}
use Rattle.rp_parser.proofs.Readable.{has_quotes, string_terminal}
use Rattle.rp_parser.proofs.reading.string_kind.Goals as goal

pub overflow_sub-result : goal.overflow_sub-result
overflow_sub-result c = omega (arith, has_quotes c.requires)

pub slice_bounds-result-count : goal.slice_bounds-result-count
slice_bounds-result-count c = omega (arith, has_quotes c.requires)

pub slice_bounds-result-start : goal.slice_bounds-result-start
slice_bounds-result-start c = omega (arith, has_quotes c.requires)

pub returns : goal.returns
returns c = string_terminal c.args.bytes.now c.requires
