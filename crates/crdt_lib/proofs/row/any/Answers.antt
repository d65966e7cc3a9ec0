use Rattle.std.proofs.Common.{◌<◌, length, sym, arith}
use Rattle.crdt_defs.specs.Calls.{calls_view}
use Rattle.crdt_defs.proofs.BelowLemmas.{any_found}
use Rattle.crdt_lib.proofs.row.any.Goals as goal

pub returns-then-is_marked : goal.returns-then-is_marked
returns-then-is_marked c = let lt : c.loop-c.c < length (calls_view c.args.h.now) = omega (arith, c.len-c-end.ensures.seen) in sym (any_found _ _ _ lt (sym c.if-is_marked.ensures))
