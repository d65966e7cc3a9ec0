use Rattle.std.proofs.Common.{◌<◌, length, sym, arith}
use Rattle.crdt_defs.specs.Calls.{calls_view}
use Rattle.crdt_defs.proofs.BelowLemmas.{any_found}
use Rattle.crdt_lib.proofs.picked.any_stays.Goals as goal

pub returns-then-stays : goal.returns-then-stays
returns-then-stays c = let lt : c.loop-c.c < length (calls_view c.args.h.now) = omega (arith, c.len-c-end.ensures.seen) in sym (any_found _ _ _ lt (sym c.if-stays.ensures))
