use Rattle.std.proofs.Common.{◌<◌, length, sym, arith}
use Rattle.crdt_defs.specs.Calls.{calls_view}
use Rattle.crdt_defs.proofs.BelowLemmas.{any_found}
use Rattle.crdt_lib.proofs.snapshot.misses_one.Goals as goal

pub returns-then-is_missed : goal.returns-then-is_missed
returns-then-is_missed g c = let lt : c.loop-d.d < length (calls_view c.args.h.now) = omega (arith, c.len-d-end.ensures.seen) in sym (any_found _ _ _ lt (sym c.if-is_missed.ensures))
