use Rattle.std.proofs.Common.{◌<◌, length, sym, ◌∙◌, arith}
use Rattle.std.specs.Prelude.{nat_eq}
use Rattle.crdt_defs.specs.Calls.{calls_view}
use Rattle.crdt_defs.proofs.BelowLemmas.{any_found}
use Rattle.machine_tests.proofs.StampLemmas.{any_numbered, none_numbered}
use Rattle.machine_tests.proofs.stamps.has_stamp.Goals as goal

pub returns-then-is_stamped : goal.returns-then-is_stamped
returns-then-is_stamped c =
    let lt : c.loop-c.c < length (calls_view c.args.h.now) = omega (arith, c.len-c-end.ensures.seen) in
    sym (any_found _ _ _ lt (sym c.if-is_stamped.ensures)) ∙ any_numbered (λ call. nat_eq call.stamp c.args.stamp) (calls_view c.args.h.now)

pub returns : goal.returns
returns c =
    none_numbered (λ call. nat_eq call.stamp c.args.stamp) (calls_view c.args.h.now) c.loop-c.c (omega (arith, c.len-c-end.ensures.seen)) c.loop-c.invariant
