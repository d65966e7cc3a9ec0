use Rattle.std.proofs.Common.{◌≡◌, ◌<◌, slice_get, IfSome}
use Rattle.rp_lang.specs.declared.op.OpKind.TheVariants.{Assign}
use Rattle.crdt_defs.specs.Calls.{calls_view}
use Rattle.crdt_defs.specs.Snapshots.{bit}
use Rattle.crdt_defs.specs.Doing as spec
use Rattle.crdt_defs.specs.Meaning.{among, stamp_of}
use Rattle.crdt_defs.proofs.NewestLemmas.{newest_below}
use Rattle.crdt_lib.proofs.answer.newest.Given as goal

abbrev pub invariant-loop-c : goal.invariant-loop-c
invariant-loop-c l = record {
  here : l.best ≡ newest_below (among (calls_view l.h) (bit l.counted) (spec.is_of l.ops Assign)) (λ d. stamp_of (slice_get (calls_view l.h) d)) l.c;
  within : IfSome l.best (λ b. b < l.c);
}
