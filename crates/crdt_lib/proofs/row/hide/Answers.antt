use Rattle.std.proofs.Common.{ℕ, Bool, ◌&&◌, not, ◌∙◌, ap, arith}
use Rattle.rp_value.specs.ValueView.{value_view}
use Rattle.crdt_defs.specs.Calls.{calls_view}
use Rattle.crdt_defs.specs.Snapshots.{bit}
use Rattle.crdt_defs.specs.Doing as spec
use Rattle.crdt_defs.specs.Meaning.{among, loses}
use Rattle.crdt_lib.proofs.BitLemmas.{hides_more}
use Rattle.crdt_lib.proofs.row.hide.Goals as goal

pub loop-d-preserved : goal.loop-d-preserved
loop-d-preserved c =
    let h = calls_view c.args.h.now in
    let hides : ℕ → ℕ → Bool = λ k d. among h (bit c.args.counted.now) (spec.deletes c.args.ops.now c.args.depth (value_view c.args.k.now)) d && loses h c.args.winner k d in
    record {
      here = λ k.
          c.strike_where.ensures k
          ∙ ap (λ b. b && not (hides k c.loop-d.d)) (c.loop-d.invariant.here k)
          ∙ hides_more (bit c.args.row.now k) (hides k) c.loop-d.d;
      long = omega arith;
    }
