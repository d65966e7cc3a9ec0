use Rattle.std.proofs.Common.{ℕ, refl, sym, arith, below_more}
use Rattle.std.specs.Prelude.{IsTrue}
use Rattle.query_bodies.specs.Seen.{known_in, saids_in}
use Rattle.lower_exprs.specs.Sound.{AreSound, is_sound_at}
use Rattle.lower_exprs.proofs.Tested.{all_fit, all_over, all_sound}
use Rattle.lower_exprs.proofs.bodies.are_sound.Goals as goal

pub loop-decl-preserved : goal.loop-decl-preserved
loop-decl-preserved c =
    below_more (λ (d : ℕ). IsTrue (is_sound_at c.args.cons.now c.args.bodies.now d)) c.loop-decl.decl c.loop-decl.invariant
    (sym c.if-not-body_is_sound.ensures)

pub returns-clause-sound : goal.returns-clause-sound
returns-clause-sound c = (
  (λ whole. all_sound c.args.cons.now c.args.bodies.now
      (λ d lt. c.loop-decl.invariant d (omega (arith, lt, c.count-decl-end.ensures, c.loop-decl-test.false)))),
  (λ all. refl),
)

pub returns-clause-measured : goal.returns-clause-measured
returns-clause-measured c tree whole added =
    let cons = c.args.cons.now in
    let b = c.args.bodies.now in
    let sound : AreSound cons b = all_sound cons b
    (λ d lt. c.loop-decl.invariant d (omega (arith, lt, c.count-decl-end.ensures, c.loop-decl-test.false))) in
    c.bodies_are_measured.ensures.whole cons tree (saids_in b) (known_in b) added (all_fit cons b sound) (all_over cons b sound)
