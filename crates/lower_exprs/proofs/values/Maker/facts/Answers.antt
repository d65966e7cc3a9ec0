use Rattle.std.proofs.Common.{rules, ◌≡◌, true, sym, subst}
use Rattle.query_bodies.specs.declared.bodies.Facts.{Facts}
use Rattle.query_bodies.specs.Seen.{known_in, saids_in}
use Rattle.query_bodies.specs.Views.{body_view}
use Rattle.query_laws.specs.Told.{AreTold}
use Rattle.lower_exprs.specs.Sound.{is_sound_said}
use Rattle.lower_exprs.proofs.Fit.{said_fits}
use Rattle.lower_exprs.proofs.values.Maker.facts.Goals as goal

pub returns : goal.returns
returns c measured v h =
    let w = c.args.self.now.work in
    let s = body_view c.args.body.now in
    let sound : is_sound_said w.cons.now (saids_in w.bodies.now) 0 s ≡ true = search rules in
    subst (λ (f : Facts). AreTold w.cons.now v f) (sym c.in_ok-facts.ensures)
    (c.measures_are_told.ensures w.cons.now (saids_in w.bodies.now) (known_in w.bodies.now) measured s
    (said_fits w.cons.now (saids_in w.bodies.now) 0 s sound) v h)
