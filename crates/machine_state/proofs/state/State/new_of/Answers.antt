use Rattle.std.proofs.Common.{None, Some, ap, sym, ◌∙◌, refl}
use Rattle.event_machine.specs.Code.{Return}
use Rattle.code_points.specs.Points.{goes_on}
use Rattle.code_points.specs.PointView.{spot_view}
use Rattle.machine_state.specs.Accessors.{new_left}
use Rattle.machine_state.proofs.FitsLemmas.{left_at}
use Rattle.machine_state.proofs.state.State.new_of.Goals as goal

pub returns-in-Some-Before : goal.returns-in-Some-Before
returns-in-Some-Before c =
    left_at c.args.p.now c.args.self.now c.args.inv _ new_left c.new_by.result c.requires.fits c.requires.within c.in-Some-Before.ensures.is
    (λ left end. ap (λ s. new_left (goes_on left (Some (spot_view s)) (Return end None))) c.in-Some-Before.field-0-is ∙ sym (c.new_by.ensures left))

pub returns-in-Some-Closing : goal.returns-in-Some-Closing
returns-in-Some-Closing c =
    left_at c.args.p.now c.args.self.now c.args.inv _ new_left None c.requires.fits c.requires.within c.in-Some-Closing.ensures.is
    (λ left end. ap (λ s. new_left (goes_on left (Some (spot_view s)) (Return end None))) c.in-Some-Closing.field-0-is)

pub returns-in-None : goal.returns-in-None
returns-in-None c =
    left_at c.args.p.now c.args.self.now c.args.inv _ new_left None c.requires.fits c.requires.within c.in-None.ensures.is (λ left end. refl)
