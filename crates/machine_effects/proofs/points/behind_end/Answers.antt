use Rattle.std.proofs.Common.{◌+◌, None, Some, ap, sym, ◌∙◌, refl}
use Rattle.rp_lang.specs.Views.{stmt_view}
use Rattle.event_machine.specs.Code.{Return}
use Rattle.code_points.specs.Points.{goes_on}
use Rattle.code_points.specs.PointView.{spot_view}
use Rattle.machine_state.proofs.FitsLemmas.{left_by}
use Rattle.machine_effects.specs.means.Lefts as lefts
use Rattle.machine_effects.proofs.CodeLemmas.{never_ended}
use Rattle.machine_effects.proofs.points.behind_end.Goals as goal

pub returns-in-Some-Before : goal.returns-in-Some-Before
returns-in-Some-Before c = λ inv at_inv.
    sym (left_by c.args.p.now c.args.s.now c.args.i _ lefts.ended (λ left. None) c.requires.fits c.in-Some-Before.ensures.is
    (λ left end. ap (λ s. lefts.ended (goes_on left (Some (spot_view s)) (Return end None))) c.in-Some-Before.field-0-is ∙ never_ended left c.in-Some-Before._at (stmt_view c.in-Some-Before._stmt.now)) inv at_inv)

pub returns-in-Some-Closing : goal.returns-in-Some-Closing
returns-in-Some-Closing c = λ inv at_inv.
    sym (left_by c.args.p.now c.args.s.now c.args.i _ lefts.ended (λ left. Some (left (c.in-Some-Closing.at + 1))) c.requires.fits c.in-Some-Closing.ensures.is
    (λ left end. ap (λ s. lefts.ended (goes_on left (Some (spot_view s)) (Return end None))) c.in-Some-Closing.field-0-is) inv at_inv)

pub returns-in-None : goal.returns-in-None
returns-in-None c = λ inv at_inv.
    sym (left_by c.args.p.now c.args.s.now c.args.i _ lefts.ended (λ left. None) c.requires.fits c.in-None.ensures.is (λ left end. refl) inv at_inv)
