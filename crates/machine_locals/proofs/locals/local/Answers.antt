use Rattle.std.proofs.Common.{false, Some, None, ap, refl, subst}
use Rattle.rp_lang.specs.Views.{stmt_view}
use Rattle.code_points.specs.Points.{does_at, goes_on}
use Rattle.code_points.specs.PointView.{spot_view}
use Rattle.event_machine.specs.Code.{Code, Return}
use Rattle.event_machine.specs.Machine as spec
use Rattle.event_machine.specs.States as seen
use Rattle.machine_locals.proofs.LocalLemmas.{local_nothing}
use Rattle.machine_state.specs.Spots.{IsTold, IsWithin}
use Rattle.machine_state.proofs.FitsLemmas.{left_by}
use Rattle.machine_locals.proofs.locals.local.Goals as goal

pub run_stmt-requires-clause-next : goal.run_stmt-requires-clause-next
run_stmt-requires-clause-next c = λ inv at.
    left_by c.args.p.now c.args.s.now c.args.i _ (λ (code : Code). code) (λ left. does_at left c.in-Some-Before.at (stmt_view c.in-Some-Before.stmt.now)) c.requires.fits c.in-Some-Before.ensures.is
    (λ left end. ap (λ s. goes_on left (Some (spot_view s)) (Return end None)) c.in-Some-Before.field-0-is) inv at

pub run_stmt-requires-clause-room : goal.run_stmt-requires-clause-room
run_stmt-requires-clause-room c = subst (λ s. IsWithin 18446744073709551614 (Some (spot_view s))) c.in-Some-Before.field-0-is c.in-Some-Before.ensures.room

pub run_stmt-requires-clause-told : goal.run_stmt-requires-clause-told
run_stmt-requires-clause-told c = subst (λ s. IsTold c.args.s.now c.args.i (Some (spot_view s))) c.in-Some-Before.field-0-is c.in-Some-Before.ensures.told

pub returns-in-Some-Closing-clause-ok : goal.returns-in-Some-Closing-clause-ok
returns-in-Some-Closing-clause-ok c =
    local_nothing c.args.p.now c.args.s.now c.args.i c.requires.fits c.requires.within
    (λ inv at. left_by c.args.p.now c.args.s.now c.args.i _ (λ code. spec.is_same seen.ToLocal (spec.next_action code)) (λ left. false) c.requires.fits c.in-Some-Closing.ensures.is
    (λ left end. ap (λ s. spec.is_same seen.ToLocal (spec.next_action (goes_on left (Some (spot_view s)) (Return end None)))) c.in-Some-Closing.field-0-is) inv at)

pub returns-in-None-clause-ok : goal.returns-in-None-clause-ok
returns-in-None-clause-ok c =
    local_nothing c.args.p.now c.args.s.now c.args.i c.requires.fits c.requires.within
    (λ inv at. left_by c.args.p.now c.args.s.now c.args.i _ (λ code. spec.is_same seen.ToLocal (spec.next_action code)) (λ left. false) c.requires.fits c.in-None.ensures.is (λ left end. refl) inv at)
