use Rattle.std.proofs.Common.{true, ◌≡◌, ◌<◌, ℕ, List, All, length, ap, sym, subst, arith}
use Rattle.std.specs.List.Sorted.{IsStrictlyIncreasing}
use Rattle.rp_value.specs.ValueView.{value_view}
use Rattle.crdt_defs.specs.Snapshots.{bit}
use Rattle.event_machine.specs.States as seen
use Rattle.event_machine.specs.Machine.{named}
use Rattle.machine_effects.specs.Steps.{Does}
use Rattle.machine_state.specs.declared.state.State.{State}
use Rattle.machine_state.specs.Fits.{StepFits}
use Rattle.machine_state.proofs.StateLemmas.{some_at}
use Rattle.machine_steps.proofs.FreeLemmas.{IsFree, there_free, running_free, point_free, committed_free, ints_free}
use Rattle.step_labels.specs.StepLabels.{label_view}
use Rattle.machine_steps.proofs.steps.act.Goals as goal

pub invoke-requires-clause-within : goal.invoke-requires-clause-within
invoke-requires-clause-within c = subst (λ l. StepFits c.args.p.now l) c.in-Invoke.is c.requires.step

pub begin-requires-clause-within : goal.begin-requires-clause-within
begin-requires-clause-within c = there_free c.args.p.now c.args.s.now (label_view c.args.label.now) c.in-Begin.inv c.requires.fits c.requires.free (ap (λ l. named (label_view l)) c.in-Begin.is)

pub begin-requires-clause-ascending : goal.begin-requires-clause-ascending
begin-requires-clause-ascending c = subst IsStrictlyIncreasing (sym c.as_slice-in-Begin.ensures.items) (subst (λ l. StepFits c.args.p.now l) c.in-Begin.is c.requires.step)

pub begin-requires-clause-committed : goal.begin-requires-clause-committed
begin-requires-clause-committed c =
    let s : State = c.args.s.now in
    subst (λ (xs : List ℕ). All (λ tx. bit s.committed tx ≡ true) xs) (sym c.as_slice-in-Begin.ensures.items)
    (committed_free c.args.p.now s c.in-Begin.inv c.in-Begin.stamp c.in-Begin.sees c.requires.fits
    (subst (λ (l : seen.Label). IsFree c.args.p.now s l) (ap label_view c.in-Begin.is) c.requires.free))

pub operate-requires-clause-within : goal.operate-requires-clause-within
operate-requires-clause-within c = there_free c.args.p.now c.args.s.now (label_view c.args.label.now) c.in-Op.inv c.requires.fits c.requires.free (ap (λ l. named (label_view l)) c.in-Op.is)

pub operate-requires-clause-running : goal.operate-requires-clause-running
operate-requires-clause-running c = running_free c.args.p.now c.args.s.now (label_view c.args.label.now) c.in-Op.inv c.requires.fits c.requires.free (ap (λ l. named (label_view l)) c.in-Op.is)

pub local-requires-clause-within : goal.local-requires-clause-within
local-requires-clause-within c = there_free c.args.p.now c.args.s.now (label_view c.args.label.now) c.in-Local.inv c.requires.fits c.requires.free (ap (λ l. named (label_view l)) c.in-Local.is)

pub local-requires-clause-running : goal.local-requires-clause-running
local-requires-clause-running c = running_free c.args.p.now c.args.s.now (label_view c.args.label.now) c.in-Local.inv c.requires.fits c.requires.free (ap (λ l. named (label_view l)) c.in-Local.is)

pub make-requires-clause-within : goal.make-requires-clause-within
make-requires-clause-within c = there_free c.args.p.now c.args.s.now (label_view c.args.label.now) c.in-New.inv c.requires.fits c.requires.free (ap (λ l. named (label_view l)) c.in-New.is)

pub make-requires-clause-ints : goal.make-requires-clause-ints
make-requires-clause-ints c =
    ints_free c.args.p.now c.args.s.now c.in-New.inv (value_view c.in-New.id) c.requires.fits
    (subst (λ (l : seen.Label). IsFree c.args.p.now c.args.s.now l) (ap label_view c.in-New.is) c.requires.free)

pub commit-requires-clause-within : goal.commit-requires-clause-within
commit-requires-clause-within c = there_free c.args.p.now c.args.s.now (label_view c.args.label.now) c.in-Commit.inv c.requires.fits c.requires.free (ap (λ l. named (label_view l)) c.in-Commit.is)

pub give_back-requires-clause-within : goal.give_back-requires-clause-within
give_back-requires-clause-within c = there_free c.args.p.now c.args.s.now (label_view c.args.label.now) c.in-Return.inv c.requires.fits c.requires.free (ap (λ l. named (label_view l)) c.in-Return.is)

pub give_back-requires-clause-running : goal.give_back-requires-clause-running
give_back-requires-clause-running c = running_free c.args.p.now c.args.s.now (label_view c.args.label.now) c.in-Return.inv c.requires.fits c.requires.free (ap (λ l. named (label_view l)) c.in-Return.is)

pub give_back-requires-clause-point : goal.give_back-requires-clause-point
give_back-requires-clause-point c =
    point_free c.args.p.now c.args.s.now c.in-Return.inv (subst (λ (l : seen.Label). IsFree c.args.p.now c.args.s.now l) (ap label_view c.in-Return.is) c.requires.free)

pub fail-requires : goal.fail-requires
fail-requires c =
    let s : State = c.args.s.now in
    let within : c.in-Fail.inv < length s.infos =
    there_free c.args.p.now s (label_view c.args.label.now) c.in-Fail.inv c.requires.fits c.requires.free (ap (λ l. named (label_view l)) c.in-Fail.is) in
    let same : length s.infos ≡ length s.runs = c.requires.fits.kept.runs in
    record { within = omega arith }

pub returns-in-Fail-clause-ok : goal.returns-in-Fail-clause-ok
returns-in-Fail-clause-ok c =
    let p = c.args.p.now in
    let s : State = c.args.s.now in
    let is = ap (λ l. named (label_view l)) c.in-Fail.is in
    let within : c.in-Fail.inv < length s.infos = there_free p s (label_view c.args.label.now) c.in-Fail.inv c.requires.fits c.requires.free is in
    let same : length s.infos ≡ length s.runs = c.requires.fits.kept.runs in
    let run = some_at s.runs c.in-Fail.inv (omega arith) in
    subst (λ (l : seen.Label). Does p s l c.fail.new.s c.fail.result) (sym (ap label_view c.in-Fail.is))
    (c.fail.ensures p run.0 c.requires.fits run.1 (running_free p s (label_view c.args.label.now) c.in-Fail.inv c.requires.fits c.requires.free is run.0 run.1))
