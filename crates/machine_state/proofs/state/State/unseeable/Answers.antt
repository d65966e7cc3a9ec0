use Rattle.std.proofs.Common.{ℕ, ◌≤◌, Bool, List, length, not, ap, sym, ◌∙◌, refl, arith}
use Rattle.std.specs.Prelude.{filter}
use Rattle.rp_lang.specs.ProgramView.{program_view}
use Rattle.crdt_defs.specs.Counting.{first_below}
use Rattle.crdt_defs.specs.Snapshots.{bit}
use Rattle.event_machine.specs.Machine as spec
use Rattle.machine_state.specs.StateView.{state_view}
use Rattle.machine_state.proofs.StateLemmas.{open_txs, txs_length}
use Rattle.machine_state.proofs.RefusalLemmas.{open_first, missing_first, all_closed}
use Rattle.machine_state.proofs.state.State.unseeable.Goals as goal

pub returns-in-Some : goal.returns-in-Some
returns-in-Some c =
    let v = program_view c.args.p.now in
    let s = c.args.self.now in
    let found = c.in-Some.ensures
    ∙ ap (λ (row : List Bool). spec.least_of (filter (λ tx. not (bit row tx)) c.args.sees.now)) c.as_slice.ensures.items
    ∙ ap (λ (test : ℕ → Bool). spec.least_of (filter test c.args.sees.now)) (open_txs v s c.requires.fits.kept.txs) in
    open_first _ _ _ found

pub missing-requires-clause-few : goal.missing-requires-clause-few
missing-requires-clause-few c =
    let few : length c.args.self.now.owners ≤ length c.args.self.now.history = c.requires.fits.kept.calls in
    omega (arith, c.count.ensures.length)

pub returns-in-Some-missing : goal.returns-in-Some-missing
returns-in-Some-missing c =
    let v = program_view c.args.p.now in
    let s = c.args.self.now in
    let sv = state_view v s in
    let none = c.in-None.ensures
    ∙ ap (λ (row : List Bool). spec.least_of (filter (λ tx. not (bit row tx)) c.args.sees.now)) c.as_slice.ensures.items
    ∙ ap (λ (test : ℕ → Bool). spec.least_of (filter test c.args.sees.now)) (open_txs v s c.requires.fits.kept.txs) in
    let many = c.count.ensures.length ∙ sym (txs_length s.owners s.committed c.requires.fits.kept.txs) in
    missing_first _ _ _ none (c.in-Some-missing.ensures sv refl ∙ ap (first_below (spec.is_missing sv c.args.sees.now (spec.calls_of sv.calls c.args.earlier.now))) many)

pub returns-in-None-missing : goal.returns-in-None-missing
returns-in-None-missing c =
    let v = program_view c.args.p.now in
    let s = c.args.self.now in
    let sv = state_view v s in
    let none = c.in-None.ensures
    ∙ ap (λ (row : List Bool). spec.least_of (filter (λ tx. not (bit row tx)) c.args.sees.now)) c.as_slice.ensures.items
    ∙ ap (λ (test : ℕ → Bool). spec.least_of (filter test c.args.sees.now)) (open_txs v s c.requires.fits.kept.txs) in
    let many = c.count.ensures.length ∙ sym (txs_length s.owners s.committed c.requires.fits.kept.txs) in
    all_closed _ _ none (c.in-None-missing.ensures sv refl ∙ ap (first_below (spec.is_missing sv c.args.sees.now (spec.calls_of sv.calls c.args.earlier.now))) many)
