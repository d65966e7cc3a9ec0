use Rattle.std.proofs.Common.{[], Some, None, ◌≡◌, ◌<◌, ◌≤◌, List, map, ap, sym, subst, ◌∙◌, arith}
use Rattle.rp_lang.specs.declared.inv.InvDecl.{InvDecl}
use Rattle.rp_lang.specs.ProgramView.{program_view}
use Rattle.rp_lang.specs.Views.{inv_view}
use Rattle.crdt_defs.specs.Calls.{calls_view}
use Rattle.crdt_defs.specs.Truths.{Reading}
use Rattle.crdt_truth.specs.Readings.{parts_view, reading_view, seen_in}
use Rattle.crdt_truth.specs.Within.{FoWithin}
use Rattle.event_machine.specs.Machine.{plain}
use Rattle.machine_effects.specs.Limits.{of_all}
use Rattle.machine_state.specs.StateView.{state_view}
use Rattle.machine_checks.specs.Checking.{answer_of}
use Rattle.machine_checks.proofs.SnapshotLemmas.{check_breadth, seen_calls, invariants_fit, check_broad, check_does}
use Rattle.machine_checks.proofs.checks.check.Goals as goal

pub returns-then-breadth_of_all-gt-WIDEST-clause-err : goal.returns-then-breadth_of_all-gt-WIDEST-clause-err
returns-then-breadth_of_all-gt-WIDEST-clause-err c =
    let p = c.args.p.now in
    let s = c.args.s.now in
    let r = c.snapshot-r.result in
    let all : of_all (parts_view r) (map inv_view c.as_slice.result.now) ≡ check_breadth p s =
    ap (λ (r : Reading). of_all r.parts (map inv_view c.as_slice.result.now)) c.snapshot-r.ensures.is
    ∙ ap (λ (xs : List InvDecl). of_all (plain (state_view (program_view p) s)) (map inv_view xs)) c.as_slice.ensures.items in
    let found = c.breadth_of_all.ensures in
    let wide : 50000000 < c.breadth_of_all.result = c.if-breadth_of_all-gt-WIDEST.true in
    let broad : 50000000 < check_breadth p s = omega arith in
    check_broad p s c.args.sees.now broad

pub first_false-requires-clause-within : goal.first_false-requires-clause-within
first_false-requires-clause-within c = λ n inv at.
    subst (λ (r : Reading). FoWithin r [] inv.body) (sym c.snapshot-r.ensures.is) (invariants_fit c.args.p.now c.args.s.now (seen_in c.new-view.result) c.requires.fits c.len-calls.ensures.history n inv at)

pub returns-in-Some-clause-ok : goal.returns-in-Some-clause-ok
returns-in-Some-clause-ok c =
    let p = c.args.p.now in
    let s = c.args.s.now in
    let r = c.snapshot-r.result in
    let all : of_all (parts_view r) (map inv_view c.as_slice.result.now) ≡ check_breadth p s =
    ap (λ (r : Reading). of_all r.parts (map inv_view c.as_slice.result.now)) c.snapshot-r.ensures.is
    ∙ ap (λ (xs : List InvDecl). of_all (plain (state_view (program_view p) s)) (map inv_view xs)) c.as_slice.ensures.items in
    let found = c.breadth_of_all.ensures in
    let small : c.breadth_of_all.result ≤ 50000000 = c.if-breadth_of_all-gt-WIDEST.false in
    let narrow : check_breadth p s ≤ 50000000 = omega arith in
    check_does p s c.args.sees.now (reading_view r) (seen_in c.new-view.result) (Some c.in-Some.n) c.requires.fits narrow c.snapshot-r.ensures.is
    (seen_calls (calls_view s.history) c.args.sees.now c.new-view.result (c.new-view.ensures ∙ c.in_ok-calls_read.ensures.calls))
    (ap answer_of (sym c.in-Some.is) ∙ c.in_ok-found.ensures)

pub returns-clause-ok : goal.returns-clause-ok
returns-clause-ok c =
    let p = c.args.p.now in
    let s = c.args.s.now in
    let r = c.snapshot-r.result in
    let all : of_all (parts_view r) (map inv_view c.as_slice.result.now) ≡ check_breadth p s =
    ap (λ (r : Reading). of_all r.parts (map inv_view c.as_slice.result.now)) c.snapshot-r.ensures.is
    ∙ ap (λ (xs : List InvDecl). of_all (plain (state_view (program_view p) s)) (map inv_view xs)) c.as_slice.ensures.items in
    let found = c.breadth_of_all.ensures in
    let small : c.breadth_of_all.result ≤ 50000000 = c.if-breadth_of_all-gt-WIDEST.false in
    let narrow : check_breadth p s ≤ 50000000 = omega arith in
    check_does p s c.args.sees.now (reading_view r) (seen_in c.new-view.result) (None) c.requires.fits narrow c.snapshot-r.ensures.is
    (seen_calls (calls_view s.history) c.args.sees.now c.new-view.result (c.new-view.ensures ∙ c.in_ok-calls_read.ensures.calls))
    (ap answer_of (sym c.in-None.is) ∙ c.in_ok-found.ensures)
