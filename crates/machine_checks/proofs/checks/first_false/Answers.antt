use Rattle.std.proofs.Common.{true, false, ◌≡◌, ◌≤◌, [], length, ap, sym, subst, ◌∙◌, arith}
use Rattle.rp_lang.specs.Views.{formula_view, inv_view}
use Rattle.crdt_defs.specs.Truths.{truth}
use Rattle.crdt_truth.specs.Readings.{reading_view}
use Rattle.crdt_truth.specs.Within.{FoWithin}
use Rattle.crdt_truth.proofs.OpenViews.{binders_view-Closed}
use Rattle.machine_checks.proofs.SnapshotLemmas.{checked_true, checked_false, checked_all, inv_at}
use Rattle.machine_checks.proofs.checks.first_false.Goals as goal

pub truth-requires-clause-within : goal.truth-requires-clause-within
truth-requires-clause-within c =
    subst (λ bs. FoWithin (reading_view c.args.r.now) bs (formula_view c.get-inv.result.now.body)) (sym binders_view-Closed)
    (c.requires.within c.loop-n.n (inv_view c.get-inv.result.now) (inv_at c.args.invs.now c.loop-n.n c.get-inv.result.now c.get-inv.ensures))

pub returns-then-not-holds : goal.returns-then-not-holds
returns-then-not-holds c =
    let r = reading_view c.args.r.now in
    let f = formula_view c.get-inv.result.now.body in
    let fails : truth r [] f ≡ false = ap (λ bs. truth r bs f) (sym binders_view-Closed) ∙ sym c.in_ok-holds.ensures ∙ c.if-not-holds.true in
    sym (checked_false r c.args.invs.now c.loop-n.n c.get-inv.result.now c.get-inv.ensures fails) ∙ c.loop-n.invariant

pub loop-n-preserved : goal.loop-n-preserved
loop-n-preserved c =
    let r = reading_view c.args.r.now in
    let f = formula_view c.get-inv.result.now.body in
    let holds : truth r [] f ≡ true = ap (λ bs. truth r bs f) (sym binders_view-Closed) ∙ sym c.in_ok-holds.ensures ∙ c.if-not-holds.false in
    sym (checked_true r c.args.invs.now c.loop-n.n c.get-inv.result.now c.get-inv.ensures holds) ∙ c.loop-n.invariant

pub returns : goal.returns
returns c =
    let end : length c.args.invs.now ≤ c.loop-n.n = omega (arith, c.loop-n-test.false, c.count-n-end.ensures.length) in
    sym (checked_all (reading_view c.args.r.now) c.args.invs.now c.loop-n.n end) ∙ c.loop-n.invariant
