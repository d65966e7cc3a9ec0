use Rattle.std.proofs.Common.{◌≡◌, ◌<◌, ◌≤◌, ◌∙◌, [], arith, ap, refl, sym, subst}
use Rattle.rp_lang.specs.Views.{formula_view}
use Rattle.crdt_defs.specs.Truths as spec
use Rattle.crdt_truth.specs.Breadths as broad
use Rattle.crdt_truth.specs.Readings.{reading_view, parts_view}
use Rattle.crdt_truth.specs.Within.{FoWithin}
use Rattle.crdt_truth.proofs.OpenViews.{binders_view-Closed}
use Rattle.machine_reads.specs.Reads.{read_at}
use Rattle.machine_reads.proofs.ReadingLemmas.{some_inv, reads_as}
use Rattle.machine_reads.proofs.reads.truth_at.Goals as goal

pub returns-then-breadth-gt-WIDEST-clause-err : goal.returns-then-breadth-gt-WIDEST-clause-err
returns-then-breadth-gt-WIDEST-clause-err c = (
  refl,
  λ inv at.
      let same : broad.breadth (parts_view c.reading-r.result) (formula_view c.args.f.now) ≡ broad.breadth (read_at c.args.p.now c.args.s.now inv).parts (formula_view c.args.f.now) =
      ap (λ (r : spec.Reading). broad.breadth r.parts (formula_view c.args.f.now)) (reads_as c.args.p.now c.args.s.now c.args.i _ _ (reading_view c.reading-r.result) c.requires.fits c.requires.within c.in_ok-calls_of.ensures.calls c.new-view.ensures c.reading-r.ensures.is inv at) in
      let found = c.breadth.ensures in
      let wide : 50000000 < c.breadth.result = c.if-breadth-gt-WIDEST.true in
      omega arith,
)

pub truth-requires-clause-within : goal.truth-requires-clause-within
truth-requires-clause-within c =
    let inv = some_inv c.args.p.now c.args.s.now c.args.i c.requires.fits c.requires.within in
    let same = reads_as c.args.p.now c.args.s.now c.args.i _ _ (reading_view c.reading-r.result) c.requires.fits c.requires.within c.in_ok-calls_of.ensures.calls c.new-view.ensures c.reading-r.ensures.is inv.0 inv.1 in
    subst (λ bs. FoWithin (reading_view c.reading-r.result) bs (formula_view c.args.f.now)) (sym binders_view-Closed)
    (subst (λ r. FoWithin r [] (formula_view c.args.f.now)) (sym same) (c.requires.bounded inv.0 inv.1))

pub returns-clause-truth : goal.returns-clause-truth
returns-clause-truth c = λ inv at. c.in_ok-truth.ensures ∙ ap (λ bs. spec.truth (reading_view c.reading-r.result) bs (formula_view c.args.f.now)) binders_view-Closed ∙ ap (λ r. spec.truth r [] (formula_view c.args.f.now)) (reads_as c.args.p.now c.args.s.now c.args.i _ _ (reading_view c.reading-r.result) c.requires.fits c.requires.within c.in_ok-calls_of.ensures.calls c.new-view.ensures c.reading-r.ensures.is inv at)

pub returns-clause-narrow : goal.returns-clause-narrow
returns-clause-narrow c = λ inv at.
    let same : broad.breadth (parts_view c.reading-r.result) (formula_view c.args.f.now) ≡ broad.breadth (read_at c.args.p.now c.args.s.now inv).parts (formula_view c.args.f.now) =
    ap (λ (r : spec.Reading). broad.breadth r.parts (formula_view c.args.f.now)) (reads_as c.args.p.now c.args.s.now c.args.i _ _ (reading_view c.reading-r.result) c.requires.fits c.requires.within c.in_ok-calls_of.ensures.calls c.new-view.ensures c.reading-r.ensures.is inv at) in
    let found = c.breadth.ensures in
    let narrow : c.breadth.result ≤ 50000000 = c.if-breadth-gt-WIDEST.false in
    omega arith
