use Rattle.std.proofs.Common.{◌∙◌, [], ap, refl, sym, subst}
use Rattle.rp_lang.specs.Views.{expr_view}
use Rattle.crdt_defs.specs.Atoms.{ints_fit as fit}
use Rattle.crdt_defs.specs.Truths as spec
use Rattle.crdt_truth.specs.Readings.{reading_view}
use Rattle.crdt_truth.specs.Within.{ExWithin}
use Rattle.crdt_truth.proofs.OpenViews.{binders_view-Closed}
use Rattle.machine_reads.proofs.ReadingLemmas.{some_inv, reads_as}
use Rattle.machine_reads.proofs.reads.value_at.Goals as goal

pub value-requires : goal.value-requires
value-requires c =
    let inv = some_inv c.args.p.now c.args.s.now c.args.i c.requires.fits c.requires.within in
    let same = reads_as c.args.p.now c.args.s.now c.args.i _ _ (reading_view c.reading-r.result) c.requires.fits c.requires.within c.in_ok-calls_of.ensures.calls c.new-view.ensures c.reading-r.ensures.is inv.0 inv.1 in
    subst (λ bs. ExWithin (reading_view c.reading-r.result) bs (expr_view c.args.e.now)) (sym binders_view-Closed)
    (subst (λ r. ExWithin r [] (expr_view c.args.e.now)) (sym same) (c.requires.bounded inv.0 inv.1))

pub returns-then-ints_fit-clause-value : goal.returns-then-ints_fit-clause-value
returns-then-ints_fit-clause-value c = λ inv at. c.in_ok-value.ensures ∙ ap (λ bs. spec.value (reading_view c.reading-r.result) bs (expr_view c.args.e.now)) binders_view-Closed ∙ ap (λ r. spec.value r [] (expr_view c.args.e.now)) (reads_as c.args.p.now c.args.s.now c.args.i _ _ (reading_view c.reading-r.result) c.requires.fits c.requires.within c.in_ok-calls_of.ensures.calls c.new-view.ensures c.reading-r.ensures.is inv at)

pub returns-clause-err : goal.returns-clause-err
returns-clause-err c = (
  refl,
  λ inv at. sym (ap fit (c.in_ok-value.ensures ∙ ap (λ bs. spec.value (reading_view c.reading-r.result) bs (expr_view c.args.e.now)) binders_view-Closed ∙ ap (λ r. spec.value r [] (expr_view c.args.e.now)) (reads_as c.args.p.now c.args.s.now c.args.i _ _ (reading_view c.reading-r.result) c.requires.fits c.requires.within c.in_ok-calls_of.ensures.calls c.new-view.ensures c.reading-r.ensures.is inv at)))
      ∙ (sym c.ints_fit.ensures ∙ c.if-ints_fit.false),
)
