use Rattle.std.proofs.Common.{◌∙◌, [], ap, sym, subst}
use Rattle.rp_lang.specs.Views.{exprs_view}
use Rattle.crdt_defs.specs.Truths as spec
use Rattle.crdt_truth.specs.Readings.{reading_view}
use Rattle.crdt_truth.specs.Within.{ExsWithin}
use Rattle.crdt_truth.proofs.OpenViews.{binders_view-Closed}
use Rattle.machine_reads.proofs.ReadingLemmas.{some_inv, reads_as, ok_more}
use Rattle.machine_reads.proofs.reads.values_at.Goals as goal

pub values-requires : goal.values-requires
values-requires c =
    let inv = some_inv c.args.p.now c.args.s.now c.args.i c.requires.fits c.requires.within in
    let same = reads_as c.args.p.now c.args.s.now c.args.i _ _ (reading_view c.reading-r.result) c.requires.fits c.requires.within c.in_ok-calls_of.ensures.calls c.new-view.ensures c.reading-r.ensures.is inv.0 inv.1 in
    subst (λ bs. ExsWithin (reading_view c.reading-r.result) bs (exprs_view c.args.exprs.now)) (sym binders_view-Closed)
    (subst (λ r. ExsWithin r [] (exprs_view c.args.exprs.now)) (sym same) (c.requires.bounded inv.0 inv.1))

pub returns : goal.returns
returns c = record { values = ok_more _ _ c.values.result (λ vs h inv at. h ∙ ap (λ bs. spec.values (reading_view c.reading-r.result) bs (exprs_view c.args.exprs.now)) binders_view-Closed ∙ ap (λ r. spec.values r [] (exprs_view c.args.exprs.now)) (reads_as c.args.p.now c.args.s.now c.args.i _ _ (reading_view c.reading-r.result) c.requires.fits c.requires.within c.in_ok-calls_of.ensures.calls c.new-view.ensures c.reading-r.ensures.is inv at)) c.values.ensures }
