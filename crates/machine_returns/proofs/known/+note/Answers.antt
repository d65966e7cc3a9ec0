use Rattle.std.proofs.Common.{ap, sym, subst, ◌∙◌}
use Rattle.rp_value.specs.ValueView.{value_view}
use Rattle.rp_value.proofs.ValueViews.{value_view-Int, value_view-Str, value_view-Call, value_view-Inv}
use Rattle.crdt_defs.specs.Fitting.{atoms}
use Rattle.machine_returns.specs.Known.{Knows}
use Rattle.machine_returns.proofs.KnownLemmas.{extends_same, extends_more, knows_nothing, knows_next, knows_all}
use Rattle.machine_returns.proofs.known.+note.Goals as goal

pub note-returns-in-Int-clause-extends : goal.note-returns-in-Int-clause-extends
note-returns-in-Int-clause-extends t c = extends_same c.args.known.now

pub note-returns-in-Int-clause-knows : goal.note-returns-in-Int-clause-knows
note-returns-in-Int-clause-knows t c =
    subst (λ vs. Knows c.args.known.now vs c.args.known.now) (sym (ap (λ v. atoms (value_view v)) c.in-Int.is ∙ ap atoms (value_view-Int _))) (knows_nothing c.args.known.now)

pub note-returns-in-Str-clause-extends : goal.note-returns-in-Str-clause-extends
note-returns-in-Str-clause-extends t c = extends_same c.args.known.now

pub note-returns-in-Str-clause-knows : goal.note-returns-in-Str-clause-knows
note-returns-in-Str-clause-knows t c =
    subst (λ vs. Knows c.args.known.now vs c.args.known.now) (sym (ap (λ v. atoms (value_view v)) c.in-Str.is ∙ ap atoms (value_view-Str _))) (knows_nothing c.args.known.now)

pub note-returns-in-Call-clause-extends : goal.note-returns-in-Call-clause-extends
note-returns-in-Call-clause-extends t c = extends_same c.args.known.now

pub note-returns-in-Call-clause-knows : goal.note-returns-in-Call-clause-knows
note-returns-in-Call-clause-knows t c =
    subst (λ vs. Knows c.args.known.now vs c.args.known.now) (sym (ap (λ v. atoms (value_view v)) c.in-Call.is ∙ ap atoms (value_view-Call _))) (knows_nothing c.args.known.now)

pub note-returns-in-Inv-clause-extends : goal.note-returns-in-Inv-clause-extends
note-returns-in-Inv-clause-extends t c = extends_same c.args.known.now

pub note-returns-in-Inv-clause-knows : goal.note-returns-in-Inv-clause-knows
note-returns-in-Inv-clause-knows t c =
    subst (λ vs. Knows c.args.known.now vs c.args.known.now) (sym (ap (λ v. atoms (value_view v)) c.in-Inv.is ∙ ap atoms (value_view-Inv _))) (knows_nothing c.args.known.now)

pub note_all-loop-value-preserved : goal.note_all-loop-value-preserved
note_all-loop-value-preserved t c = record {
  extends = extends_more c.args.known.now c.loop-value.known c.note.new.known c.loop-value.invariant.extends c.note.ensures.extends;
  knows = knows_next c.args.known.now c.loop-value.known c.note.new.known c.args.values.now c.loop-value.value-index c.value-item.result c.loop-value-test.true c.value-item.is c.loop-value.invariant.knows c.in_ok-note.ensures.knows;
}

pub note_all-returns-clause-knows : goal.note_all-returns-clause-knows
note_all-returns-clause-knows t c = knows_all c.args.known.now c.loop-value.known c.args.values.now c.loop-value.value-index c.loop-value-test.false c.loop-value.invariant.knows
