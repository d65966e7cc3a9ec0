use Rattle.std.proofs.Common.{rules, ◌≡◌, Err, ap, sym, subst}
use Rattle.query_bodies.specs.Views.{body_view}
use Rattle.lower_exprs.specs.declared.stop.Stop.{Stop}
use Rattle.lower_exprs.specs.declared.stop.Stop.TheVariants as stop
use Rattle.lower_exprs.specs.declared.values.Maker.{Maker}
use Rattle.lower_exprs.specs.declared.values.Passed.{Passed}
use Rattle.lower_exprs.specs.declared.values.Work.{Work}
use Rattle.lower_exprs.specs.Making.{IsBuiltOf, IsPastBy, Passes}
use Rattle.lower_exprs.proofs.Notes.{passes}
use Rattle.lower_exprs.proofs.values.Maker.made.Goals as goal

pub returns-clause-made : goal.returns-clause-made
returns-clause-made c measured v h =
    let s = body_view c.args.body.now in
    let same = ap (λ (m : Maker). m.work) c.note.ensures in
    let built = subst (λ (w : Work). IsBuiltOf w s c.in_ok-value.value) same c.in_ok-value.ensures.built in
    record { reads_is = (c.in_ok-facts.ensures measured v h).reads_is; value = built v h }

pub returns-clause-notes : goal.returns-clause-notes
returns-clause-notes c measured v h =
    let old = c.args.self.now in
    record {
      work = ap (λ (m : Maker). m.work) c.note.ensures;
      same = ap (λ (m : Maker). m.reader) c.note.ensures;
      passed = subst (λ (p : Passed). Passes old.work.cons.now old.passed v p) (sym (ap (λ (m : Maker). m.passed) c.note.ensures))
          (passes old.work.cons.now old.passed c.in_ok-facts.facts v (c.in_ok-facts.ensures measured v h));
    }

pub returns-in_err-value-clause-nodes : goal.returns-in_err-value-clause-nodes
returns-in_err-value-clause-nodes c is measured v h =
    let s = body_view c.args.body.now in
    let facts = c.in_ok-facts.facts in
    let same : c.from_residual-in_err-value.result ≡ Err c.in_err-value.field-0.0 =
    search (rules, c.from_residual-in_err-value.ensures) in
    let stops : c.in_err-value.field-0.0 ≡ stop.Nodes = cc (same, is) in
    let past = subst (λ (w : Work). IsPastBy facts w s) (ap (λ (m : Maker). m.work) c.note.ensures)
    (c.in_err-value.ensures.nodes (ap (λ (e : Stop). Err e) stops)) in
    past v h (c.in_ok-facts.ensures measured v h)
