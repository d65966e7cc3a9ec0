use Rattle.std.proofs.Common.{◌≡◌, Bool, false, true, not, length, refl, ap, sym, subst, ◌∙◌}
use Rattle.std.proofs.lemmas.Result.{err_from_is_err_and}
use Rattle.rp_lang.specs.Exprs.{Slot}
use Rattle.rp_lang.specs.Formulas.{Fo, Holds}
use Rattle.rp_lang.specs.Views.{formula_view, stmts_view}
use Rattle.rp_lang.proofs.ExprViews.{expr_view-Slot}
use Rattle.rp_lang.proofs.FormulaViews.{formula_view-Holds}
use Rattle.rp_ast.specs.View.{expr_view}
use Rattle.type_rules.specs.Kinds.{bool_kind}
use Rattle.desugaring.specs.Statements as spec
use Rattle.desugaring.specs.Values.{as_formula, formula}
use Rattle.lower_exprs.specs.declared.values.Work.{Work}
use Rattle.lower_exprs.specs.Making.{is_small, value_view}
use Rattle.lower_procs.specs.Noting.{is_large_in}
use Rattle.lower_procs.specs.Writing.{Asks, asking, place_view, test_of}
use Rattle.lower_procs.proofs.Asked.{apart_is, condition_past, formula_asks, formula_there, hidden_asks, term_asks, term_there}
use Rattle.lower_procs.proofs.Simple.{stopped, then_claim, then_ready}
use Rattle.lower_procs.proofs.writer.Writer.condition.Goals as goal

pub returns-in_err-made-clause-nodes : goal.returns-in_err-made-clause-nodes
returns-in_err-made-clause-nodes c err ready v h =
    let w = c.args.self.now in
    condition_past (spec.is_apart (place_view c.args.frame) v) c.args.at (length w.slots) v w.maker.work.cons.now
    (c.in_err-made.ensures.nodes (stopped (err_from_is_err_and c.from_residual.result c.from_residual.ensures.1) err) ready v h)

pub returns-then-is_apart-clause-asks : goal.returns-then-is_apart-clause-asks
returns-then-is_apart-clause-asks c ready v h =
    let w = c.args.self.now in
    let next = length w.slots in
    let stands = c.in_ok-made.ensures.made ready v h in
    let apart = apart_is c.args.frame w.maker.work v c.in_ok-made.made c.is_apart.result stands c.is_apart.ensures ∙ c.if-is_apart.true in
    subst (λ (b : Bool). Asks w b c.args.at bool_kind v (formula (test_of b next v)) (stmts_view c.args.out.now) c.hide.new.self
    (stmts_view c.hide.new.out) (formula (formula_view c.in_ok-new.field-0))) (sym apart)
    (hidden_asks {mid = record w { maker = c.value.new.self }} c.args.at stands (c.in_ok-made.ensures.notes ready v h) refl
    c.in_ok-slot.ensures.slots c.in_ok-slot.ensures.maker c.in_ok-slot.ensures.put
    (ap (λ f. formula (formula_view f)) c.in_ok-new.ensures
    ∙ ap formula (formula_view-Holds _ ∙ ap Holds (expr_view-Slot c.in_ok-slot.slot ∙ ap Slot c.in_ok-slot.ensures.number)))
    (λ test blind. (blind next).1))

pub returns-in_err-made-in-None-clause-nodes : goal.returns-in_err-made-in-None-clause-nodes
returns-in_err-made-in-None-clause-nodes c err ready v h =
    let w = c.args.self.now in
    let next = length w.slots in
    let mid = c.value.new.self in
    let e = expr_view c.args.e.now in
    let stands = c.in_ok-made.ensures.made ready v h in
    let notes = c.in_ok-made.ensures.notes ready v h in
    let apart = apart_is c.args.frame w.maker.work v c.in_ok-made.made c.is_apart.result stands c.is_apart.ensures ∙ c.if-is_apart.false in
    let past = c.in_err-made-in-None.ensures.nodes
    (stopped (err_from_is_err_and c.from_residual-in_err-made-in-None.result c.from_residual-in_err-made-in-None.ensures.1) err)
    (then_ready w.maker mid v notes ready) (formula (as_formula v)) (then_claim w.maker mid e v notes h) in
    subst (λ (b : Bool). asking b c.args.at next v (formula (test_of b next v)) (is_large_in w.maker.work.cons.now) ≡ true) (sym apart)
    (ap not (subst (λ (x : Work). is_small x.cons.now (formula (as_formula v)) ≡ false) notes.work past))

pub returns-in-Some-clause-asks : goal.returns-in-Some-clause-asks
returns-in-Some-clause-asks c ready v h =
    let w = c.args.self.now in
    let next = length w.slots in
    let before = stmts_view c.args.out.now in
    let stands = c.in_ok-made.ensures.made ready v h in
    let apart = apart_is c.args.frame w.maker.work v c.in_ok-made.made c.is_apart.result stands c.is_apart.ensures ∙ c.if-is_apart.false in
    subst (λ (b : Bool). Asks w b c.args.at bool_kind v (formula (test_of b next v)) before (record w { maker = c.value.new.self }) before
    (formula (formula_view c.in-Some.test))) (sym apart)
    (formula_asks c.args.at (formula_there (value_view c.in_ok-made.made.value) _ c.in-Some.ensures) stands (c.in_ok-made.ensures.notes ready v h) refl)

pub returns-in_ok-new-in-None-clause-asks : goal.returns-in_ok-new-in-None-clause-asks
returns-in_ok-new-in-None-clause-asks c ready v h =
    let w = c.args.self.now in
    let next = length w.slots in
    let mid = c.value.new.self in
    let new = record w { maker = c.claimed.new.maker } in
    let before = stmts_view c.args.out.now in
    let stands = c.in_ok-made.ensures.made ready v h in
    let notes = c.in_ok-made.ensures.notes ready v h in
    let apart = apart_is c.args.frame w.maker.work v c.in_ok-made.made c.is_apart.result stands c.is_apart.ensures ∙ c.if-is_apart.false in
    let there = then_claim w.maker mid (expr_view c.args.e.now) v notes h in
    let again = then_ready w.maker mid v notes ready in
    subst (λ (b : Bool). Asks w b c.args.at bool_kind v (formula (test_of b next v)) before new before (formula (formula_view c.in_ok-new-in-None.field-0)))
    (sym apart)
    (subst (λ (f : Fo). Asks w false c.args.at bool_kind v (formula (as_formula v)) before new before (formula f))
    (sym (ap (λ f. formula_view f) c.in_ok-new-in-None.ensures))
    (term_asks mid c.args.at (term_there (value_view c.in_ok-made.made.value) c.in-None.ensures).1 stands notes
    (c.in_ok-made-in-None.ensures.made again (formula (as_formula v)) there) (c.in_ok-made-in-None.ensures.notes again (formula (as_formula v)) there) refl
    c.as_formula-test.ensures))
