use Rattle.std.proofs.Common.{Bool, false, length, refl, ap, sym, subst, ◌∙◌}
use Rattle.std.proofs.lemmas.Result.{err_from_is_err_and}
use Rattle.rp_lang.specs.Exprs.{Ex, Slot}
use Rattle.rp_lang.specs.Views.{expr_view, stmts_view}
use Rattle.rp_lang.proofs.ExprViews.{expr_view-Slot}
use Rattle.desugaring.specs.Statements as spec
use Rattle.desugaring.specs.Values.{term}
use Rattle.lower_procs.specs.Writing.{Asks, on_of, place_view}
use Rattle.lower_procs.proofs.Asked.{apart_is, hidden_asks, matched_past, plain_asks}
use Rattle.lower_procs.proofs.Simple.{stopped}
use Rattle.lower_procs.proofs.writer.Writer.matched_on.Goals as goal

pub returns-in_err-made-clause-nodes : goal.returns-in_err-made-clause-nodes
returns-in_err-made-clause-nodes c err ready x h =
    let w = c.args.self.now in
    matched_past (spec.is_apart (place_view c.args.frame) (term x)) c.args.at (length w.slots) x w.maker.work.cons.now
    (c.in_err-made.ensures.nodes (stopped (err_from_is_err_and c.from_residual.result c.from_residual.ensures.1) err) ready (term x) h)

pub returns-then-is_apart-clause-asks : goal.returns-then-is_apart-clause-asks
returns-then-is_apart-clause-asks c ready x h =
    let w = c.args.self.now in
    let next = length w.slots in
    let stands = c.in_ok-made.ensures.made ready (term x) h in
    let apart = apart_is c.args.frame w.maker.work (term x) c.in_ok-made.made c.is_apart.result stands c.is_apart.ensures ∙ c.if-is_apart.true in
    subst (λ (b : Bool). Asks w b c.args.at c.args.kind (term x) (term (on_of b next x)) (stmts_view c.args.out.now) c.hide.new.self
    (stmts_view c.hide.new.out) (term (expr_view c.in_ok-new.field-0))) (sym apart)
    (hidden_asks {mid = record w { maker = c.value.new.self }} c.args.at stands (c.in_ok-made.ensures.notes ready (term x) h) refl
    c.in_ok-slot.ensures.slots c.in_ok-slot.ensures.maker c.in_ok-slot.ensures.put
    (ap (λ e. term (expr_view e)) c.in_ok-new.ensures ∙ ap term (expr_view-Slot c.in_ok-slot.slot ∙ ap Slot c.in_ok-slot.ensures.number))
    (λ test blind. (blind next).0))

pub returns-clause-asks : goal.returns-clause-asks
returns-clause-asks c ready x h =
    let w = c.args.self.now in
    let next = length w.slots in
    let new = record w { maker = c.value.new.self } in
    let before = stmts_view c.args.out.now in
    let stands = c.in_ok-made.ensures.made ready (term x) h in
    let apart = apart_is c.args.frame w.maker.work (term x) c.in_ok-made.made c.is_apart.result stands c.is_apart.ensures ∙ c.if-is_apart.false in
    subst (λ (b : Bool). Asks w b c.args.at c.args.kind (term x) (term (on_of b next x)) before new before (term (expr_view c.in_ok-new-2.field-0))) (sym apart)
    (subst (λ (d : Ex). Asks w false c.args.at c.args.kind (term x) (term x) before new before (term d)) (sym (ap (λ e. expr_view e) c.in_ok-new-2.ensures))
    (plain_asks c.args.at c.in_ok-on.ensures stands (c.in_ok-made.ensures.notes ready (term x) h) refl))
