use Rattle.std.proofs.Common.{◌≡◌, true, length, Some, refl, ap, sym, subst, ◌∙◌}
use Rattle.std.proofs.lemmas.Result.{err_from_is_err_and}
use Rattle.rp_lang.specs.Exprs.{Ex, Slot}
use Rattle.rp_lang.specs.Stmts.{ReturnWith}
use Rattle.rp_lang.specs.Views.{stmts_view}
use Rattle.rp_lang.proofs.ExprViews.{expr_view-Slot}
use Rattle.rp_ast.specs.View.{expr_view}
use Rattle.type_rules.specs.declared.kind.Kind.{Kind}
use Rattle.desugaring.specs.Limits.{some_in_all}
use Rattle.desugaring.specs.Statements.{Made, append, one_st, returning}
use Rattle.desugaring.proofs.Options.{map_there, then_there}
use Rattle.lower_exprs.specs.Making.{value_view}
use Rattle.lower_procs.specs.Noting.{is_large_in}
use Rattle.lower_procs.specs.Writing.{Adds, value_in}
use Rattle.lower_procs.proofs.Asked.{plain_is, through_adds, through_past}
use Rattle.lower_procs.proofs.Simple.{plain_adds, same_some, stopped}
use Rattle.lower_procs.proofs.writer.Writer.leave_with.Goals as goal

pub returns-in_err-made-clause-nodes : goal.returns-in_err-made-clause-nodes
returns-in_err-made-clause-nodes c err ready m h =
    let w = c.args.self.now in
    let e = expr_view c.args.value.now in
    then_there _ c.args.frame.result m h (λ k k_is h2.
    map_there (λ (y : Made). some_in_all (is_large_in w.maker.work.cons.now) y.body ≡ true) (returning c.args.at (length w.slots) k)
    (value_in w.maker (Some k) e) m h2 (λ v v_is.
    through_past c.args.at (length w.slots) k v w.maker.work.cons.now
    (c.in_err-made.ensures.nodes (stopped (err_from_is_err_and c.from_residual.result c.from_residual.ensures.1) err) ready v
    (subst (λ (j : Kind). value_in w.maker (Some j) e ≡ Some v) (same_some (sym k_is ∙ c.in-Some.is)) v_is))))

pub returns-in_ok-put_return-clause-writes : goal.returns-in_ok-put_return-clause-writes
returns-in_ok-put_return-clause-writes c ready m h =
    let w = c.args.self.now in
    let e = expr_view c.args.value.now in
    let new = record w { maker = c.value.new.self } in
    then_there _ c.args.frame.result m h (λ k k_is h2.
    map_there (λ (y : Made). Adds w y w.maker.reader (stmts_view c.args.out.now) new (stmts_view c.put_return.new.out))
    (returning c.args.at (length w.slots) k) (value_in w.maker (Some k) e) m h2 (λ v v_is.
    let there = subst (λ (j : Kind). value_in w.maker (Some j) e ≡ Some v) (same_some (sym k_is ∙ c.in-Some.is)) v_is in
    let stands = c.in_ok-made.ensures.made ready v there in
    let plain = plain_is v (value_view c.in_ok-made.made.value) c.in_ok-made.made.reads stands.value.form stands.reads_is
    ∙ sym c.is_plain.ensures ∙ c.if-is_plain.true in
    plain_adds c.args.at k v plain stands (c.in_ok-made.ensures.notes ready v there) c.in_ok-e.ensures refl c.in_ok-put_return.ensures))

pub returns-in_ok-put_return-2-clause-writes : goal.returns-in_ok-put_return-2-clause-writes
returns-in_ok-put_return-2-clause-writes c ready m h =
    let w = c.args.self.now in
    let e = expr_view c.args.value.now in
    let new = c.hide.new.self in
    then_there _ c.args.frame.result m h (λ k k_is h2.
    let kind = same_some (sym k_is ∙ c.in-Some.is) in
    map_there (λ (y : Made). Adds w y w.maker.reader (stmts_view c.args.out.now) new (stmts_view c.put_return-else-is_plain.new.out))
    (returning c.args.at (length w.slots) k) (value_in w.maker (Some k) e) m h2 (λ v v_is.
    let there = subst (λ (j : Kind). value_in w.maker (Some j) e ≡ Some v) kind v_is in
    let stands = c.in_ok-made.ensures.made ready v there in
    let plain = plain_is v (value_view c.in_ok-made.made.value) c.in_ok-made.made.reads stands.value.form stands.reads_is
    ∙ sym c.is_plain.ensures ∙ c.if-is_plain.false in
    subst (λ (j : Kind). Adds w (returning c.args.at (length w.slots) j v) w.maker.reader (stmts_view c.args.out.now) new
    (stmts_view c.put_return-else-is_plain.new.out)) (sym kind)
    (through_adds {mid = record w { maker = c.value.new.self }} c.args.at stands (c.in_ok-made.ensures.notes ready v there) refl
    c.in_ok-slot.ensures.slots c.in_ok-slot.ensures.maker c.in_ok-slot.ensures.put
    (c.in_ok-put_return-2.ensures
    ∙ ap (λ (x : Ex). append (stmts_view c.hide.new.out) (one_st (ReturnWith c.args.at x)))
    (expr_view-Slot c.in_ok-slot.slot ∙ ap Slot c.in_ok-slot.ensures.number)) plain)))
