use Rattle.std.proofs.Common.{List, map, ap, sym, subst, ◌∙◌, rules, arith}
use Rattle.std.proofs.lemmas.Int.{to_z-of_z}
use Rattle.rp_value.specs.ValueView.{value_view}
use Rattle.rp_lang.specs.declared.expr.Expr.{Expr}
use Rattle.rp_lang.specs.Sizes.{ex_nodes, exs_nodes}
use Rattle.rp_lang.specs.Views.{expr_view, exprs_view}
use Rattle.rp_lang.proofs.ExprViews.{expr_view-Con, expr_view-Plus, expr_view-Add, expr_view-Sub, expr_view-Query, expr_view-OriginOf}
use Rattle.crdt_defs.specs.Truths.{value, number}
use Rattle.crdt_truth.specs.Open.{binders_view}
use Rattle.crdt_truth.specs.Readings.{reading_view}
use Rattle.crdt_truth.specs.Within.{ExWithin, ExsWithin, SumFits, DifferenceFits}
use Rattle.crdt_truth.proofs.ListValues.{ex_nodes_at, ex_within_at, value_listed, all_listed}
use Rattle.crdt_truth.proofs.exprs.+value.Goals as goal

pub value-values-requires : goal.value-values-requires
value-values-requires t c =
    let r = reading_view c.args.r.now in
    let b = binders_view c.args.binders.now in
    let view = ap expr_view c.in-Con.is ∙ expr_view-Con c.in-Con.con c.in-Con.args in
    let parts = subst (ExWithin r b) view c.requires in
    let nodes = ap ex_nodes view in
    let same = ap (λ (x : List Expr). exs_nodes (exprs_view x)) c.as_slice-in-Con.ensures.items in
    (omega (arith, nodes, same), subst (λ (x : List Expr). ExsWithin r b (exprs_view x)) (sym c.as_slice-in-Con.ensures.items) parts)

pub value-integer-requires : goal.value-integer-requires
value-integer-requires t c =
    let r = reading_view c.args.r.now in
    let b = binders_view c.args.binders.now in
    let view = ap expr_view c.in-Plus.is ∙ expr_view-Plus c.in-Plus.e c.in-Plus.n in
    let parts = subst (ExWithin r b) view c.requires in
    let nodes = ap ex_nodes view in
    let same = ap (λ (x : Expr). ex_nodes (expr_view x)) c.get.ensures in
    (omega (arith, nodes, same), subst (λ (x : Expr). ExWithin r b (expr_view x)) (sym c.get.ensures) parts.0)

pub value-plus-requires : goal.value-plus-requires
value-plus-requires t c =
    let r = reading_view c.args.r.now in
    let b = binders_view c.args.binders.now in
    let view = ap expr_view c.in-Plus.is ∙ expr_view-Plus c.in-Plus.e c.in-Plus.n in
    let parts = subst (ExWithin r b) view c.requires in
    let left = c.in_ok-left-in-Plus.ensures ∙ ap (λ (x : Expr). number (value r b (expr_view x))) c.get.ensures in
    let fact : SumFits c.in_ok-left-in-Plus.left c.in-Plus.n = subst (λ z. SumFits z c.in-Plus.n) (sym left) parts.1 in
    search (rules, to_z-of_z, fact)

pub value-integer-requires-in-Add : goal.value-integer-requires-in-Add
value-integer-requires-in-Add t c =
    let r = reading_view c.args.r.now in
    let b = binders_view c.args.binders.now in
    let view = ap expr_view c.in-Add.is ∙ expr_view-Add c.in-Add.a c.in-Add.b in
    let parts = subst (ExWithin r b) view c.requires in
    let nodes = ap ex_nodes view in
    let same = ap (λ (x : Expr). ex_nodes (expr_view x)) c.get-in-Add.ensures in
    (omega (arith, nodes, same), subst (λ (x : Expr). ExWithin r b (expr_view x)) (sym c.get-in-Add.ensures) parts.0)

pub value-integer-requires-in-Add-2 : goal.value-integer-requires-in-Add-2
value-integer-requires-in-Add-2 t c =
    let r = reading_view c.args.r.now in
    let b = binders_view c.args.binders.now in
    let view = ap expr_view c.in-Add.is ∙ expr_view-Add c.in-Add.a c.in-Add.b in
    let parts = subst (ExWithin r b) view c.requires in
    let nodes = ap ex_nodes view in
    let same = ap (λ (x : Expr). ex_nodes (expr_view x)) c.get-in-Add-2.ensures in
    (omega (arith, nodes, same), subst (λ (x : Expr). ExWithin r b (expr_view x)) (sym c.get-in-Add-2.ensures) parts.1)

pub value-plus-requires-in-Add : goal.value-plus-requires-in-Add
value-plus-requires-in-Add t c =
    let r = reading_view c.args.r.now in
    let b = binders_view c.args.binders.now in
    let view = ap expr_view c.in-Add.is ∙ expr_view-Add c.in-Add.a c.in-Add.b in
    let parts = subst (ExWithin r b) view c.requires in
    let left = c.in_ok-left-in-Add.ensures ∙ ap (λ (x : Expr). number (value r b (expr_view x))) c.get-in-Add.ensures in
    let right = c.in_ok-right-in-Add.ensures ∙ ap (λ (x : Expr). number (value r b (expr_view x))) c.get-in-Add-2.ensures in
    let fact : SumFits c.in_ok-left-in-Add.left c.in_ok-right-in-Add.right = subst (λ z. SumFits z c.in_ok-right-in-Add.right) (sym left) (subst (SumFits (number (value r b (expr_view c.in-Add.a)))) (sym right) parts.2) in
    search (rules, to_z-of_z, fact)

pub value-integer-requires-in-Sub : goal.value-integer-requires-in-Sub
value-integer-requires-in-Sub t c =
    let r = reading_view c.args.r.now in
    let b = binders_view c.args.binders.now in
    let view = ap expr_view c.in-Sub.is ∙ expr_view-Sub c.in-Sub.a c.in-Sub.b in
    let parts = subst (ExWithin r b) view c.requires in
    let nodes = ap ex_nodes view in
    let same = ap (λ (x : Expr). ex_nodes (expr_view x)) c.get-in-Sub.ensures in
    (omega (arith, nodes, same), subst (λ (x : Expr). ExWithin r b (expr_view x)) (sym c.get-in-Sub.ensures) parts.0)

pub value-integer-requires-in-Sub-2 : goal.value-integer-requires-in-Sub-2
value-integer-requires-in-Sub-2 t c =
    let r = reading_view c.args.r.now in
    let b = binders_view c.args.binders.now in
    let view = ap expr_view c.in-Sub.is ∙ expr_view-Sub c.in-Sub.a c.in-Sub.b in
    let parts = subst (ExWithin r b) view c.requires in
    let nodes = ap ex_nodes view in
    let same = ap (λ (x : Expr). ex_nodes (expr_view x)) c.get-in-Sub-2.ensures in
    (omega (arith, nodes, same), subst (λ (x : Expr). ExWithin r b (expr_view x)) (sym c.get-in-Sub-2.ensures) parts.1)

pub value-minus-requires : goal.value-minus-requires
value-minus-requires t c =
    let r = reading_view c.args.r.now in
    let b = binders_view c.args.binders.now in
    let view = ap expr_view c.in-Sub.is ∙ expr_view-Sub c.in-Sub.a c.in-Sub.b in
    let parts = subst (ExWithin r b) view c.requires in
    let left = c.in_ok-left-in-Sub.ensures ∙ ap (λ (x : Expr). number (value r b (expr_view x))) c.get-in-Sub.ensures in
    let right = c.in_ok-right-in-Sub.ensures ∙ ap (λ (x : Expr). number (value r b (expr_view x))) c.get-in-Sub-2.ensures in
    let fact : DifferenceFits c.in_ok-left-in-Sub.left c.in_ok-right-in-Sub.right = subst (λ z. DifferenceFits z c.in_ok-right-in-Sub.right) (sym left) (subst (DifferenceFits (number (value r b (expr_view c.in-Sub.a)))) (sym right) parts.2) in
    search (rules, to_z-of_z, fact)

pub value-values-requires-in-Query : goal.value-values-requires-in-Query
value-values-requires-in-Query t c =
    let r = reading_view c.args.r.now in
    let b = binders_view c.args.binders.now in
    let view = ap expr_view c.in-Query.is ∙ expr_view-Query c.in-Query.query c.in-Query.args in
    let parts = subst (ExWithin r b) view c.requires in
    let nodes = ap ex_nodes view in
    let same = ap (λ (x : List Expr). exs_nodes (exprs_view x)) c.as_slice-in-Query.ensures.items in
    (omega (arith, nodes, same), subst (λ (x : List Expr). ExsWithin r b (exprs_view x)) (sym c.as_slice-in-Query.ensures.items) parts)

pub value-value-requires-in-OriginOf : goal.value-value-requires-in-OriginOf
value-value-requires-in-OriginOf t c =
    let r = reading_view c.args.r.now in
    let b = binders_view c.args.binders.now in
    let view = ap expr_view c.in-OriginOf.is ∙ expr_view-OriginOf c.in-OriginOf.call in
    let parts = subst (ExWithin r b) view c.requires in
    let nodes = ap ex_nodes view in
    let same = ap (λ (x : Expr). ex_nodes (expr_view x)) c.get-in-OriginOf.ensures in
    (omega (arith, nodes, same), subst (λ (x : Expr). ExWithin r b (expr_view x)) (sym c.get-in-OriginOf.ensures) parts)

pub values-value-requires : goal.values-value-requires
values-value-requires t c =
    let less = ex_nodes_at c.args.exprs.now c.loop-e.e-index c.e-item.result c.loop-e-test.true c.e-item.is in
    (omega (arith, less), ex_within_at (reading_view c.args.r.now) (binders_view c.args.binders.now) c.args.exprs.now c.loop-e.e-index c.e-item.result c.requires c.loop-e-test.true c.e-item.is)

pub values-loop-e-preserved : goal.values-loop-e-preserved
values-loop-e-preserved t c =
    let as_value = λ (x : Expr). value (reading_view c.args.r.now) (binders_view c.args.binders.now) (expr_view x) in
    ap (map value_view) c.in_ok-push.ensures.ok
    ∙ value_listed as_value c.loop-e.made c.in_ok-value.field-0 c.args.exprs.now c.loop-e.e-index c.e-item.result c.loop-e-test.true c.e-item.is c.loop-e.invariant c.in_ok-value.ensures

pub values-returns : goal.values-returns
values-returns t c = all_listed (reading_view c.args.r.now) (binders_view c.args.binders.now) c.args.exprs.now c.loop-e.made c.loop-e.e-index c.loop-e-test.false c.loop-e.invariant
