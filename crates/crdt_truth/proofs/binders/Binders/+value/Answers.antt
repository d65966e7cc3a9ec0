use Rattle.std.proofs.Common.{◌≡◌, slice_get, ap, sym, subst, ◌∙◌, arith}
use Rattle.std.specs.Prelude.{IfOk}
use Rattle.rp_value.specs.ValueView.{value_view}
use Rattle.crdt_defs.specs.Truths.{or_false}
use Rattle.crdt_truth.specs.Open.{binders_view}
use Rattle.crdt_truth.proofs.OpenViews.{binders_view-Fields, from_fields, past_fields}
use Rattle.crdt_truth.proofs.binders.Binders.+value.Goals as goal

pub returns-then-n-fields : goal.returns-then-n-fields
returns-then-n-fields t c =
    let view = ap binders_view c.in-Fields.is ∙ binders_view-Fields c.in-Fields.fields c.in-Fields.outer in
    let found = from_fields c.in-Fields.fields.now (binders_view c.in-Fields.outer.now) c.args.n c.from_end.result (omega arith) c.from_end.ensures in
    subst (λ bs. IfOk c.from_end.result (λ v. value_view v ≡ or_false (slice_get bs c.args.n))) (sym view) found

pub returns-else-n-fields : goal.returns-else-n-fields
returns-else-n-fields t c =
    let view = ap binders_view c.in-Fields.is ∙ binders_view-Fields c.in-Fields.fields c.in-Fields.outer in
    let past = past_fields c.in-Fields.fields.now (binders_view c.in-Fields.outer.now) c.args.n (omega arith) in
    let found = subst (λ o. IfOk c.value-else-n-fields.result (λ v. value_view v ≡ or_false o)) (sym past) c.value-else-n-fields.ensures in
    subst (λ bs. IfOk c.value-else-n-fields.result (λ v. value_view v ≡ or_false (slice_get bs c.args.n))) (sym view) found
