use Rattle.std.proofs.Common.{◌≡◌, ◌+◌, List, Some, drop, min, sym, ap, ◌∙◌}
use Rattle.std.specs.Option.{option_and_then}
use Rattle.rp_ast.specs.declared.ty.Param.{Param}
use Rattle.rp_ast.specs.View.{params_view, type_view}
use Rattle.type_rules.specs.declared.kind.Kind.{Kind}
use Rattle.type_rules.specs.Kinds.{kind_of, param_kinds}
use Rattle.text_kinds.proofs.Walks.{rest_is}
use Rattle.text_names.proofs.Entries.{drop_past}
use Rattle.text_tables.specs.Seen.{tables_view}
use Rattle.text_tables.specs.means.Limited.{parts_told, sum_told}
use Rattle.text_tables.proofs.tables.Tables.with_field_parts.Goals as goal

pub loop-field-preserved : goal.loop-field-preserved
loop-field-preserved c =
    let t = tables_view c.args.self.now in
    let rows = c.args.before.now in
    let fields = c.args.fields.now in
    let i = c.loop-field.field-index in
    let x = c.field-item.result in
    let now = c.loop-field.sum in
    let ks : List Param → List Kind = λ xs. param_kinds t.names (params_view xs) in
    let rest = ks (drop (i + 1) fields) in
    let told : parts_told t rows (kind_of t.names (type_view x.ty)) ≡ Some c.in_ok-more.more =
    ap (parts_told t rows) (sym (c.in_ok-kind.ensures ∙ ap (λ n. kind_of n (type_view x.ty)) c.names.ensures)) ∙ c.in_ok-more.ensures in
    ap (λ s. sum_told t rows s rest) c.plus-sum.ensures
    ∙ sym (ap (option_and_then (λ p. sum_told t rows (min (now + p) 1001) rest)) told)
    ∙ sym (ap (λ (xs : List Param). sum_told t rows now (ks xs)) (rest_is fields i x c.loop-field-test.true c.field-item.is))
    ∙ c.loop-field.invariant

pub returns : goal.returns
returns c =
    let t = tables_view c.args.self.now in
    let rows = c.args.before.now in
    let fields = c.args.fields.now in
    let i = c.loop-field.field-index in
    sym c.loop-field.invariant
    ∙ ap (λ (xs : List Param). sum_told t rows c.loop-field.sum (param_kinds t.names (params_view xs))) (drop_past fields i c.loop-field-test.false)
