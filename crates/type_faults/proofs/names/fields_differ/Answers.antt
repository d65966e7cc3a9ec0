use Rattle.std.proofs.Common.{[], ◌+◌, drop, ap, ◌∙◌, subst}
use Rattle.rp_grammar.specs.Trees.{FieldTrees}
use Rattle.rp_ast.specs.View.{fields_view}
use Rattle.rp_ast.proofs.TypeViews.{field_view-parts}
use Rattle.type_rules.specs.DeclSites.{field_names}
use Rattle.text_names.proofs.Entries.{drop_past}
use Rattle.type_faults.proofs.Lists.{next_in, no_names}
use Rattle.type_faults.proofs.Named.{NamedSo, named_ended, named_next, named_started}
use Rattle.type_faults.proofs.names.fields_differ.Goals as goal

pub loop-field-init : goal.loop-field-init
loop-field-init c = λ n. named_started (no_names c.new-before.ensures)

pub loop-field-preserved : goal.loop-field-preserved
loop-field-preserved c = λ n.
    let fields = c.args.fields.now in
    let i = c.loop-field.field-index in
    let field = c.field-item.result in
    let rest = fields_view (drop (i + 1) fields) in
    let now = subst (λ l. NamedSo n c.loop-field.before c.loop-field.best [] l (field_names (fields_view fields)))
    (next_in (λ l. field_names (fields_view l)) fields i field c.loop-field-test.true c.field-item.is
    ∙ ap (λ f. field_names (FieldTrees.more_fields f rest)) (field_view-parts field))
    (c.loop-field.invariant n) in
    named_next now (c.in_ok-name_fault.ensures n now.now now.table_is) c.sooner-best.ensures

pub returns : goal.returns
returns c = λ n.
    let fields = c.args.fields.now in
    let end = named_ended
    (subst (λ l. NamedSo n c.loop-field.before c.loop-field.best [] l (field_names (fields_view fields)))
    (ap (λ l. field_names (fields_view l)) (drop_past fields c.loop-field.field-index c.loop-field-test.false)) (c.loop-field.invariant n)) in
    end.fault_is
