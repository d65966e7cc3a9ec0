use Rattle.std.proofs.Common.{◌≡◌, ◌+◌, List, drop, refl, sym, ap, subst, ◌∙◌}
use Rattle.rp_grammar.specs.Trees.{CrdtForm, FieldTree, FieldTrees}
use Rattle.rp_ast.specs.declared.crdt.CrdtNode.{CrdtNode}
use Rattle.rp_ast.specs.declared.crdt.FieldNode.{FieldNode}
use Rattle.rp_ast.specs.View.{crdt_form_view, crdt_view, fields_view, ident_view, type_view}
use Rattle.rp_ast.proofs.TypeViews.{crdt_form_view-Counter, crdt_form_view-MapDw, crdt_form_view-MapUw, crdt_form_view-MvReg, crdt_form_view-Reg, crdt_form_view-SetAw, crdt_form_view-SetRw, crdt_form_view-Struct, crdt_view-parts, field_view-parts}
use Rattle.text_kinds.proofs.Walks.{rest_is}
use Rattle.text_names.proofs.Entries.{drop_past}
use Rattle.text_names.proofs.Placed.{on_ok}
use Rattle.text_tables.specs.means.Walked.{AddsFields, AddsInside, AddsOn}
use Rattle.text_tables.proofs.Adding.{adds_none, adds_with, fields_step, on_step}
use Rattle.text_tables.proofs.object.ObjectTable.+objects.Goals as goal

pub add_fields-loop-field-preserved : goal.add_fields-loop-field-preserved
add_fields-loop-field-preserved t c = λ new adds.
    let fields = c.args.fields.now in
    let i = c.loop-field.field-index in
    let x = c.field-item.result in
    let now = c.loop-field.self in
    let rest : FieldTrees = fields_view (drop (i + 1) fields) in
    let parts : fields_view (drop i fields) ≡ FieldTrees.more_fields (FieldTree.field (ident_view x.name) (crdt_view x.crdt)) rest =
    ap (λ (xs : List FieldNode). fields_view xs) (rest_is fields i x c.loop-field-test.true c.field-item.is)
    ∙ ap (λ tree. FieldTrees.more_fields tree rest) (field_view-parts x) in
    c.loop-field.invariant new
    (subst (λ tree. AddsFields now tree new) (sym parts)
    (fields_step now c.add_crdt.new.self new (ident_view x.name) (crdt_view x.crdt) rest c.in_ok-add_crdt.ensures adds))

pub add_fields-returns : goal.add_fields-returns
add_fields-returns t c =
    let fields = c.args.fields.now in
    let now = c.loop-field.self in
    c.loop-field.invariant now
    (subst (λ (xs : List FieldNode). AddsFields now (fields_view xs) now)
    (sym (drop_past fields c.loop-field.field-index c.loop-field-test.false)) (adds_none now))

pub add_crdt-returns : goal.add_crdt-returns
add_crdt-returns t c =
    let crdt = c.args.crdt.now in
    let old = c.args.self.now in
    let mid = c.add_object.new.self in
    let new = c.add_inside.new.self in
    on_ok c.add_inside.result
    (λ adds.
    subst (λ tree. AddsOn old tree new) (sym (crdt_view-parts crdt))
    (on_step old mid new crdt.span (crdt_form_view crdt.what)
    (adds_with old mid _ _ _ _ _ _ c.in_ok-add_object.ensures refl c.own_ops.ensures c.own_queries.ensures) adds))
    c.add_inside.ensures

pub add_inside-returns-in-MapUw : goal.add_inside-returns-in-MapUw
add_inside-returns-in-MapUw t c =
    let old = c.args.self.now in
    let new = c.add_crdt.new.self in
    let seen : crdt_form_view c.args.form.now ≡ CrdtForm.map_uw (type_view c.in-MapUw.field-0) (crdt_view c.in-MapUw.held) =
    ap crdt_form_view c.in-MapUw.is ∙ crdt_form_view-MapUw c.in-MapUw.field-0 c.in-MapUw.held in
    on_ok c.add_crdt.result
    (λ adds. subst (λ f. AddsInside old f new) (sym seen) (subst (λ (h : CrdtNode). AddsOn old (crdt_view h) new) c.get.ensures adds))
    c.add_crdt.ensures

pub add_inside-returns-in-MapDw : goal.add_inside-returns-in-MapDw
add_inside-returns-in-MapDw t c =
    let old = c.args.self.now in
    let new = c.add_crdt-in-MapDw.new.self in
    let seen : crdt_form_view c.args.form.now ≡ CrdtForm.map_dw (type_view c.in-MapDw.field-0) (crdt_view c.in-MapDw.held) =
    ap crdt_form_view c.in-MapDw.is ∙ crdt_form_view-MapDw c.in-MapDw.field-0 c.in-MapDw.held in
    on_ok c.add_crdt-in-MapDw.result
    (λ adds. subst (λ f. AddsInside old f new) (sym seen) (subst (λ (h : CrdtNode). AddsOn old (crdt_view h) new) c.get-in-MapDw.ensures adds))
    c.add_crdt-in-MapDw.ensures

pub add_inside-returns-in-Struct : goal.add_inside-returns-in-Struct
add_inside-returns-in-Struct t c =
    let old = c.args.self.now in
    let new = c.add_fields.new.self in
    let seen : crdt_form_view c.args.form.now ≡ CrdtForm.struct (fields_view c.in-Struct.fields) =
    ap crdt_form_view c.in-Struct.is ∙ crdt_form_view-Struct c.in-Struct.fields in
    on_ok c.add_fields.result
    (λ adds. subst (λ f. AddsInside old f new) (sym seen) (subst (λ (fs : List FieldNode). AddsFields old (fields_view fs) new) c.as_slice.ensures.items adds))
    c.add_fields.ensures

pub add_inside-returns-in-SetAw : goal.add_inside-returns-in-SetAw
add_inside-returns-in-SetAw t c =
    subst (λ f. AddsInside c.args.self.now f c.args.self.now) (sym (ap crdt_form_view c.in-SetAw.is ∙ crdt_form_view-SetAw c.in-SetAw.field-0)) (adds_none c.args.self.now)

pub add_inside-returns-in-SetRw : goal.add_inside-returns-in-SetRw
add_inside-returns-in-SetRw t c =
    subst (λ f. AddsInside c.args.self.now f c.args.self.now) (sym (ap crdt_form_view c.in-SetRw.is ∙ crdt_form_view-SetRw c.in-SetRw.field-0)) (adds_none c.args.self.now)

pub add_inside-returns-in-Reg : goal.add_inside-returns-in-Reg
add_inside-returns-in-Reg t c =
    subst (λ f. AddsInside c.args.self.now f c.args.self.now) (sym (ap crdt_form_view c.in-Reg.is ∙ crdt_form_view-Reg c.in-Reg.field-0)) (adds_none c.args.self.now)

pub add_inside-returns-in-MvReg : goal.add_inside-returns-in-MvReg
add_inside-returns-in-MvReg t c =
    subst (λ f. AddsInside c.args.self.now f c.args.self.now) (sym (ap crdt_form_view c.in-MvReg.is ∙ crdt_form_view-MvReg c.in-MvReg.field-0)) (adds_none c.args.self.now)

pub add_inside-returns-in-Counter : goal.add_inside-returns-in-Counter
add_inside-returns-in-Counter t c =
    subst (λ f. AddsInside c.args.self.now f c.args.self.now) (sym (ap crdt_form_view c.in-Counter.is ∙ crdt_form_view-Counter)) (adds_none c.args.self.now)
