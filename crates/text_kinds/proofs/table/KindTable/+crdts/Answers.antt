use Rattle.std.proofs.Common.{◌+◌, List, drop, ap, sym, ◌∙◌}
use Rattle.rp_grammar.specs.Trees.{CrdtTree, FieldTrees}
use Rattle.rp_ast.specs.declared.crdt.CrdtNode.{CrdtNode}
use Rattle.rp_ast.specs.declared.crdt.FieldNode.{FieldNode}
use Rattle.rp_ast.specs.View.{crdt_form_view, crdt_view, fields_view, type_view}
use Rattle.rp_ast.proofs.TypeViews.{crdt_form_view-MapDw, crdt_form_view-MapUw, crdt_view-parts, field_view-parts}
use Rattle.type_rules.specs.declared.kind.Kind.{Kind}
use Rattle.type_rules.specs.Names.{Names}
use Rattle.type_rules.specs.Kinds.{kind_of}
use Rattle.desugaring.specs.Appearances.{crdt_kinds, fields_kinds, parts}
use Rattle.text_names.specs.Declarations.{names_view}
use Rattle.text_names.proofs.Placed.{on_ok}
use Rattle.text_kinds.specs.Numbered.{with_kinds}
use Rattle.text_kinds.specs.Seen.{kinds_view}
use Rattle.text_kinds.proofs.Walks.{both_kinds, kinds_on, names_on, rest_is}
use Rattle.text_kinds.proofs.table.KindTable.+crdts.Goals as goal

pub add_crdt-returns-in_ok-add_written-in-MapUw : goal.add_crdt-returns-in_ok-add_written-in-MapUw
add_crdt-returns-in_ok-add_written-in-MapUw t c =
    let start = kinds_view c.args.self.now in
    let n = names_view c.args.self.now.names.now in
    let crdt = c.args.crdt.now in
    let f : Names → List Kind = λ m. parts m (kind_of m (type_view c.in-MapUw.keys)) in
    let seen = crdt_view-parts crdt
    ∙ ap (λ what. CrdtTree.node crdt.span what) (ap crdt_form_view c.in-MapUw.is ∙ crdt_form_view-MapUw c.in-MapUw.keys
    c.in-MapUw.held) in
    on_ok c.add_crdt.result
    (λ e. both_kinds start (kinds_view c.add_written-in-MapUw.new.self) (kinds_view c.add_crdt.new.self) f
    (λ m. crdt_kinds m (crdt_view c.in-MapUw.held))
    c.in_ok-add_written-in-MapUw.ensures
    (e ∙ ap (λ (held : CrdtNode). with_kinds (crdt_kinds (names_view c.add_written-in-MapUw.new.self.names.now)
    (crdt_view held)) (kinds_view c.add_written-in-MapUw.new.self)) c.get.ensures)
    ∙ ap (λ tree. with_kinds (crdt_kinds n tree) start) (sym seen))
    c.add_crdt.ensures

pub add_in_fields-loop-field-preserved : goal.add_in_fields-loop-field-preserved
add_in_fields-loop-field-preserved t c =
    let start = c.args.self.now in
    let old = c.loop-field.self in
    let n = names_view start.names.now in
    let fields = c.args.fields.now in
    let i = c.loop-field.field-index in
    let x = c.field-item.result in
    let f : Names → List Kind = λ m. crdt_kinds m (crdt_view x.crdt) in
    record {
      names = names_on (kinds_view start) (kinds_view old) (kinds_view c.add_crdt.new.self) f c.loop-field.invariant.names
          c.in_ok-add_crdt.ensures;
      comes = kinds_on (kinds_view start) (kinds_view old) (kinds_view c.add_crdt.new.self)
          (fields_kinds n (fields_view (drop i fields))) (fields_kinds n (fields_view (drop (i + 1) fields)))
          (fields_kinds n (fields_view fields)) f
          c.loop-field.invariant.names c.loop-field.invariant.comes
          (ap (λ (xs : List FieldNode). fields_kinds n (fields_view xs))
          (rest_is fields i x c.loop-field-test.true c.field-item.is)
          ∙ ap (λ tree. fields_kinds n (FieldTrees.more_fields tree (fields_view (drop (i + 1) fields)))) (field_view-parts x))
          c.in_ok-add_crdt.ensures;
    }

pub add_crdt-returns-in_ok-add_written-in-MapDw : goal.add_crdt-returns-in_ok-add_written-in-MapDw
add_crdt-returns-in_ok-add_written-in-MapDw t c =
    let start = kinds_view c.args.self.now in
    let n = names_view c.args.self.now.names.now in
    let crdt = c.args.crdt.now in
    let f : Names → List Kind = λ m. parts m (kind_of m (type_view c.in-MapDw.keys)) in
    let seen = crdt_view-parts crdt
    ∙ ap (λ what. CrdtTree.node crdt.span what) (ap crdt_form_view c.in-MapDw.is ∙ crdt_form_view-MapDw c.in-MapDw.keys
    c.in-MapDw.held) in
    on_ok c.add_crdt-in-MapDw.result
    (λ e. both_kinds start (kinds_view c.add_written-in-MapDw.new.self) (kinds_view c.add_crdt-in-MapDw.new.self) f
    (λ m. crdt_kinds m (crdt_view c.in-MapDw.held))
    c.in_ok-add_written-in-MapDw.ensures
    (e ∙ ap (λ (held : CrdtNode). with_kinds (crdt_kinds (names_view c.add_written-in-MapDw.new.self.names.now)
    (crdt_view held)) (kinds_view c.add_written-in-MapDw.new.self)) c.get-in-MapDw.ensures)
    ∙ ap (λ tree. with_kinds (crdt_kinds n tree) start) (sym seen))
    c.add_crdt-in-MapDw.ensures
