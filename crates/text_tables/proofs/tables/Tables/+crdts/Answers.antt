use Rattle.std.proofs.Common.{◌≡◌, ◌+◌, List, Some, drop, map, sym, ap, ◌∙◌}
use Rattle.std.specs.Option.{option_map}
use Rattle.rp_grammar.specs.Trees.{FieldTree, FieldTrees}
use Rattle.rp_ast.specs.declared.crdt.FieldNode.{FieldNode}
use Rattle.rp_ast.specs.View.{crdt_view, fields_view, ident_view}
use Rattle.rp_ast.proofs.TypeViews.{field_view-parts}
use Rattle.rp_lang.specs.Crdts.{also_field}
use Rattle.rp_lang.specs.Views.{FieldView, crdt_field_view}
use Rattle.rp_lang.specs.Views as made
use Rattle.rp_lang.specs.declared.crdt.Field.{Field}
use Rattle.desugaring.specs.Parts.{both}
use Rattle.desugaring.specs.Tables.{cr_of, fields_cr}
use Rattle.text_kinds.proofs.Walks.{rest_is}
use Rattle.text_names.proofs.Entries.{drop_past}
use Rattle.text_tables.specs.Seen.{tables_view}
use Rattle.text_tables.specs.means.Rooted.{behind_fields}
use Rattle.text_tables.proofs.RootsLaw.{field_pushed, fields_all, fields_more}
use Rattle.text_tables.proofs.tables.Tables.+crdts.Goals as goal

pub fields-loop-field-preserved : goal.fields-loop-field-preserved
fields-loop-field-preserved t c =
    let tables = tables_view c.args.self.now in
    let fields = c.args.fields.now in
    let i = c.loop-field.field-index in
    let x = c.field-item.result in
    let now = c.loop-field.made in
    let one : Field = record { name = c.in_ok-name.name; crdt = c.in_ok-crdt.crdt } in
    let seen : List FieldView = map crdt_field_view now in
    let rest : FieldTrees = fields_view (drop (i + 1) fields) in
    let tree = crdt_view x.crdt in
    let parts : fields_view (drop i fields) ≡ FieldTrees.more_fields (FieldTree.field (ident_view x.name) tree) rest =
    ap (λ (xs : List FieldNode). fields_view xs) (rest_is fields i x c.loop-field-test.true c.field-item.is)
    ∙ ap (λ tree. FieldTrees.more_fields tree rest) (field_view-parts x) in
    ap (λ (fs : List Field). option_map (behind_fields (map crdt_field_view fs)) (fields_cr tables rest)) c.in_ok-push.ensures.ok
    ∙ ap (λ fs. option_map (behind_fields fs) (fields_cr tables rest)) (field_pushed now one)
    ∙ fields_more seen (one.name, made.crdt_view one.crdt) (fields_cr tables rest) (cr_of tables tree) c.in_ok-crdt.ensures
    ∙ ap (λ name. option_map (behind_fields seen) (both (also_field name) (cr_of tables tree) (fields_cr tables rest))) (c.in_ok-name.ensures ∙ c.as_slice.ensures.items)
    ∙ sym (ap (λ tree. option_map (behind_fields seen) (fields_cr tables tree)) parts)
    ∙ c.loop-field.invariant

pub fields-returns : goal.fields-returns
fields-returns t c =
    let tables = tables_view c.args.self.now in
    let fields = c.args.fields.now in
    let seen : List FieldView = map crdt_field_view c.loop-field.made in
    sym c.loop-field.invariant
    ∙ ap (λ (xs : List FieldNode). option_map (behind_fields seen) (fields_cr tables (fields_view xs))) (drop_past fields c.loop-field.field-index c.loop-field-test.false)
    ∙ ap Some (fields_all seen)
