use Rattle.std.proofs.Common.{Some, ap, sym, ◌∙◌, subst}
use Rattle.rp_grammar.specs.Trees.{CrdtTree}
use Rattle.rp_ast.specs.View.{crdt_view, crdt_form_view, type_view}
use Rattle.rp_ast.proofs.TypeViews.{crdt_view-parts, crdt_form_view-MapUw, crdt_form_view-MapDw}
use Rattle.text_names.specs.Parts.{IsPlaced, trees_of}
use Rattle.text_names.specs.declared.parts.Inside.TheVariants as inside
use Rattle.text_names.proofs.Placed.{field_next, held_uw, held_dw, longer, longer_both, on_ok}
use Rattle.text_names.proofs.parts.Parts.+parts.Goals as goal

pub add-returns-clause-keeps : goal.add-returns-clause-keeps
add-returns-clause-keeps t c =
    on_ok c.put.result
    (λ e. longer (trees_of c.args.self.now.items) _ (trees_of c.put.new.self.items) _ c.in_ok-inside.ensures.keeps e)
    c.put.ensures.keeps

pub add_inside-returns-in_ok-add-in-MapUw-clause-placed : goal.add_inside-returns-in_ok-add-in-MapUw-clause-placed
add_inside-returns-in_ok-add-in-MapUw-clause-placed t c =
    let crdt = c.args.crdt.now in
    let trees = trees_of c.add.new.self.items in
    let keys = c.in-MapUw.field-0 in
    let place = c.in_ok-add-in-MapUw.field-0 in
    let seen = crdt_view-parts crdt
    ∙ ap (λ what. CrdtTree.node crdt.span what) (ap crdt_form_view c.in-MapUw.is ∙ crdt_form_view-MapUw keys c.in-MapUw.held) in
    let there = c.in_ok-add-in-MapUw.ensures.placed ∙ ap (λ held. Some (crdt_view held)) c.get.ensures in
    subst (λ tree. IsPlaced trees tree (inside.Held place)) (sym seen)
    (held_uw trees crdt.span (type_view keys) (crdt_view c.in-MapUw.held) place there)

pub add_inside-returns-in_ok-add-in-MapDw-clause-placed : goal.add_inside-returns-in_ok-add-in-MapDw-clause-placed
add_inside-returns-in_ok-add-in-MapDw-clause-placed t c =
    let crdt = c.args.crdt.now in
    let trees = trees_of c.add-in-MapDw.new.self.items in
    let keys = c.in-MapDw.field-0 in
    let place = c.in_ok-add-in-MapDw.field-0 in
    let seen = crdt_view-parts crdt
    ∙ ap (λ what. CrdtTree.node crdt.span what) (ap crdt_form_view c.in-MapDw.is ∙ crdt_form_view-MapDw keys c.in-MapDw.held) in
    let there = c.in_ok-add-in-MapDw.ensures.placed ∙ ap (λ held. Some (crdt_view held)) c.get-in-MapDw.ensures in
    subst (λ tree. IsPlaced trees tree (inside.Held place)) (sym seen)
    (held_dw trees crdt.span (type_view keys) (crdt_view c.in-MapDw.held) place there)

pub add_fields-loop-field-preserved : goal.add_fields-loop-field-preserved
add_fields-loop-field-preserved t c =
    let before = trees_of c.loop-field.self.items in
    let after = trees_of c.add.new.self.items in
    record {
      found = field_next before after c.args.fields.now c.loop-field.field-index c.field-item.result c.loop-field.places
          c.add-in-loop-field.new.self c.as_slice.result.now c.in_ok-place.place c.loop-field.invariant.found c.in_ok-place.ensures.keeps
          c.loop-field-test.true c.field-item.is c.in_ok-place.ensures.placed c.as_slice.ensures.items c.in_ok-add.ensures.ok;
      keeps = longer_both (trees_of c.args.self.now.items) before after c.loop-field.invariant.keeps c.in_ok-place.ensures.keeps;
    }
