use Rattle.std.proofs.Common.{List, arith, refl, ap, sym, ◌∙◌, suc, add-one, [], ◌∷◌, ◌++◌, map}
use Rattle.rp_grammar.specs.declared.terminal.Symbol.TheVariants as symbol
use Rattle.rp_grammar.specs.Trees.{Ident, TypeTree, CrdtTree, CrdtForm, FieldTree, fields}
use Rattle.rp_grammar.specs.Parts.{join}
use Rattle.rp_ast.specs.View.{ident_view, type_view, crdt_view, field_view}
use Rattle.rp_tokens.specs.MachineStates.{want_symbol, want_crdt, more_fields}
use Rattle.rp_tokens.specs.Machine.{bounded}
use Rattle.rp_parser.specs.means.Marks.{toks}
use Rattle.rp_parser.specs.means.Starts.{crdt_next, container_form, map_form}
use Rattle.rp_parser.proofs.Rests.{within_failed, stands_failed, stands_left, stands_at, faults_from, ok_at, grown, begun}
use Rattle.rp_parser.proofs.types.+crdts.Goals as goal

pub read_crdt-returns-in_default-clause-within : goal.read_crdt-returns-in_default-clause-within
read_crdt-returns-in_default-clause-within t c = within_failed _ _ _ c.in_default.is

pub read_crdt-returns-in_default-clause-reads : goal.read_crdt-returns-in_default-clause-reads
read_crdt-returns-in_default-clause-reads t c = λ o d h k is. stands_failed _ _ _ _ _ c.in_default.is is

pub read_crdt-returns-in-Counter-clause-reads : goal.read_crdt-returns-in-Counter-clause-reads
read_crdt-returns-in-Counter-clause-reads t c = λ o d h k is.
    stands_left c.args.rest c.in-Left.marks (want_crdt d k) o c.in-Left.is is
    ∙ c.in-Ok.ensures.reads d h k
    ∙ ap (λ x. bounded 64 (crdt_next d k c.in-Ok.span x) (toks c.in-Ok.after.now)) c.in-Counter.is
    ∙ ap (λ x. bounded 64 (k x) (toks c.in-Ok.after.now)) (sym c.counter.ensures)

pub read_crdt-returns-in-Container-clause-reads : goal.read_crdt-returns-in-Container-clause-reads
read_crdt-returns-in-Container-clause-reads t c = λ o d h k is.
    let at = stands_left c.args.rest c.in-Left.marks (want_crdt d k) o c.in-Left.is is
    ∙ c.in-Ok.ensures.reads d h k
    ∙ ap (λ x. bounded 64 (crdt_next d k c.in-Ok.span x) (toks c.in-Ok.after.now)) c.in-Container.is in
    let element = c.read_element-element.result in
    let form = container_form c.in-Container.kind in
    stands_at element.2 k (CrdtTree.node element.1 (form (type_view element.0))) (crdt_view c.container.result) o (sym c.container.ensures)
    (c.read_element-element.ensures.reads o d h (λ t e. k (CrdtTree.node e (form t))) at)

pub read_crdt-returns-in-Map-clause-reads : goal.read_crdt-returns-in-Map-clause-reads
read_crdt-returns-in-Map-clause-reads t c = λ o d h k is.
    c.read_map.ensures.reads o d h k
    (stands_left c.args.rest c.in-Left.marks (want_crdt d k) o c.in-Left.is is
    ∙ c.in-Ok.ensures.reads d h k
    ∙ ap (λ x. bounded 64 (crdt_next d k c.in-Ok.span x) (toks c.in-Ok.after.now)) c.in-Map.is)

pub read_crdt-returns-in-Struct-clause-reads : goal.read_crdt-returns-in-Struct-clause-reads
read_crdt-returns-in-Struct-clause-reads t c = λ o d h k is.
    c.read_struct.ensures.reads o d h k
    (stands_left c.args.rest c.in-Left.marks (want_crdt d k) o c.in-Left.is is
    ∙ c.in-Ok.ensures.reads d h k
    ∙ ap (λ x. bounded 64 (crdt_next d k c.in-Ok.span x) (toks c.in-Ok.after.now)) c.in-Struct.is)

pub read_crdt-returns-in-Err-clause-reads : goal.read_crdt-returns-in-Err-clause-reads
read_crdt-returns-in-Err-clause-reads t c = λ o d h k is.
    faults_from _ _ _ (stands_left c.args.rest c.in-Left.marks (want_crdt d k) o c.in-Left.is is) (c.in-Err.ensures.reads d h k)

pub read_map-returns-clause-reads : goal.read_map-returns-clause-reads
read_map-returns-clause-reads t c = λ o d h k is.
    let deeper = ap suc h ∙ sym (add-one c.args.depth) in
    let form = map_form c.args.kind in
    let closed = λ (t : TypeTree) (v : CrdtTree). want_symbol symbol.CloseBracket refl d (λ e. k (CrdtTree.node (join c.args.start e) (form t v))) in
    let valued = λ (t : TypeTree). want_crdt (suc d) (closed t) in
    let key = type_view c.read_type-key.result.0 in
    let value = crdt_view c.read_crdt-value.result.0 in
    let node = CrdtTree.node c.join-span.result (form key value) in
    let close = c.symbol-3.result in
    let behind = c.symbol-3.ensures.reads o d h refl (λ e. k (CrdtTree.node (join c.args.start e) (form key value)))
    (c.read_crdt-value.ensures.reads o (suc d) deeper (closed key)
    (c.symbol-2.ensures.reads o (suc d) deeper refl (λ _. valued key)
    (c.read_type-key.ensures.reads o (suc d) deeper (λ t. want_symbol symbol.Comma refl (suc d) (λ _. valued t))
    (c.symbol.ensures.reads o d h refl _ is)))) in
    c.made.ensures.reads o (λ x. k (crdt_view x)) (k node) (ok_at _ crdt_view node k c.map_type-node.ensures)
    (stands_at close.1 (λ v. k (CrdtTree.node v (form key value))) (join c.args.start close.0) c.join-span.result o (sym c.join-span.ensures) behind)

pub read_struct-returns-clause-reads : goal.read_struct-returns-clause-reads
read_struct-returns-clause-reads t c = λ o d h k is.
    let deeper = ap suc h ∙ sym (add-one c.args.depth) in
    let closed = λ (xs : List FieldTree). want_symbol symbol.CloseBrace refl d (λ v. k (CrdtTree.node (join c.args.start v) (CrdtForm.struct (fields xs)))) in
    let xs = map field_view c.read_fields-fields.result.0 in
    let close = c.symbol.result in
    stands_at close.1 k (CrdtTree.node (join c.args.start close.0) (CrdtForm.struct (fields xs))) (crdt_view c.struct_.result) o
    (ap (λ v. CrdtTree.node v (CrdtForm.struct (fields xs))) (sym c.join-span.ensures) ∙ sym c.struct_.ensures)
    (c.symbol.ensures.reads o d h refl (λ v. k (CrdtTree.node (join c.args.start v) (CrdtForm.struct (fields xs))))
    (c.read_fields-fields.ensures.reads o (suc d) deeper closed is))

pub read_fields-fields-init : goal.read_fields-fields-init
read_fields-fields-init t c = record {
  within = c.pushed-rest.ensures.within c.args.depth c.read_field-first.ensures.within;
  no_longer = omega (arith, c.pushed-rest.ensures.no_longer, c.read_field-first.ensures.no_longer);
  reads = λ o d h k is.
      let f = c.read_field-first.result.0 in
      begun _ _ field_view (λ fs. more_fields d fs k) c.pushed-rest.new.list c.new-fields.result f o c.new-fields.ensures c.pushed-rest.ensures.pushes
      (c.pushed-rest.ensures.reads o _ (c.read_field-first.ensures.reads o d h (λ f. more_fields d (f ∷ []) k) is));
}

pub read_fields-fields-preserved : goal.read_fields-fields-preserved
read_fields-fields-preserved t c =
    let fs = map field_view c.fields.fields in
    let f = c.read_field-field.result.0 in
    record {
      within = c.pushed-rest-in-fields.ensures.within c.args.depth c.read_field-field.ensures.within;
      no_longer = omega (arith, c.pushed-rest-in-fields.ensures.no_longer, c.read_field-field.ensures.no_longer, c.in-Some.ensures.shorter, c.fields.invariant.no_longer);
      reads = λ o d h k is.
          grown _ _ field_view (λ fs. more_fields d fs k) c.pushed-rest-in-fields.new.list c.fields.fields f o c.pushed-rest-in-fields.ensures.pushes
          (c.pushed-rest-in-fields.ensures.reads o _ (c.read_field-field.ensures.reads o d h (λ f. more_fields d (fs ++ f ∷ []) k) (c.in-Some.ensures.fields o d h fs k (c.fields.invariant.reads o d h k is))));
    }

pub read_fields-returns-in_default-clause-reads : goal.read_fields-returns-in_default-clause-reads
read_fields-returns-in_default-clause-reads t c = λ o d h k is. c.in_default.ensures.fields o d h (map field_view c.fields.fields) k (c.fields.invariant.reads o d h k is)

pub read_field-returns-clause-reads : goal.read_field-returns-clause-reads
read_field-returns-clause-reads t c = λ o d h k is.
    let parted = λ (n : Ident). want_crdt d (λ x. k (FieldTree.field n x)) in
    let n = ident_view c.name-name.result.0 in
    stands_at c.read_crdt-part.result.1 k (FieldTree.field n (crdt_view c.read_crdt-part.result.0)) (field_view c.field.result) o (sym c.field.ensures)
    (c.read_crdt-part.ensures.reads o d h (λ x. k (FieldTree.field n x))
    (c.symbol.ensures.reads o d h refl (λ _. parted n) (c.name-name.ensures.reads o d h (λ n. want_symbol symbol.Colon refl d (λ _. parted n)) is)))
