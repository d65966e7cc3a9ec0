use Rattle.std.proofs.Common.{◌≡◌, ◌+◌, ◌++◌, ◌∷◌, [], List, drop, sym, ap, subst, ◌∙◌}
use Rattle.rp_grammar.specs.Trees.{FieldTree, FieldTrees}
use Rattle.std.specs.Prelude.{OnOk}
use Rattle.rp_ast.specs.declared.crdt.CrdtNode.{CrdtNode}
use Rattle.rp_ast.specs.declared.crdt.FieldNode.{FieldNode}
use Rattle.rp_ast.specs.View.{crdt_form_view, crdt_view, fields_view, ident_view, type_view}
use Rattle.rp_ast.proofs.TypeViews.{crdt_form_view-Counter, crdt_form_view-MapDw, crdt_form_view-MapUw, crdt_form_view-MvReg, crdt_form_view-Reg, crdt_form_view-SetAw, crdt_form_view-SetRw, crdt_form_view-Struct, crdt_view-parts, field_view-parts}
use Rattle.type_rules.specs.Kinds.{kind_of}
use Rattle.type_rules.specs.Paths.{form_of, members_of}
use Rattle.desugaring.specs.Objects.{field, key}
use Rattle.text_kinds.proofs.Walks.{rest_is}
use Rattle.text_names.proofs.Entries.{drop_past}
use Rattle.text_names.proofs.Placed.{on_ok}
use Rattle.text_tables.specs.Seen.{tables_view}
use Rattle.text_tables.specs.means.Rooted.{DeclaresFields, DeclaresInside, DeclaresOn, DeclaresOwn}
use Rattle.text_tables.proofs.RootsLaw.{declares_none, fields_step, on_step}
use Rattle.text_tables.proofs.members.Members.+members.Goals as goal

pub add_fields-loop-field-preserved : goal.add_fields-loop-field-preserved
add_fields-loop-field-preserved t c = λ path new at adds.
    let tables = tables_view c.args.tables.now in
    let root = c.args.spot.now.root in
    let fields = c.args.fields.now in
    let i = c.loop-field.field-index in
    let k = c.loop-field.number in
    let x = c.field-item.result in
    let now = c.loop-field.self in
    let mid = c.add_crdt.new.self in
    let rest : FieldTrees = fields_view (drop (i + 1) fields) in
    let parts : fields_view (drop i fields) ≡ FieldTrees.more_fields (FieldTree.field (ident_view x.name) (crdt_view x.crdt)) rest =
    ap (λ (xs : List FieldNode). fields_view xs) (rest_is fields i x c.loop-field-test.true c.field-item.is)
    ∙ ap (λ tree. FieldTrees.more_fields tree rest) (field_view-parts x) in
    let one : DeclaresOn tables root (path ++ field k ∷ []) (crdt_view x.crdt) now mid =
    subst (λ r. DeclaresOn tables r (path ++ field k ∷ []) (crdt_view x.crdt) now mid) c.in_ok-inner.ensures.root
    (c.in_ok-add_crdt.ensures (path ++ field k ∷ []) (c.in_ok-inner.ensures.at tables path at)) in
    let others = subst (λ n. DeclaresFields tables root path n rest mid new) c.in_ok-number.ensures adds in
    c.loop-field.invariant path new at
    (subst (λ tree. DeclaresFields tables root path k tree now new) (sym parts)
    (fields_step tables root path k (ident_view x.name) (crdt_view x.crdt) rest now mid new one others))

pub add_fields-returns : goal.add_fields-returns
add_fields-returns t c = λ path at.
    let tables = tables_view c.args.tables.now in
    let fields = c.args.fields.now in
    let now = c.loop-field.self in
    c.loop-field.invariant path now at
    (subst (λ (xs : List FieldNode). DeclaresFields tables c.args.spot.now.root path c.loop-field.number (fields_view xs) now now)
    (sym (drop_past fields c.loop-field.field-index c.loop-field-test.false)) (declares_none tables now))

pub add_crdt-returns : goal.add_crdt-returns
add_crdt-returns t c = λ path at.
    let tables = tables_view c.args.tables.now in
    let root = c.args.spot.now.root in
    let crdt = c.args.crdt.now in
    let old = c.args.self.now in
    let mid = c.add_own.new.self in
    let new = c.add_inside.new.self in
    on_ok c.add_inside.result
    (λ adds.
    subst (λ tree. DeclaresOn tables root path tree old new) (sym (crdt_view-parts crdt))
    (on_step tables root path crdt.span (crdt_form_view crdt.what) old mid new
    (subst (λ tree. DeclaresOwn tables root path (members_of tables.names (form_of tree)) old mid) (crdt_view-parts crdt)
    (c.in_ok-add_own.ensures path at)) adds))
    (c.add_inside.ensures path at)

pub add_inside-returns-in_ok-inner-in-MapUw : goal.add_inside-returns-in_ok-inner-in-MapUw
add_inside-returns-in_ok-inner-in-MapUw t c = λ path at.
    let tables = tables_view c.args.tables.now in
    let root = c.args.spot.now.root in
    let old = c.args.self.now in
    let new = c.add_crdt.new.self in
    let inner = c.in_ok-inner-in-MapUw in
    let seen = ap crdt_form_view c.in-MapUw.is ∙ crdt_form_view-MapUw c.in-MapUw.keys c.in-MapUw.held in
    let way = path ++ key (kind_of tables.names (type_view c.in-MapUw.keys)) ∷ [] in
    subst (λ f. OnOk c.add_crdt.result (DeclaresInside tables root path f old new)) (sym seen)
    (subst (λ (h : CrdtNode). OnOk c.add_crdt.result (DeclaresOn tables root way (crdt_view h) old new)) c.get.ensures
    (subst (λ r. OnOk c.add_crdt.result (DeclaresOn tables r way (crdt_view c.get.result.now) old new)) inner.ensures.root
    (c.add_crdt.ensures way (inner.ensures.at path at))))

pub add_inside-returns-in_ok-inner-in-MapDw : goal.add_inside-returns-in_ok-inner-in-MapDw
add_inside-returns-in_ok-inner-in-MapDw t c = λ path at.
    let tables = tables_view c.args.tables.now in
    let root = c.args.spot.now.root in
    let old = c.args.self.now in
    let new = c.add_crdt-in-MapDw.new.self in
    let inner = c.in_ok-inner-in-MapDw in
    let seen = ap crdt_form_view c.in-MapDw.is ∙ crdt_form_view-MapDw c.in-MapDw.keys c.in-MapDw.held in
    let way = path ++ key (kind_of tables.names (type_view c.in-MapDw.keys)) ∷ [] in
    subst (λ f. OnOk c.add_crdt-in-MapDw.result (DeclaresInside tables root path f old new)) (sym seen)
    (subst (λ (h : CrdtNode). OnOk c.add_crdt-in-MapDw.result (DeclaresOn tables root way (crdt_view h) old new)) c.get-in-MapDw.ensures
    (subst (λ r. OnOk c.add_crdt-in-MapDw.result (DeclaresOn tables r way (crdt_view c.get-in-MapDw.result.now) old new)) inner.ensures.root
    (c.add_crdt-in-MapDw.ensures way (inner.ensures.at path at))))

pub add_inside-returns-in-Struct : goal.add_inside-returns-in-Struct
add_inside-returns-in-Struct t c = λ path at.
    let tables = tables_view c.args.tables.now in
    let root = c.args.spot.now.root in
    let old = c.args.self.now in
    let new = c.add_fields.new.self in
    let seen = ap crdt_form_view c.in-Struct.is ∙ crdt_form_view-Struct c.in-Struct.fields in
    subst (λ f. OnOk c.add_fields.result (DeclaresInside tables root path f old new)) (sym seen)
    (subst (λ (fs : List FieldNode). OnOk c.add_fields.result (DeclaresFields tables root path 0 (fields_view fs) old new)) c.as_slice.ensures.items
    (c.add_fields.ensures path at))

pub add_inside-returns-in-SetAw : goal.add_inside-returns-in-SetAw
add_inside-returns-in-SetAw t c = λ path at.
    let tables = tables_view c.args.tables.now in
    subst (λ f. DeclaresInside tables c.args.spot.now.root path f c.args.self.now c.args.self.now) (sym (ap crdt_form_view c.in-SetAw.is ∙ crdt_form_view-SetAw c.in-SetAw.field-0))
    (declares_none tables c.args.self.now)

pub add_inside-returns-in-SetRw : goal.add_inside-returns-in-SetRw
add_inside-returns-in-SetRw t c = λ path at.
    let tables = tables_view c.args.tables.now in
    subst (λ f. DeclaresInside tables c.args.spot.now.root path f c.args.self.now c.args.self.now) (sym (ap crdt_form_view c.in-SetRw.is ∙ crdt_form_view-SetRw c.in-SetRw.field-0))
    (declares_none tables c.args.self.now)

pub add_inside-returns-in-Reg : goal.add_inside-returns-in-Reg
add_inside-returns-in-Reg t c = λ path at.
    let tables = tables_view c.args.tables.now in
    subst (λ f. DeclaresInside tables c.args.spot.now.root path f c.args.self.now c.args.self.now) (sym (ap crdt_form_view c.in-Reg.is ∙ crdt_form_view-Reg c.in-Reg.field-0))
    (declares_none tables c.args.self.now)

pub add_inside-returns-in-MvReg : goal.add_inside-returns-in-MvReg
add_inside-returns-in-MvReg t c = λ path at.
    let tables = tables_view c.args.tables.now in
    subst (λ f. DeclaresInside tables c.args.spot.now.root path f c.args.self.now c.args.self.now) (sym (ap crdt_form_view c.in-MvReg.is ∙ crdt_form_view-MvReg c.in-MvReg.field-0))
    (declares_none tables c.args.self.now)

pub add_inside-returns-in-Counter : goal.add_inside-returns-in-Counter
add_inside-returns-in-Counter t c = λ path at.
    let tables = tables_view c.args.tables.now in
    subst (λ f. DeclaresInside tables c.args.spot.now.root path f c.args.self.now c.args.self.now) (sym (ap crdt_form_view c.in-Counter.is ∙ crdt_form_view-Counter))
    (declares_none tables c.args.self.now)
