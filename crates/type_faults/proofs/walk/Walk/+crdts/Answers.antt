use Rattle.std.proofs.Common.{[], ◌+◌, refl, sym, ap, ap₂, ◌∙◌, drop}
use Rattle.rp_grammar.specs.Trees.{FieldTrees}
use Rattle.rp_ast.specs.View.{crdt_view, crdt_form_view, fields_view, type_view}
use Rattle.rp_ast.proofs.TypeViews.{crdt_form_view-SetAw, crdt_form_view-SetRw, crdt_form_view-Reg, crdt_form_view-MvReg, crdt_form_view-Counter, crdt_form_view-MapUw, crdt_form_view-MapDw, crdt_form_view-Struct, field_view-parts}
use Rattle.type_rules.specs.DeclSites.{crdt_sites, field_names, fields_sites, named_all}
use Rattle.type_rules.specs.Faults.{first, sooner}
use Rattle.type_rules.proofs.Order.{first_append}
use Rattle.text_names.proofs.Entries.{drop_past, if_ok}
use Rattle.type_faults.specs.Walks.{names_at}
use Rattle.type_faults.proofs.Lists.{next_in}
use Rattle.type_faults.proofs.Named.{best_ended, best_next, crdt_form_is, one_written}
use Rattle.type_faults.proofs.walk.Walk.+crdts.Goals as goal

pub crdt-returns-in-SetAw : goal.crdt-returns-in-SetAw
crdt-returns-in-SetAw t c =
    let w = c.args.self.now in
    if_ok c.judge_written.result
    (λ f e. e ∙ one_written (names_at w) w.decl (type_view c.in-SetAw.ty)
    ∙ sym (crdt_form_is (names_at w) w.decl c.args.crdt.now (ap crdt_form_view c.in-SetAw.is ∙ crdt_form_view-SetAw c.in-SetAw.ty)))
    c.judge_written.ensures

pub crdt-returns-in-SetRw : goal.crdt-returns-in-SetRw
crdt-returns-in-SetRw t c =
    let w = c.args.self.now in
    if_ok c.judge_written-in-SetRw.result
    (λ f e. e ∙ one_written (names_at w) w.decl (type_view c.in-SetRw.ty)
    ∙ sym (crdt_form_is (names_at w) w.decl c.args.crdt.now (ap crdt_form_view c.in-SetRw.is ∙ crdt_form_view-SetRw c.in-SetRw.ty)))
    c.judge_written-in-SetRw.ensures

pub crdt-returns-in-Reg : goal.crdt-returns-in-Reg
crdt-returns-in-Reg t c =
    let w = c.args.self.now in
    if_ok c.judge_written-in-Reg.result
    (λ f e. e ∙ one_written (names_at w) w.decl (type_view c.in-Reg.ty)
    ∙ sym (crdt_form_is (names_at w) w.decl c.args.crdt.now (ap crdt_form_view c.in-Reg.is ∙ crdt_form_view-Reg c.in-Reg.ty)))
    c.judge_written-in-Reg.ensures

pub crdt-returns-in-MvReg : goal.crdt-returns-in-MvReg
crdt-returns-in-MvReg t c =
    let w = c.args.self.now in
    if_ok c.judge_written-in-MvReg.result
    (λ f e. e ∙ one_written (names_at w) w.decl (type_view c.in-MvReg.ty)
    ∙ sym (crdt_form_is (names_at w) w.decl c.args.crdt.now (ap crdt_form_view c.in-MvReg.is ∙ crdt_form_view-MvReg c.in-MvReg.ty)))
    c.judge_written-in-MvReg.ensures

pub crdt-returns-in-Counter : goal.crdt-returns-in-Counter
crdt-returns-in-Counter t c =
    let w = c.args.self.now in
    sym (crdt_form_is (names_at w) w.decl c.args.crdt.now (ap crdt_form_view c.in-Counter.is ∙ crdt_form_view-Counter))

pub crdt-returns-in_ok-below-in-MapUw : goal.crdt-returns-in_ok-below-in-MapUw
crdt-returns-in_ok-below-in-MapUw t c =
    let w = c.args.self.now in
    c.sooner.ensures
    ∙ ap₂ sooner c.in_ok-here-in-MapUw.ensures (c.in_ok-below-in-MapUw.ensures ∙ ap (λ h. first (names_at w) (crdt_sites w.decl (crdt_view h))) c.get.ensures)
    ∙ sym (crdt_form_is (names_at w) w.decl c.args.crdt.now
    (ap crdt_form_view c.in-MapUw.is ∙ crdt_form_view-MapUw c.in-MapUw.keys c.in-MapUw.held))

pub crdt-returns-in_ok-below-in-MapDw : goal.crdt-returns-in_ok-below-in-MapDw
crdt-returns-in_ok-below-in-MapDw t c =
    let w = c.args.self.now in
    c.sooner-in-MapDw.ensures
    ∙ ap₂ sooner c.in_ok-here-in-MapDw.ensures (c.in_ok-below-in-MapDw.ensures ∙ ap (λ h. first (names_at w) (crdt_sites w.decl (crdt_view h))) c.get-in-MapDw.ensures)
    ∙ sym (crdt_form_is (names_at w) w.decl c.args.crdt.now
    (ap crdt_form_view c.in-MapDw.is ∙ crdt_form_view-MapDw c.in-MapDw.keys c.in-MapDw.held))

pub crdt-returns-in_ok-below-in-Struct : goal.crdt-returns-in_ok-below-in-Struct
crdt-returns-in_ok-below-in-Struct t c =
    let w = c.args.self.now in
    let n = names_at w in
    c.sooner-in-Struct.ensures
    ∙ ap₂ sooner
    (c.in_ok-named-in-Struct.ensures n ∙ ap (λ l. first n (named_all [] (field_names (fields_view l)))) c.as_slice.ensures.items)
    (c.in_ok-below-in-Struct.ensures ∙ ap (λ l. first n (fields_sites w.decl (fields_view l))) c.as_slice-in-Struct.ensures.items)
    ∙ sym (first_append n (named_all [] (field_names (fields_view c.in-Struct.fields))) (fields_sites w.decl (fields_view c.in-Struct.fields)))
    ∙ sym (crdt_form_is n w.decl c.args.crdt.now (ap crdt_form_view c.in-Struct.is ∙ crdt_form_view-Struct c.in-Struct.fields))

pub fields-loop-field-init : goal.fields-loop-field-init
fields-loop-field-init t c = refl

pub fields-loop-field-preserved : goal.fields-loop-field-preserved
fields-loop-field-preserved t c =
    let w = c.args.self.now in
    let n = names_at w in
    let fields = c.args.fields.now in
    let i = c.loop-field.field-index in
    let field = c.field-item.result in
    let rest = fields_view (drop (i + 1) fields) in
    best_next c.loop-field.best c.in_ok-crdt.field-0 (first n (fields_sites w.decl rest)) c.loop-field.invariant
    (next_in (λ l. first n (fields_sites w.decl (fields_view l))) fields i field c.loop-field-test.true c.field-item.is
    ∙ ap (λ f. first n (fields_sites w.decl (FieldTrees.more_fields f rest))) (field_view-parts field)
    ∙ first_append n (crdt_sites w.decl (crdt_view field.crdt)) (fields_sites w.decl rest)
    ∙ ap (λ o. sooner o (first n (fields_sites w.decl rest))) (sym c.in_ok-crdt.ensures))
    c.sooner-best.ensures

pub fields-returns : goal.fields-returns
fields-returns t c =
    let w = c.args.self.now in
    best_ended c.loop-field.best c.loop-field.invariant
    (ap (λ l. first (names_at w) (fields_sites w.decl (fields_view l))) (drop_past c.args.fields.now c.loop-field.field-index c.loop-field-test.false))
