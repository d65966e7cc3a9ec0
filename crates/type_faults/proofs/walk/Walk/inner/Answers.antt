use Rattle.std.proofs.Common.{None, refl, sym, ap, ◌∙◌, subst, map}
use Rattle.rp_ast.specs.View.{con_view, decl_form_view, ident_view, optional}
use Rattle.type_rules.specs.DeclSites.{con_sites}
use Rattle.type_rules.specs.Faults.{first}
use Rattle.text_names.proofs.Entries.{if_ok}
use Rattle.type_faults.specs.Texts.{Enters}
use Rattle.type_faults.specs.Walks.{names_at}
use Rattle.type_faults.proofs.walk.Walk.inner.Goals as goal

pub returns-in-IdType : goal.returns-in-IdType
returns-in-IdType c = λ behind marked counted.
    subst (λ form. Enters behind c.args.decl c.args.self.now (record c.args.self.now { decl = c.args.decl; vars = c.truncate.new.self }) None (decl_form_view form)) (sym c.in-IdType.is)
    (record { fault_is = refl; marked = marked; names = refl; counted = counted })

pub returns-in-Opaque : goal.returns-in-Opaque
returns-in-Opaque c = λ behind marked counted.
    subst (λ form. Enters behind c.args.decl c.args.self.now (record c.args.self.now { decl = c.args.decl; vars = c.truncate.new.self }) None (decl_form_view form)) (sym c.in-Opaque.is)
    (record { fault_is = refl; marked = marked; names = refl; counted = counted })

pub returns-in-Datatype : goal.returns-in-Datatype
returns-in-Datatype c = λ behind marked counted.
    let n = names_at c.args.self.now in
    if_ok c.cons.result
    (λ f e. subst (λ form. Enters behind c.args.decl c.args.self.now (record c.args.self.now { decl = c.args.decl; vars = c.truncate.new.self }) f (decl_form_view form)) (sym c.in-Datatype.is)
    (record {
      fault_is = e ∙ ap (λ l. first n (con_sites c.args.decl (map con_view l))) c.as_slice.ensures.items;
      marked = marked;
      names = refl;
      counted = counted;
    }))
    c.cons.ensures

pub returns-in-Crdt : goal.returns-in-Crdt
returns-in-Crdt c = λ behind marked counted.
    if_ok c.crdt.result
    (λ f e. subst (λ form. Enters behind c.args.decl c.args.self.now (record c.args.self.now { decl = c.args.decl; vars = c.truncate.new.self }) f (decl_form_view form)) (sym c.in-Crdt.is)
    (record { fault_is = e; marked = marked; names = refl; counted = counted }))
    c.crdt.ensures

pub returns-in-Query : goal.returns-in-Query
returns-in-Query c = λ behind marked counted.
    if_ok c.used_query.result
    (λ f e. subst (λ form. Enters behind c.args.decl c.args.self.now c.used_query.new.self f (decl_form_view form)) (sym c.in-Query.is)
    (record { fault_is = e.fault_is; marked = e.marked; names = e.names; counted = e.counted }))
    (c.used_query.ensures behind marked counted c.truncate.ensures)

pub returns-in-Invariant : goal.returns-in-Invariant
returns-in-Invariant c = λ behind marked counted.
    if_ok c.invariant.result
    (λ f e. subst (λ form. Enters behind c.args.decl c.args.self.now c.invariant.new.self f (decl_form_view form)) (sym c.in-Invariant.is)
    (record { fault_is = e.fault_is; marked = e.marked; names = e.names; counted = e.counted }))
    (c.invariant.ensures behind (optional ident_view c.in-Invariant.field-0) marked counted c.truncate.ensures)

pub returns-in-Proc : goal.returns-in-Proc
returns-in-Proc c = λ behind marked counted.
    if_ok c.procedure.result
    (λ f e. subst (λ form. Enters behind c.args.decl c.args.self.now c.procedure.new.self f (decl_form_view form)) (sym c.in-Proc.is)
    (record { fault_is = e.fault_is; marked = e.marked; names = e.names; counted = e.counted }))
    (c.procedure.ensures behind marked counted c.truncate.ensures)
