use Rattle.std.proofs.Common.{map, sym, ap, ap₂, ◌∙◌, subst, append-nil}
use Rattle.rp_ast.specs.View.{con_view, decl_form_view, expr_view, ident_view}
use Rattle.type_rules.specs.Names.{con_name}
use Rattle.type_rules.specs.DeclSites.{named_all}
use Rattle.type_rules.specs.Faults.{first, judged, sooner}
use Rattle.type_rules.specs.Sites.{Site}
use Rattle.type_rules.proofs.Order.{sooner_none}
use Rattle.type_terms.specs.Views.{IsTableOf}
use Rattle.text_names.proofs.Entries.{if_ok}
use Rattle.type_faults.specs.Texts.{AreNamed, seen_with}
use Rattle.type_faults.proofs.Named.{seen_table}
use Rattle.type_faults.proofs.names.Seen.declared.Goals as goal

pub returns-in-IdType : goal.returns-in-IdType
returns-in-IdType c = λ n seen are.
    if_ok c.name_fault.result
    (λ f d. subst (λ form. AreNamed n (record c.args.self.now { types = c.name_fault.new.before }) seen f (decl_form_view form)) (sym c.in-IdType.is)
    (record { fault_is = d.fault_is; tables_are = record { types = d.table_is; others = are.others; invariants = are.invariants } }))
    (c.name_fault.ensures n seen.types are.types)

pub returns-in-Opaque : goal.returns-in-Opaque
returns-in-Opaque c = λ n seen are.
    if_ok c.name_fault-in-Opaque.result
    (λ f d. subst (λ form. AreNamed n (record c.args.self.now { types = c.name_fault-in-Opaque.new.before }) seen f (decl_form_view form)) (sym c.in-Opaque.is)
    (record { fault_is = d.fault_is; tables_are = record { types = d.table_is; others = are.others; invariants = are.invariants } }))
    (c.name_fault-in-Opaque.ensures n seen.types are.types)

pub returns-in_ok-others-in-Datatype : goal.returns-in_ok-others-in-Datatype
returns-in_ok-others-in-Datatype c = λ n seen are.
    let own = c.in_ok-own-in-Datatype.ensures n seen.types are.types in
    let others = c.in_ok-others-in-Datatype.ensures n seen.others are.others in
    let cons = map con_name (map con_view c.in-Datatype.cons) in
    let slice = ap (λ l. map con_name (map con_view l)) c.as_slice.ensures.items in
    subst (λ form. AreNamed n (record c.args.self.now { types = c.name_fault-in-Datatype.new.before; others = c.con_faults.new.before }) seen c.sooner.result (decl_form_view form)) (sym c.in-Datatype.is)
    (record {
      fault_is = c.sooner.ensures
          ∙ ap₂ sooner (own.fault_is ∙ sooner_none (judged n (Site.named seen.types (ident_view c.in-Datatype.name)))) (others.fault_is ∙ ap (λ l. first n (named_all seen.others l)) slice
          ∙ ap (first n) (sym (append-nil (named_all seen.others cons))));
      tables_are = record {
        types = own.table_is;
        others = seen_table c.con_faults.new.before seen.others cons (subst (λ l. IsTableOf c.con_faults.new.before (seen_with seen.others l)) slice others.table_is);
        invariants = are.invariants;
      };
    })

pub returns-in-Crdt : goal.returns-in-Crdt
returns-in-Crdt c = λ n seen are.
    if_ok c.name_fault-in-Crdt.result
    (λ f d. subst (λ form. AreNamed n (record c.args.self.now { others = c.name_fault-in-Crdt.new.before }) seen f (decl_form_view form)) (sym c.in-Crdt.is)
    (record { fault_is = d.fault_is; tables_are = record { types = are.types; others = d.table_is; invariants = are.invariants } }))
    (c.name_fault-in-Crdt.ensures n seen.others are.others)

pub returns-in-Query : goal.returns-in-Query
returns-in-Query c = λ n seen are.
    if_ok c.name_fault-in-Query.result
    (λ f d. subst (λ form. AreNamed n (record c.args.self.now { others = c.name_fault-in-Query.new.before }) seen f (decl_form_view form)) (sym c.in-Query.is)
    (record { fault_is = d.fault_is; tables_are = record { types = are.types; others = d.table_is; invariants = are.invariants } }))
    (c.name_fault-in-Query.ensures n seen.others are.others)

pub returns-in-Invariant : goal.returns-in-Invariant
returns-in-Invariant c = λ n seen are.
    let form = c.in-Invariant.is in
    if_ok c.invariant.result
    (λ f d. subst (λ form. AreNamed n c.invariant.new.self seen f (decl_form_view form)) (sym form) d)
    (c.invariant.ensures n seen (expr_view c.in-Invariant.field-1) are)

pub returns-in-Proc : goal.returns-in-Proc
returns-in-Proc c = λ n seen are.
    if_ok c.name_fault-in-Proc.result
    (λ f d. subst (λ form. AreNamed n (record c.args.self.now { others = c.name_fault-in-Proc.new.before }) seen f (decl_form_view form)) (sym c.in-Proc.is)
    (record { fault_is = d.fault_is; tables_are = record { types = are.types; others = d.table_is; invariants = are.invariants } }))
    (c.name_fault-in-Proc.ensures n seen.others are.others)
