use Rattle.std.proofs.Common.{None, refl, sym, subst}
use Rattle.rp_grammar.specs.Trees.{DeclForm}
use Rattle.rp_ast.specs.View.{ident_view, optional}
use Rattle.text_names.proofs.Entries.{if_ok}
use Rattle.type_faults.specs.Texts.{AreNamed}
use Rattle.type_faults.proofs.names.Seen.invariant.Goals as goal

pub returns-in-Some : goal.returns-in-Some
returns-in-Some c = λ n seen e are.
    if_ok c.name_fault.result
    (λ f d. subst (λ name. AreNamed n (record c.args.self.now { invariants = c.name_fault.new.before }) seen f (DeclForm.invariant (optional ident_view name) e))
    (sym c.in-Some.is)
    (record { fault_is = d.fault_is; tables_are = record { types = are.types; others = are.others; invariants = d.table_is } }))
    (c.name_fault.ensures n seen.invariants are.invariants)

pub returns-in-None : goal.returns-in-None
returns-in-None c = λ n seen e are.
    subst (λ name. AreNamed n c.args.self.now seen None (DeclForm.invariant (optional ident_view name) e)) (sym c.in-None.is)
    (record { fault_is = refl; tables_are = record { types = are.types; others = are.others; invariants = are.invariants } })
