use Rattle.std.proofs.Common.{ap, sym, subst, ◌∙◌}
use Rattle.rp_ast.specs.View as tree
use Rattle.rp_ast.specs.declared.expr.AccessStep.TheViews.{out-AccessNode}
use Rattle.rp_ast.proofs.ExprViews.{access_view-parts}
use Rattle.text_names.proofs.Entries.{if_ok}
use Rattle.type_rules.specs.Accesses.{Access}
use Rattle.type_tables.specs.Variables.{var_view}
use Rattle.type_terms.specs.Views.{access_view}
use Rattle.query_bodies.specs.Views.{body_view, terms_view}
use Rattle.reading.specs.Reads.{IsCalled, sight_of}
use Rattle.desugaring.specs.Callees.{stand_named}
use Rattle.reading.proofs.Stored.{con_called, proc_called, recalled, returned_called, use_called, variable_called}
use Rattle.reading.proofs.reader.Reader.called.Goals as goal

pub returns-in-Variable : goal.returns-in-Variable
returns-in-Variable c =
    let r = c.args.self.now in
    let access = c.args.access.now in
    if_ok c.variable.result
    (λ m says. recalled (ap (access_view (sight_of r).tables.names) c.in-Variable.is) (access_view-parts access)
    (variable_called r (tree.ident_view (out-AccessNode access).root) (tree.steps_view (out-AccessNode access).steps) (tree.args_view (out-AccessNode access).args) (var_view c.in-Variable.field-0) (terms_view c.args.args) (body_view m)
    (λ kept s e. says kept s (ap (stand_named (sight_of r).vars) c.as_slice.ensures.items ∙ e))))
    c.variable.ensures

pub returns-in-Constructor : goal.returns-in-Constructor
returns-in-Constructor c =
    let r = c.args.self.now in
    let access = c.args.access.now in
    if_ok c.constructor.result
    (λ m says. recalled (ap (access_view (sight_of r).tables.names) c.in-Constructor.is) (access_view-parts access)
    (con_called r (tree.ident_view (out-AccessNode access).root) (tree.steps_view (out-AccessNode access).steps) (tree.args_view (out-AccessNode access).args) c.in-Constructor.number (tree.con_view c.in-Constructor.con.now) (terms_view c.args.args) (body_view m) says))
    c.constructor.ensures

pub returns-in-UseOf : goal.returns-in-UseOf
returns-in-UseOf c =
    let r = c.args.self.now in
    let access = c.args.access.now in
    if_ok c.use_of.result
    (λ m says. recalled (ap (access_view (sight_of r).tables.names) c.in-UseOf.is) (access_view-parts access)
    (use_called r (tree.ident_view (out-AccessNode access).root) (tree.steps_view (out-AccessNode access).steps) (tree.args_view (out-AccessNode access).args) c.in-UseOf.decl _ (terms_view c.args.args) (body_view m) says))
    c.use_of.ensures

pub returns-in-Procedure : goal.returns-in-Procedure
returns-in-Procedure c =
    let r = c.args.self.now in
    let access = c.args.access.now in
    if_ok c.procedure.result
    (λ m says. recalled (ap (access_view (sight_of r).tables.names) c.in-Procedure.is) (access_view-parts access)
    (proc_called r (tree.ident_view (out-AccessNode access).root) (tree.steps_view (out-AccessNode access).steps) (tree.args_view (out-AccessNode access).args) (tree.proc_view c.in-Procedure.proc.now) (terms_view c.args.args) (body_view m) says))
    c.procedure.ensures

pub returns-in-Returned : goal.returns-in-Returned
returns-in-Returned c =
    let r = c.args.self.now in
    let access = c.args.access.now in
    if_ok c.returned.result
    (λ m says. recalled (ap (access_view (sight_of r).tables.names) c.in-Returned.is) (access_view-parts access)
    (returned_called r (tree.ident_view (out-AccessNode access).root) (tree.steps_view (out-AccessNode access).steps) (tree.args_view (out-AccessNode access).args) (tree.proc_view c.in-Returned.proc.now) (terms_view c.args.args) (body_view m) says))
    c.returned.ensures

pub returns-in-Member : goal.returns-in-Member
returns-in-Member c =
    let r = c.args.self.now in
    if_ok c.member.result
    (λ m says. subst (λ (a : Access). IsCalled r a (tree.access_view c.args.access.now) (terms_view c.args.args) (body_view m))
    (sym (ap (access_view (sight_of r).tables.names) c.in-Member.is)) says)
    c.member.ensures
