use Rattle.std.proofs.Common.{◌∷◌, [], ◌++◌, sym, ap, subst, ◌∙◌}
use Rattle.rp_grammar.specs.Trees.{DeclTree}
use Rattle.rp_ast.specs.View.{decl_form_view, proc_view}
use Rattle.type_tables.specs.Tables.{number_in, with_first}
use Rattle.text_tables.specs.means.Kept.{AreProcs, procs_in}
use Rattle.text_tables.proofs.ProcsLaw.{procs_more, procs_same}
use Rattle.text_tables.proofs.procs.ProcTable.add_decl.Goals as goal

pub returns-in_ok-add-in-Proc : goal.returns-in_ok-add-in-Proc
returns-in_ok-add-in-Proc c = λ before are.
    let self = c.args.self.now in
    let decl = c.args.decl.now in
    let given = c.in_ok-add-in-Proc.ensures.ok ∙ ap (λ x. with_first (number_in self.numbers) x self.count) c.as_slice.ensures.items in
    subst (λ form. AreProcs (before ++ procs_in (DeclTree.node decl.span form ∷ [])) c.add.new.self c.in_ok-end-in-Proc.end) (sym (ap decl_form_view c.in-Proc.is))
    (procs_more before (proc_view c.in-Proc.proc) self.numbers c.add.new.self self.count c.in_ok-end-in-Proc.end are given c.in_ok-end-in-Proc.ensures)

pub returns-in-IdType : goal.returns-in-IdType
returns-in-IdType c = λ before are.
    subst (λ form. AreProcs (before ++ procs_in (DeclTree.node c.args.decl.now.span form ∷ [])) c.args.self.now.numbers c.args.self.now.count)
    (sym (ap decl_form_view c.in-IdType.is)) (procs_same before c.args.self.now.numbers c.args.self.now.count are)

pub returns-in-Opaque : goal.returns-in-Opaque
returns-in-Opaque c = λ before are.
    subst (λ form. AreProcs (before ++ procs_in (DeclTree.node c.args.decl.now.span form ∷ [])) c.args.self.now.numbers c.args.self.now.count)
    (sym (ap decl_form_view c.in-Opaque.is)) (procs_same before c.args.self.now.numbers c.args.self.now.count are)

pub returns-in-Datatype : goal.returns-in-Datatype
returns-in-Datatype c = λ before are.
    subst (λ form. AreProcs (before ++ procs_in (DeclTree.node c.args.decl.now.span form ∷ [])) c.args.self.now.numbers c.args.self.now.count)
    (sym (ap decl_form_view c.in-Datatype.is)) (procs_same before c.args.self.now.numbers c.args.self.now.count are)

pub returns-in-Crdt : goal.returns-in-Crdt
returns-in-Crdt c = λ before are.
    subst (λ form. AreProcs (before ++ procs_in (DeclTree.node c.args.decl.now.span form ∷ [])) c.args.self.now.numbers c.args.self.now.count)
    (sym (ap decl_form_view c.in-Crdt.is)) (procs_same before c.args.self.now.numbers c.args.self.now.count are)

pub returns-in-Query : goal.returns-in-Query
returns-in-Query c = λ before are.
    subst (λ form. AreProcs (before ++ procs_in (DeclTree.node c.args.decl.now.span form ∷ [])) c.args.self.now.numbers c.args.self.now.count)
    (sym (ap decl_form_view c.in-Query.is)) (procs_same before c.args.self.now.numbers c.args.self.now.count are)

pub returns-in-Invariant : goal.returns-in-Invariant
returns-in-Invariant c = λ before are.
    subst (λ form. AreProcs (before ++ procs_in (DeclTree.node c.args.decl.now.span form ∷ [])) c.args.self.now.numbers c.args.self.now.count)
    (sym (ap decl_form_view c.in-Invariant.is)) (procs_same before c.args.self.now.numbers c.args.self.now.count are)
