use Rattle.std.proofs.Common.{◌∷◌, [], ap, subst, sym}
use Rattle.std.specs.Prelude.{OnOk}
use Rattle.rp_grammar.specs.Trees.{DeclTree}
use Rattle.rp_ast.specs.View.{decl_form_view}
use Rattle.text_tables.specs.means.Counted.{crdts_in}
use Rattle.text_tables.specs.means.Walked.{AddsRoots}
use Rattle.text_tables.proofs.Adding.{roots_none}
use Rattle.text_tables.proofs.object.ObjectTable.add_decl.Goals as goal

pub returns-in-Crdt : goal.returns-in-Crdt
returns-in-Crdt c =
    subst (λ form. OnOk c.add_root.result (AddsRoots c.args.self.now (crdts_in (DeclTree.node c.args.decl.now.span form ∷ [])) c.add_root.new.self)) (sym (ap decl_form_view c.in-Crdt.is))
    c.add_root.ensures

pub returns-in-IdType : goal.returns-in-IdType
returns-in-IdType c =
    subst (λ form. AddsRoots c.args.self.now (crdts_in (DeclTree.node c.args.decl.now.span form ∷ [])) c.args.self.now)
    (sym (ap decl_form_view c.in-IdType.is)) (roots_none c.args.self.now)

pub returns-in-Opaque : goal.returns-in-Opaque
returns-in-Opaque c =
    subst (λ form. AddsRoots c.args.self.now (crdts_in (DeclTree.node c.args.decl.now.span form ∷ [])) c.args.self.now)
    (sym (ap decl_form_view c.in-Opaque.is)) (roots_none c.args.self.now)

pub returns-in-Datatype : goal.returns-in-Datatype
returns-in-Datatype c =
    subst (λ form. AddsRoots c.args.self.now (crdts_in (DeclTree.node c.args.decl.now.span form ∷ [])) c.args.self.now)
    (sym (ap decl_form_view c.in-Datatype.is)) (roots_none c.args.self.now)

pub returns-in-Query : goal.returns-in-Query
returns-in-Query c =
    subst (λ form. AddsRoots c.args.self.now (crdts_in (DeclTree.node c.args.decl.now.span form ∷ [])) c.args.self.now)
    (sym (ap decl_form_view c.in-Query.is)) (roots_none c.args.self.now)

pub returns-in-Invariant : goal.returns-in-Invariant
returns-in-Invariant c =
    subst (λ form. AddsRoots c.args.self.now (crdts_in (DeclTree.node c.args.decl.now.span form ∷ [])) c.args.self.now)
    (sym (ap decl_form_view c.in-Invariant.is)) (roots_none c.args.self.now)

pub returns-in-Proc : goal.returns-in-Proc
returns-in-Proc c =
    subst (λ form. AddsRoots c.args.self.now (crdts_in (DeclTree.node c.args.decl.now.span form ∷ [])) c.args.self.now)
    (sym (ap decl_form_view c.in-Proc.is)) (roots_none c.args.self.now)
