use Rattle.std.proofs.Common.{◌∷◌, [], ap, subst, sym}
use Rattle.std.specs.Prelude.{OnOk}
use Rattle.rp_grammar.specs.Trees.{DeclTree}
use Rattle.rp_ast.specs.View.{crdt_view, decl_form_view}
use Rattle.text_names.proofs.Placed.{on_ok}
use Rattle.text_tables.specs.Seen.{tables_view}
use Rattle.text_tables.specs.means.Rooted.{DeclaresOn, DeclaresRoots, roots_in}
use Rattle.text_tables.proofs.RootsLaw.{declares_none, one_root}
use Rattle.text_tables.proofs.members.Members.add_decl.Goals as goal

pub returns-in-Crdt : goal.returns-in-Crdt
returns-in-Crdt c =
    let t = tables_view c.args.tables.now in
    let self = c.args.self.now in
    let new = c.add_crdt.new.self in
    let root = c.args.root in
    let decl = c.args.decl.now in
    let tree = crdt_view c.in-Crdt.crdt in
    let on = subst (λ r. OnOk c.add_crdt.result (DeclaresOn t r [] tree self new)) c.at_root-spot.ensures.root (c.add_crdt.ensures [] (c.at_root-spot.ensures.at t)) in
    subst (λ form. OnOk c.add_crdt.result (DeclaresRoots t root (roots_in (DeclTree.node decl.span form ∷ [])) self new)) (sym (ap decl_form_view c.in-Crdt.is))
    (on_ok c.add_crdt.result (one_root t root (record { name = c.in-Crdt.field-0.text; crdt = tree }) self new) on)

pub returns-in-IdType : goal.returns-in-IdType
returns-in-IdType c =
    subst (λ form. DeclaresRoots (tables_view c.args.tables.now) c.args.root (roots_in (DeclTree.node c.args.decl.now.span form ∷ [])) c.args.self.now c.args.self.now)
    (sym (ap decl_form_view c.in-IdType.is)) (declares_none (tables_view c.args.tables.now) c.args.self.now)

pub returns-in-Opaque : goal.returns-in-Opaque
returns-in-Opaque c =
    subst (λ form. DeclaresRoots (tables_view c.args.tables.now) c.args.root (roots_in (DeclTree.node c.args.decl.now.span form ∷ [])) c.args.self.now c.args.self.now)
    (sym (ap decl_form_view c.in-Opaque.is)) (declares_none (tables_view c.args.tables.now) c.args.self.now)

pub returns-in-Datatype : goal.returns-in-Datatype
returns-in-Datatype c =
    subst (λ form. DeclaresRoots (tables_view c.args.tables.now) c.args.root (roots_in (DeclTree.node c.args.decl.now.span form ∷ [])) c.args.self.now c.args.self.now)
    (sym (ap decl_form_view c.in-Datatype.is)) (declares_none (tables_view c.args.tables.now) c.args.self.now)

pub returns-in-Query : goal.returns-in-Query
returns-in-Query c =
    subst (λ form. DeclaresRoots (tables_view c.args.tables.now) c.args.root (roots_in (DeclTree.node c.args.decl.now.span form ∷ [])) c.args.self.now c.args.self.now)
    (sym (ap decl_form_view c.in-Query.is)) (declares_none (tables_view c.args.tables.now) c.args.self.now)

pub returns-in-Invariant : goal.returns-in-Invariant
returns-in-Invariant c =
    subst (λ form. DeclaresRoots (tables_view c.args.tables.now) c.args.root (roots_in (DeclTree.node c.args.decl.now.span form ∷ [])) c.args.self.now c.args.self.now)
    (sym (ap decl_form_view c.in-Invariant.is)) (declares_none (tables_view c.args.tables.now) c.args.self.now)

pub returns-in-Proc : goal.returns-in-Proc
returns-in-Proc c =
    subst (λ form. DeclaresRoots (tables_view c.args.tables.now) c.args.root (roots_in (DeclTree.node c.args.decl.now.span form ∷ [])) c.args.self.now c.args.self.now)
    (sym (ap decl_form_view c.in-Proc.is)) (declares_none (tables_view c.args.tables.now) c.args.self.now)
