use Rattle.std.proofs.Common.{ℕ, ◌++◌, ap, sym, ◌∙◌, length, append-nil}
use Rattle.rp_grammar.specs.Trees.{DeclTree}
use Rattle.rp_ast.specs.View.{crdt_view, decl_form_view}
use Rattle.rp_span.specs.declared.Span.{Span}
use Rattle.rp_ast.specs.declared.decl.DeclForm as code_decl
use Rattle.rp_ast.specs.declared.decl.DeclForm.TheVariants as form
use Rattle.type_rules.specs.Names.{Names, types_in, entries_in}
use Rattle.text_names.specs.Declarations.{names_view}
use Rattle.text_names.specs.Parts.{crdt_in}
use Rattle.text_names.proofs.Placed.{on_ok}
use Rattle.text_names.proofs.names.TextNames.add_decl.Goals as goal

-- with what a declaration of this form declares
abbrev declared : Names → ℕ → Span → code_decl.DeclForm → Names
declared n k at what = record n {
  types = n.types ++ types_in k (DeclTree.node at (decl_form_view what));
  entries = n.entries ++ entries_in k (length n.types) (DeclTree.node at (decl_form_view what));
}

pub returns-in-Datatype : goal.returns-in-Datatype
returns-in-Datatype c = λ h.
    on_ok c.add_datatype.result
    (λ e. e ∙ ap (declared (names_view c.args.self.now) c.args.number c.args.decl.now.span) (sym c.in-Datatype.is))
    c.add_datatype.ensures

pub returns-in-Crdt : goal.returns-in-Crdt
returns-in-Crdt c = λ h.
    let names = names_view c.args.self.now in
    let at = c.args.decl.now.span in
    let root = c.root.ensures ∙ h ∙ ap (λ what. crdt_in (DeclTree.node at (decl_form_view what))) c.in-Crdt.is in
    on_ok c.add_root.result
    (λ e. e
    ∙ ap (λ types. record (declared names c.args.number at (form.Crdt c.in-Crdt.name c.in-Crdt.field-1)) { types = types })
    (sym (append-nil names.types))
    ∙ ap (declared names c.args.number at) (sym c.in-Crdt.is))
    (c.add_root.ensures (crdt_view c.in-Crdt.field-1) root)
