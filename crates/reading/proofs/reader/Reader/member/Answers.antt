use Rattle.std.proofs.Common.{sym, ap, subst, ◌∙◌}
use Rattle.rp_grammar.specs.Trees.{AccessTree}
use Rattle.rp_ast.specs.View as tree
use Rattle.rp_ast.specs.declared.expr.AccessStep.TheViews.{out-AccessNode}
use Rattle.rp_ast.proofs.ExprViews.{access_view-parts}
use Rattle.text_names.proofs.Entries.{if_ok}
use Rattle.type_rules.specs.Accesses.{Access, find_var}
use Rattle.type_terms.specs.Members.{member_view}
use Rattle.query_bodies.specs.Views.{body_view, terms_view}
use Rattle.reading.specs.Reads.{IsCalled, sight_of}
use Rattle.type_rules.specs.ExprSites.{way_from}
use Rattle.desugaring.specs.Objects.{follow}
use Rattle.reading.proofs.Stored.{member_called}
use Rattle.reading.proofs.reader.Reader.member.Goals as goal

pub returns : goal.returns
returns c =
    let r = c.args.self.now in
    let access = c.args.access.now in
    let parts = access_view-parts access in
    if_ok c.stored.result
    (λ m is. subst (λ (t : AccessTree). IsCalled r (Access.member (member_view (sight_of r).tables.names c.args.member)) t (terms_view c.args.args) (body_view m)) (sym parts)
    (member_called r (tree.ident_view (out-AccessNode access).root) (tree.steps_view (out-AccessNode access).steps) (tree.args_view (out-AccessNode access).args)
    c.args.member (terms_view c.args.args) (body_view m) (tree.crdt_view c.in_ok-crdt.crdt.now) c.in_ok-number.number
    (λ d q begins follows. c.in_ok-crdt.ensures d q
    (ap (λ n. way_from n (find_var r.vars (out-AccessNode access).root.text) (tree.ident_view (out-AccessNode access).root)) c.names.ensures ∙ begins)
    (ap (λ n. follow n (tree.steps_view (out-AccessNode access).steps) d) c.names.ensures ∙ follows))
    c.in_ok-number.ensures is))
    (c.stored.ensures (sight_of r).uses)
