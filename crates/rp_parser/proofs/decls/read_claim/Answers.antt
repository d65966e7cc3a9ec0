use Rattle.std.proofs.Common.{refl, sym}
use Rattle.rp_grammar.specs.Trees.{DeclForm, DeclTree}
use Rattle.rp_grammar.specs.Parts.{join}
use Rattle.rp_ast.specs.View.{optional, ident_view, expr_view}
use Rattle.rp_parser.proofs.Rests.{stands_at}
use Rattle.rp_parser.proofs.decls.read_claim.Goals as goal

pub returns-clause-reads : goal.returns-clause-reads
returns-clause-reads c = λ o k is.
    let n = optional ident_view c.args.name in
    let claim = c.read_sentence-claim.result in
    stands_at claim.2 (λ v. k (DeclTree.node v (DeclForm.invariant n (expr_view claim.0)))) (join c.args.start claim.1) c.join-span.result o (sym c.join-span.ensures)
    (c.read_sentence-claim.ensures.reads o 0 refl (λ e z. k (DeclTree.node (join c.args.start z) (DeclForm.invariant n e))) is)
