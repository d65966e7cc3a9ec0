use Rattle.std.proofs.Common.{sym, pos, neg_ℤ}
use Rattle.rp_grammar.specs.Trees.{ExprTree, ExprForm}
use Rattle.rp_grammar.specs.Parts.{join, built}
use Rattle.rp_parser.proofs.Rests.{stands_at}
use Rattle.rp_parser.proofs.sums.read_negative.Goals as goal

pub returns-clause-reads : goal.returns-clause-reads
returns-clause-reads c = λ o d h k is.
    let number = c.number-value.result in
    let form = ExprForm.int (neg_ℤ (pos number.0)) in
    c.extended.ensures.reads o (ExprTree.node c.join-span.result form) k c.negative-node.ensures
    (stands_at number.2 (λ v. k (built v form)) (join c.args.start number.1) c.join-span.result o (sym c.join-span.ensures)
    (c.number-value.ensures.reads o d h (λ i v. k (built (join c.args.start v) (ExprForm.int (neg_ℤ (pos i))))) is))
