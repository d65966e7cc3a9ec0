use Rattle.std.proofs.Common.{refl, ap, sym, ◌∙◌}
use Rattle.rp_grammar.specs.declared.terminal.Symbol.TheVariants as symbol
use Rattle.rp_grammar.specs.Trees.{StmtTree, StmtForm}
use Rattle.rp_grammar.specs.Parts.{tree_of, extent_of, join}
use Rattle.rp_ast.specs.View.{access_view, stmt_view}
use Rattle.rp_tokens.specs.MachineStates.{want_symbol}
use Rattle.rp_parser.proofs.Rests.{stands_at}
use Rattle.rp_parser.proofs.sentences.read_access_stmt.Goals as goal

pub returns-clause-reads : goal.returns-clause-reads
returns-clause-reads c = λ o d h k is.
    let access = c.read_access-access.result in
    let form = StmtForm.access (access_view access.0) in
    stands_at c.symbol.result.1 k (StmtTree.node (join access.1 c.symbol.result.0) (form)) (stmt_view c.access.result) o
    (ap (λ v. StmtTree.node v (form)) (sym c.join-span.ensures) ∙ sym c.access.ensures)
    (c.symbol.ensures.reads o d h refl (λ z. k (StmtTree.node (join access.1 z) form))
    (c.read_access-access.ensures.reads o d h (λ a. want_symbol symbol.Semicolon refl d (λ z. k (StmtTree.node (join (extent_of a) z) (StmtForm.access (tree_of a))))) is))
