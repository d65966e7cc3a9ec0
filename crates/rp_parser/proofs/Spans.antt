-- The spans of nodes are those of their trees.
use Rattle.std.proofs.Common.{◌≡◌, ap, sym}
use Rattle.rp_grammar.specs.Stmts.{block_span, stmt_span}
use Rattle.rp_ast.specs.declared.stmt.Block.{Block}
use Rattle.rp_ast.specs.declared.stmt.StmtNode.{StmtNode}
use Rattle.rp_ast.specs.declared.stmt.ElseNode.TheViews.{out-Block}
use Rattle.rp_ast.specs.View.{block_view, stmt_view}
use Rattle.rp_ast.proofs.StmtViews.{block_view-parts, stmt_view-parts}

pub block_span_of : (b : Block) → (out-Block b).span ≡ block_span (block_view b)
block_span_of b = sym (ap block_span (block_view-parts b))

pub stmt_span_of : (s : StmtNode) → s.span ≡ stmt_span (stmt_view s)
stmt_span_of s = sym (ap stmt_span (stmt_view-parts s))
