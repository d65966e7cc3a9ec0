use Rattle.rp_grammar.proofs.Extents.{covers_type, covers_crdt, covers_expr, own_expr, covers_access, covers_block, covers_stmt, covers_decl}
use Rattle.rp_grammar.proofs.laws.spans_cover_phrases.Goals as goal

pub returns : goal.returns
returns c = record {
  types = λ d ts r t p. covers_type p;
  crdts = λ d ts r t p. covers_crdt p;
  exprs = λ d ts r e p. covers_expr p;
  parentheses = λ d ts r e p. own_expr p;
  accesses = λ d ts r a p. covers_access p;
  blocks = λ d ts r b p. covers_block p;
  stmts = λ d ts r x p. covers_stmt p;
  decls = λ ts r x p. covers_decl p;
}
