use Rattle.std.proofs.Common.{drop}
use Rattle.rp_ast.specs.View.{stmts_view}
use Rattle.type_faults.proofs.Later.{RaisedSo}
use Rattle.type_faults.proofs.walk.Walk.raise_each.Given as goal

abbrev pub invariant-loop-stmt : goal.invariant-loop-stmt
invariant-loop-stmt l = RaisedSo l.fn.self l.self (stmts_view (drop l.stmt-index l.stmts)) (stmts_view l.stmts)
