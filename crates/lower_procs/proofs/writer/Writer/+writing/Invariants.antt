use Rattle.std.proofs.Common.{◌≡◌, length, drop, Some}
use Rattle.rp_ast.specs.View.{block_arms_view, stmts_view}
use Rattle.rp_lang.specs.Views as lang
use Rattle.desugaring.specs.Statements.{Made, MadeArms}
use Rattle.lower_exprs.specs.Making.{IsReady}
use Rattle.lower_procs.specs.Writing.{arms_in, stmts_at}
use Rattle.lower_procs.proofs.Ways.{ArmsWay, StmtsWay}
use Rattle.lower_procs.proofs.writer.Writer.+writing.Given as goal

abbrev pub invariant-arms-loop-arm : goal.invariant-arms-loop-arm
invariant-arms-loop-arm l =
    IsReady l.fn.self.maker → (m : MadeArms) → arms_in l.fn.self l.frame l.kind (block_arms_view l.arms) ≡ Some m
    → ArmsWay l.fn.self l.frame l.kind m (block_arms_view (drop l.arm-index l.arms)) l.self (lang.stmt_arms_view l.made)

abbrev pub invariant-block-loop-stmt : goal.invariant-block-loop-stmt
invariant-block-loop-stmt l =
    IsReady l.fn.self.maker → (m : Made)
    → stmts_at l.frame l.fn.self.maker.reader (length l.fn.self.slots) (stmts_view l.stmt-items) ≡ Some m
    → StmtsWay l.fn.self l.frame m (stmts_view (drop l.stmt-index l.stmt-items)) l.self (lang.stmts_view l.stmts)
