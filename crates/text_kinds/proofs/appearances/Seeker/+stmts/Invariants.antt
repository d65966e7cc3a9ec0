use Rattle.std.proofs.Common.{drop}
use Rattle.rp_ast.specs.View.{block_arms_view, stmts_view}
use Rattle.text_names.specs.Declarations.{names_view}
use Rattle.text_kinds.specs.means.Brought.{block_arms_bring, stmts_behind, stmts_bring}
use Rattle.text_kinds.specs.means.Walked.{Gains, Goes, seen}
use Rattle.text_kinds.proofs.appearances.Seeker.+stmts.Given as goal

abbrev pub invariant-stmts-loop-stmt : goal.invariant-stmts-loop-stmt
invariant-stmts-loop-stmt l =
    Gains (seen l.fn.self) (seen l.self)
    (stmts_bring (names_view l.fn.self.kinds.names.now) l.self.vars l.kind (stmts_view (drop l.stmt-index l.stmts)))
    (stmts_bring (names_view l.fn.self.kinds.names.now) l.fn.self.vars l.kind (stmts_view l.stmts))
    (stmts_behind (names_view l.fn.self.kinds.names.now) l.self.vars (stmts_view (drop l.stmt-index l.stmts)))
    (stmts_behind (names_view l.fn.self.kinds.names.now) l.fn.self.vars (stmts_view l.stmts))

abbrev pub invariant-block_arms-loop-arm : goal.invariant-block_arms-loop-arm
invariant-block_arms-loop-arm l =
    Goes (seen l.fn.self) (seen l.self)
    (block_arms_bring (names_view l.fn.self.kinds.names.now) l.fn.self.vars l.kind l.own
    (block_arms_view (drop l.arm-index l.arms)))
    (block_arms_bring (names_view l.fn.self.kinds.names.now) l.fn.self.vars l.kind l.own (block_arms_view l.arms))
