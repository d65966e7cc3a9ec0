use Rattle.std.proofs.Common.{◌≡◌, ℕ, ◌+◌, ◌*◌, ◌≤◌, List, [], length, map}
use Rattle.rp_grammar.specs.Trees.{StmtTree, BlockArmTree}
use Rattle.rp_ast.specs.View.{stmt_view, block_arm_view}
use Rattle.rp_tokens.specs.MachineStates.{State, in_stmts, in_block_arms}
use Rattle.rp_tokens.specs.Machine.{Bounded}
use Rattle.rp_parser.specs.means.Reading.{Stands, left}
use Rattle.rp_parser.proofs.stmts.+stmts.Given as goal

abbrev pub decreases-read_stmts : goal.decreases-read_stmts
decreases-read_stmts l = 10 * left l.rest

abbrev pub decreases-read_arms : goal.decreases-read_arms
decreases-read_arms l = 10 * left l.rest

abbrev pub decreases-read_block : goal.decreases-read_block
decreases-read_block l = 10 * left l.rest + 1

abbrev pub decreases-read_atomic : goal.decreases-read_atomic
decreases-read_atomic l = 10 * left l.rest + 2

abbrev pub decreases-read_if : goal.decreases-read_if
decreases-read_if l = 10 * left l.rest + 2

abbrev pub decreases-read_else_if : goal.decreases-read_else_if
decreases-read_else_if l = 10 * left l.rest + 3

abbrev pub decreases-read_else_block : goal.decreases-read_else_block
decreases-read_else_block l = 10 * left l.rest + 2

abbrev pub decreases-read_else : goal.decreases-read_else
decreases-read_else l = 10 * left l.rest + 4

abbrev pub decreases-read_match : goal.decreases-read_match
decreases-read_match l = 10 * left l.rest + 1

abbrev pub decreases-read_stmt : goal.decreases-read_stmt
decreases-read_stmt l = 10 * left l.rest + 4

abbrev pub decreases-read_next_stmt : goal.decreases-read_next_stmt
decreases-read_next_stmt l = 10 * length l.marks.now + 5

abbrev pub decreases-read_arm : goal.decreases-read_arm
decreases-read_arm l = 10 * left l.rest + 2

abbrev pub decreases-read_next_arm : goal.decreases-read_next_arm
decreases-read_next_arm l = 10 * length l.marks.now + 3

abbrev pub invariant-read_stmts-stmts : goal.invariant-read_stmts-stmts
invariant-read_stmts-stmts l = record {
  no_longer : left l.behind ≤ left l.fn.rest;
  reads : (o : Bounded) (d : ℕ) → d ≡ l.depth → (k : List StmtTree → State) → Stands l.fn.rest (in_stmts d [] k) o → Stands l.behind (in_stmts d (map stmt_view l.stmts) k) o;
}

abbrev pub decreases-read_stmts-stmts : goal.decreases-read_stmts-stmts
decreases-read_stmts-stmts l = left l.behind

abbrev pub invariant-read_arms-arms : goal.invariant-read_arms-arms
invariant-read_arms-arms l = record {
  no_longer : left l.behind ≤ left l.fn.rest;
  reads : (o : Bounded) (d : ℕ) → d ≡ l.depth → (k : List BlockArmTree → State) → Stands l.fn.rest (in_block_arms d [] k) o → Stands l.behind (in_block_arms d (map block_arm_view l.arms) k) o;
}

abbrev pub decreases-read_arms-arms : goal.decreases-read_arms-arms
decreases-read_arms-arms l = left l.behind
