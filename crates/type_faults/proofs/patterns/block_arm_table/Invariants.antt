use Rattle.std.proofs.Common.{drop}
use Rattle.rp_ast.specs.View.{block_arms_view}
use Rattle.type_rules.specs.StmtSites.{arm_names}
use Rattle.type_faults.proofs.Lists.{TableSo}
use Rattle.type_faults.proofs.patterns.block_arm_table.Given as goal

abbrev pub invariant-loop-arm : goal.invariant-loop-arm
invariant-loop-arm l = TableSo l.table (arm_names (block_arms_view (drop l.arm-index l.arms))) (arm_names (block_arms_view l.arms))
