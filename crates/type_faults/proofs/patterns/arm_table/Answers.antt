use Rattle.std.proofs.Common.{ap, ◌∙◌, subst, drop, ◌+◌}
use Rattle.rp_ast.specs.View.{expr_arms_view}
use Rattle.rp_ast.proofs.ExprViews.{expr_arm_view-parts}
use Rattle.rp_grammar.specs.Trees.{ExprArmTrees}
use Rattle.type_rules.specs.ExprSites.{arm_names}
use Rattle.text_names.proofs.Entries.{drop_past}
use Rattle.type_faults.proofs.Lists.{TableSo, next_in, table_ended, table_next, table_started}
use Rattle.type_faults.proofs.patterns.arm_table.Goals as goal

pub loop-arm-init : goal.loop-arm-init
loop-arm-init c = table_started c.new-table.ensures

pub loop-arm-preserved : goal.loop-arm-preserved
loop-arm-preserved c =
    let arms = c.args.arms.now in
    let i = c.loop-arm.arm-index in
    let arm = c.arm-item.result in
    let next = expr_arms_view (drop (i + 1) arms) in
    table_next
    (subst (λ l. TableSo c.loop-arm.table l (arm_names (expr_arms_view arms)))
    (next_in (λ l. arm_names (expr_arms_view l)) arms i arm c.loop-arm-test.true c.arm-item.is
    ∙ ap (λ a. arm_names (ExprArmTrees.more_expr_arms a next)) (expr_arm_view-parts arm))
    c.loop-arm.invariant)
    c.in_ok-add_arm.ensures

pub returns : goal.returns
returns c =
    table_ended c.loop-arm.invariant
    (ap (λ l. arm_names (expr_arms_view l)) (drop_past c.args.arms.now c.loop-arm.arm-index c.loop-arm-test.false))
