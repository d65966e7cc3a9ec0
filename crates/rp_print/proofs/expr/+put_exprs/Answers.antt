use Rattle.std.proofs.Common.{refl}
use Rattle.rp_grammar.specs.declared.terminal.Symbol.TheVariants as symbol
use Rattle.rp_print.specs.Printed.{expr_terminals, exprs_terminals, arm_terminals, arms_terminals, step_terminals, steps_terminals}
use Rattle.rp_ast.specs.View.{expr_view, exprs_view, expr_arm_view, expr_arms_view, step_view, steps_view}
use Rattle.rp_print.proofs.Appends.{joined_item, plain_item}
use Rattle.rp_print.proofs.expr.+put_exprs.Goals as goal

pub put_members-loop-i-preserved : goal.put_members-loop-i-preserved
put_members-loop-i-preserved t c =
    joined_item (λ es. exprs_terminals c.args.place (exprs_view es)) c.args.m c.args.es.now c.loop-i.i c.index-es-i.result (expr_terminals c.args.place (expr_view c.index-es-i.result)) refl c.loop-i-test.true c.index-es-i.is
    c.loop-i.out.items c.put_separator.new.out.items c.put_expr.new.out.items _ c.loop-i.invariant c.in_ok-put_separator.ensures c.in_ok-put_expr.ensures

pub put_arms-loop-i-preserved : goal.put_arms-loop-i-preserved
put_arms-loop-i-preserved t c =
    joined_item (λ as_. arms_terminals (expr_arms_view as_)) symbol.Comma c.args.arms.now c.loop-i.i c.index-arms-i.result (arm_terminals (expr_arm_view c.index-arms-i.result)) refl c.loop-i-test.true c.index-arms-i.is
    c.loop-i.out.items c.put_separator.new.out.items c.put_arm.new.out.items _ c.loop-i.invariant c.in_ok-put_separator.ensures c.in_ok-put_arm.ensures

pub put_steps-loop-x-preserved : goal.put_steps-loop-x-preserved
put_steps-loop-x-preserved t c =
    plain_item (λ xs. steps_terminals (steps_view xs)) c.args.steps.now c.loop-x.x-index c.x-item.result (step_terminals (step_view c.x-item.result)) refl c.loop-x-test.true c.x-item.is
    c.loop-x.out.items c.put_step.new.out.items _ c.loop-x.invariant c.in_ok-put_step.ensures
