use Rattle.std.proofs.Common.{◌≡◌, ◌++◌, drop}
use Rattle.rp_grammar.specs.declared.terminal.Symbol.TheVariants as symbol
use Rattle.rp_print.specs.Printed.{followed, separated, exprs_terminals, arms_terminals, steps_terminals}
use Rattle.rp_ast.specs.View.{exprs_view, expr_arms_view, steps_view}
use Rattle.rp_print.proofs.Appends.{joined}
use Rattle.rp_print.proofs.expr.+put_exprs.Given as goal

-- what is still to come completes the whole

abbrev pub invariant-put_members-loop-i : goal.invariant-put_members-loop-i
invariant-put_members-loop-i l = l.out.items ++ followed (joined l.m l.i (exprs_terminals l.place (exprs_view (drop l.i l.es)))) ≡ l.initial.out.items ++ followed (separated l.m (exprs_terminals l.place (exprs_view l.es)))

abbrev pub invariant-put_arms-loop-i : goal.invariant-put_arms-loop-i
invariant-put_arms-loop-i l = l.out.items ++ followed (joined symbol.Comma l.i (arms_terminals (expr_arms_view (drop l.i l.arms)))) ≡ l.initial.out.items ++ followed (separated symbol.Comma (arms_terminals (expr_arms_view l.arms)))

abbrev pub invariant-put_steps-loop-x : goal.invariant-put_steps-loop-x
invariant-put_steps-loop-x l = l.out.items ++ followed (steps_terminals (steps_view (drop l.x-index l.steps))) ≡ l.initial.out.items ++ followed (steps_terminals (steps_view l.steps))
