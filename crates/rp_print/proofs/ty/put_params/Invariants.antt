use Rattle.std.proofs.Common.{◌≡◌, ◌++◌, drop, map}
use Rattle.rp_grammar.specs.declared.terminal.Symbol.TheVariants as symbol
use Rattle.rp_print.specs.Printed.{followed, param_terminals, params_terminals}
use Rattle.rp_ast.specs.View.{params_view}
use Rattle.rp_print.proofs.Appends.{joined}
use Rattle.rp_print.proofs.ty.put_params.Given as goal

-- what is still to come completes the whole
abbrev pub invariant-loop-i : goal.invariant-loop-i
invariant-loop-i l = l.out.items ++ followed (joined symbol.Comma l.i (map param_terminals (params_view (drop l.i l.ps)))) ≡ l.initial.out.items ++ followed (params_terminals (params_view l.ps))
