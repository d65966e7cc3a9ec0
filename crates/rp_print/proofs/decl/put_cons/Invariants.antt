use Rattle.std.proofs.Common.{◌≡◌, ◌++◌, drop, map}
use Rattle.rp_grammar.specs.declared.terminal.Symbol.TheVariants as symbol
use Rattle.rp_print.specs.Printed.{followed, separated, con_terminals}
use Rattle.rp_ast.specs.View.{con_view}
use Rattle.rp_print.proofs.Appends.{joined}
use Rattle.rp_print.proofs.decl.put_cons.Given as goal

-- what is still to come completes the whole
abbrev pub invariant-loop-i : goal.invariant-loop-i
invariant-loop-i l = l.out.items ++ followed (joined symbol.Bar l.i (map con_terminals (map con_view (drop l.i l.cons)))) ≡ l.initial.out.items ++ followed (separated symbol.Bar (map con_terminals (map con_view l.cons)))
