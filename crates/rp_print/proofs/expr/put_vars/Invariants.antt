use Rattle.std.proofs.Common.{◌≡◌, [], ◌∷◌, ◌++◌, drop, map}
use Rattle.rp_grammar.specs.declared.terminal.Symbol.TheVariants as symbol
use Rattle.rp_print.specs.Printed.{followed, name_terminal, separated}
use Rattle.rp_ast.specs.View.{idents_view}
use Rattle.rp_print.proofs.Appends.{joined}
use Rattle.rp_print.proofs.expr.put_vars.Given as goal

-- what is still to come completes the whole
abbrev pub invariant-loop-i : goal.invariant-loop-i
invariant-loop-i l = l.out.items ++ followed (joined symbol.Comma l.i (map (λ n. name_terminal n ∷ []) (idents_view (drop l.i l.vars)))) ≡ l.initial.out.items ++ followed (separated symbol.Comma (map (λ n. name_terminal n ∷ []) (idents_view l.vars)))
