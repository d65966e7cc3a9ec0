use Rattle.std.proofs.Common.{◌≡◌, ◌++◌, drop}
use Rattle.rp_grammar.specs.declared.terminal.Symbol.TheVariants as symbol
use Rattle.rp_print.specs.Printed.{followed, separated, fields_terminals}
use Rattle.rp_ast.specs.View.{fields_view}
use Rattle.rp_print.proofs.Appends.{joined}
use Rattle.rp_print.proofs.crdt.+put_crdts.Given as goal

-- what is still to come completes the whole
abbrev pub invariant-put_fields-loop-i : goal.invariant-put_fields-loop-i
invariant-put_fields-loop-i l = l.out.items ++ followed (joined symbol.Comma l.i (fields_terminals (fields_view (drop l.i l.fields)))) ≡ l.initial.out.items ++ followed (separated symbol.Comma (fields_terminals (fields_view l.fields)))
