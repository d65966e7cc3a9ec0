use Rattle.std.proofs.Common.{map, refl}
use Rattle.rp_grammar.specs.declared.terminal.Symbol.TheVariants as symbol
use Rattle.rp_print.specs.Printed.{con_terminals}
use Rattle.rp_ast.specs.View.{con_view}
use Rattle.rp_print.proofs.Appends.{joined_item}
use Rattle.rp_print.proofs.decl.put_cons.Goals as goal

pub loop-i-preserved : goal.loop-i-preserved
loop-i-preserved c =
    joined_item (λ cs. map con_terminals (map con_view cs)) symbol.Bar c.args.cons.now c.loop-i.i c.index-cons-i.result (con_terminals (con_view c.index-cons-i.result)) refl c.loop-i-test.true c.index-cons-i.is
    c.loop-i.out.items c.put_separator.new.out.items c.put_con.new.out.items _ c.loop-i.invariant c.in_ok-put_separator.ensures c.in_ok-put_con.ensures
