use Rattle.std.proofs.Common.{map, refl}
use Rattle.rp_grammar.specs.declared.terminal.Symbol.TheVariants as symbol
use Rattle.rp_print.specs.Printed.{param_terminals}
use Rattle.rp_ast.specs.View.{param_view, params_view}
use Rattle.rp_print.proofs.Appends.{joined_item}
use Rattle.rp_print.proofs.ty.put_params.Goals as goal

pub loop-i-preserved : goal.loop-i-preserved
loop-i-preserved c =
    joined_item (λ ps. map param_terminals (params_view ps)) symbol.Comma c.args.ps.now c.loop-i.i c.index-ps-i.result (param_terminals (param_view c.index-ps-i.result)) refl c.loop-i-test.true c.index-ps-i.is
    c.loop-i.out.items c.put_separator.new.out.items c.put_param.new.out.items _ c.loop-i.invariant c.in_ok-put_separator.ensures c.in_ok-put_param.ensures
