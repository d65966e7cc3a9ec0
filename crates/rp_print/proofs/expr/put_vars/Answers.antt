use Rattle.std.proofs.Common.{[], ◌∷◌, map, refl}
use Rattle.rp_grammar.specs.declared.terminal.Symbol.TheVariants as symbol
use Rattle.rp_print.specs.Printed.{name_terminal}
use Rattle.rp_ast.specs.View.{ident_view, idents_view}
use Rattle.rp_print.proofs.Appends.{joined_item}
use Rattle.rp_print.proofs.expr.put_vars.Goals as goal

pub loop-i-preserved : goal.loop-i-preserved
loop-i-preserved c =
    joined_item (λ ns. map (λ n. name_terminal n ∷ []) (idents_view ns)) symbol.Comma c.args.vars.now c.loop-i.i c.index-vars-i.result (name_terminal (ident_view c.index-vars-i.result) ∷ []) refl c.loop-i-test.true c.index-vars-i.is
    c.loop-i.out.items c.put_separator.new.out.items c.put_ident.new.out.items _ c.loop-i.invariant c.in_ok-put_separator.ensures c.in_ok-put_ident.ensures
