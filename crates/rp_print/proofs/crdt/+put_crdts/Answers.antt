use Rattle.std.proofs.Common.{refl}
use Rattle.rp_grammar.specs.declared.terminal.Symbol.TheVariants as symbol
use Rattle.rp_print.specs.Printed.{field_terminals, fields_terminals}
use Rattle.rp_ast.specs.View.{field_view, fields_view}
use Rattle.rp_print.proofs.Appends.{joined_item}
use Rattle.rp_print.proofs.crdt.+put_crdts.Goals as goal

pub put_fields-loop-i-preserved : goal.put_fields-loop-i-preserved
put_fields-loop-i-preserved t c =
    joined_item (λ fs. fields_terminals (fields_view fs)) symbol.Comma c.args.fields.now c.loop-i.i c.index-fields-i.result (field_terminals (field_view c.index-fields-i.result)) refl c.loop-i-test.true c.index-fields-i.is
    c.loop-i.out.items c.put_separator.new.out.items c.put_field.new.out.items _ c.loop-i.invariant c.in_ok-put_separator.ensures c.in_ok-put_field.ensures
