use Rattle.std.proofs.Common.{sym, ap, ◌∙◌}
use Rattle.std.specs.Option.{option_map}
use Rattle.desugaring.specs.Tables.{atoms}
use Rattle.text_names.specs.Declarations.{names_view}
use Rattle.text_names.specs.Views.{type_item_view}
use Rattle.text_names.specs.declared.declared.TypeItem.{TypeItem}
use Rattle.std.specs.Borrow.{Bor}
use Rattle.text_tables.proofs.AtomsLaw.{list_step}
use Rattle.text_tables.proofs.atoms.atom_list.Goals as goal

pub loop-number-preserved : goal.loop-number-preserved
loop-number-preserved c =
    let types = (names_view c.args.names.now).types in
    let item = c.in-Some.item in
    list_step types c.loop-number.number (type_item_view item.now) c.loop-number.list c.in_ok-list.list (atoms types)
    (sym c.type_at.ensures ∙ ap (option_map (λ (i : Bor TypeItem). type_item_view i.now)) c.in-Some.is)
    c.in_ok-list.ensures c.loop-number.invariant
