use Rattle.std.proofs.Common.{ap, map, sym, ◌∙◌}
use Rattle.std.proofs.lemmas.List.{length-map}
use Rattle.rp_ast.specs.View.{con_view, ident_view}
use Rattle.text_names.specs.Declarations.{names_view}
use Rattle.text_names.specs.Views.{type_item_view}
use Rattle.text_names.proofs.Entries.{datatype_declared}
use Rattle.text_names.proofs.Placed.{on_ok}
use Rattle.text_names.proofs.names.TextNames.add_datatype.Goals as goal

pub returns : goal.returns
returns c =
    let names = names_view c.args.self.now in
    let cons = c.args.cons.now in
    on_ok c.add_type.result
    (λ e. e
    ∙ datatype_declared names (names_view c.add_cons.new.self) c.args.decl c.count-types.result (ident_view c.args.name.now)
    (map con_view cons) (map con_view c.as_slice.result.now) (map con_view c.in_ok-cons.cons.cons.now)
    c.in_ok-add_cons.ensures
    (c.count-types.ensures.length ∙ sym (length-map c.args.self.now.types type_item_view))
    (ap (map con_view) c.as_slice.ensures.items) (ap (map con_view) c.in_ok-cons.ensures))
    c.add_type.ensures
