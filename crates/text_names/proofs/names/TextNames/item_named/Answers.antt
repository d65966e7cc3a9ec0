use Rattle.std.proofs.Common.{refl, ap, sym, ◌∙◌, length, ltb-true}
use Rattle.std.proofs.lemmas.Bool.{ltb-false}
use Rattle.std.proofs.lemmas.Option.{slice_get_past, slice_get_read}
use Rattle.std.specs.List.{slice_get}
use Rattle.std.specs.Option.{option_and_then, option_map}
use Rattle.type_rules.specs.Names.{first_entry}
use Rattle.type_tables.proofs.Places.{first_seen}
use Rattle.text_names.specs.Views.{item_view}
use Rattle.text_names.proofs.names.TextNames.item_named.Goals as goal

pub returns-in_err-number : goal.returns-in_err-number
returns-in_err-number c =
    let name = c.args.name.now in
    let items = c.args.self.now.items in
    ap (option_map item_view) c.from_residual.ensures
    ∙ ap (λ o. option_map item_view (option_and_then (slice_get items) o))
    (sym c.in_err-number.was ∙ c.number.ensures ∙ c.args.self.now.indexed.items_found name)
    ∙ first_seen (λ e. e.name.now) item_view first_entry (λ x. refl) (λ v ys x. refl) items name

pub returns-in_err-item : goal.returns-in_err-item
returns-in_err-item c =
    let name = c.args.name.now in
    let items = c.args.self.now.items in
    let place = c.in_ok-number.field-0 in
    let none = ap (λ items. slice_get items place) (sym c.as_slice.ensures.items)
    ∙ slice_get_past c.as_slice.result.now place (ltb-false _ _ (sym c.in_err-item.ensures.lookup.0)) in
    ap (option_map item_view) c.from_residual-in_err-item.ensures ∙ ap (option_map item_view) (sym none)
    ∙ ap (λ o. option_map item_view (option_and_then (slice_get items) o))
    (sym c.in_ok-number.was ∙ c.number.ensures ∙ c.args.self.now.indexed.items_found name)
    ∙ first_seen (λ e. e.name.now) item_view first_entry (λ x. refl) (λ v ys x. refl) items name

pub returns : goal.returns
returns c =
    let name = c.args.name.now in
    let items = c.args.self.now.items in
    let place = c.in_ok-number.field-0 in
    let slice = c.as_slice.result.now in
    let there = ap (λ items. slice_get items place) (sym c.as_slice.ensures.items)
    ∙ slice_get_read slice (length slice) place _ refl (ltb-true _ _ (sym c.in_ok-item.ensures.lookup.0))
    c.in_ok-item.ensures.lookup.1 in
    ap (option_map item_view) (sym there)
    ∙ ap (λ o. option_map item_view (option_and_then (slice_get items) o))
    (sym c.in_ok-number.was ∙ c.number.ensures ∙ c.args.self.now.indexed.items_found name)
    ∙ first_seen (λ e. e.name.now) item_view first_entry (λ x. refl) (λ v ys x. refl) items name
