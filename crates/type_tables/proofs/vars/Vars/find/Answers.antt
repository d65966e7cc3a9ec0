use Rattle.std.proofs.Common.{refl, ap, sym, ◌∙◌, length, ltb-true}
use Rattle.std.proofs.lemmas.Bool.{ltb-false}
use Rattle.std.proofs.lemmas.Option.{slice_get_past, slice_get_read}
use Rattle.std.specs.List.{slice_get}
use Rattle.std.specs.Option.{option_map}
use Rattle.type_rules.specs.Accesses.{find_var}
use Rattle.type_tables.specs.Tables.{place_from}
use Rattle.type_tables.specs.Variables.{known_names, var_view}
use Rattle.type_tables.proofs.Seen.{missing, placed, unplaced}
use Rattle.type_tables.proofs.vars.Vars.find.Goals as goal

pub returns-in_err-place : goal.returns-in_err-place
returns-in_err-place c =
    let name = c.args.name.now in
    ap (option_map var_view) c.from_residual.ensures
    ∙ unplaced c.self.inside.items.items c.self.inside.set name c.self.invariant.long
    (sym c.in_err-place.was ∙ c.place_in.ensures ∙ ap (λ items. place_from 0 (known_names items) name) c.as_slice-items.ensures.value)
    ∙ ap (λ vs. find_var vs name) c.self.view_is

pub returns-in_err-known : goal.returns-in_err-known
returns-in_err-known c =
    let name = c.args.name.now in
    let place = c.in_ok-place.field-0 in
    let none = ap (λ items. slice_get items place) (sym c.as_slice-items.ensures.value)
    ∙ slice_get_past c.as_slice-items.result.now place (ltb-false _ _ (sym c.in_err-known.ensures.lookup.0)) in
    ap (option_map var_view) c.from_residual-in_err-known.ensures
    ∙ missing c.self.inside.items.items c.self.inside.set name place c.self.invariant.long
    (sym c.in_ok-place.was ∙ c.place_in.ensures ∙ ap (λ items. place_from 0 (known_names items) name) c.as_slice-items.ensures.value) none
    ∙ ap (λ vs. find_var vs name) c.self.view_is

pub returns : goal.returns
returns c =
    let name = c.args.name.now in
    let place = c.in_ok-place.field-0 in
    let items = c.as_slice-items.result.now in
    let there = ap (λ items. slice_get items place) (sym c.as_slice-items.ensures.value)
    ∙ slice_get_read items (length items) place _ refl (ltb-true _ _ (sym c.in_ok-known.ensures.lookup.0))
    c.in_ok-known.ensures.lookup.1 in
    placed c.self.inside.items.items c.self.inside.set name place c.in_ok-known.known.now c.has.result c.self.invariant.long
    (sym c.in_ok-place.was ∙ c.place_in.ensures ∙ ap (λ items. place_from 0 (known_names items) name) c.as_slice-items.ensures.value) there c.has.ensures
    ∙ ap (λ vs. find_var vs name) c.self.view_is
