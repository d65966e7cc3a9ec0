use Rattle.std.proofs.Common.{refl, ap, sym, ◌∙◌, length, ltb-true}
use Rattle.std.proofs.lemmas.Bool.{ltb-false}
use Rattle.std.proofs.lemmas.Option.{slice_get_past, slice_get_read}
use Rattle.std.specs.List.{slice_get}
use Rattle.std.specs.Option.{option_and_then, option_map}
use Rattle.rp_ast.specs.View.{con_view}
use Rattle.type_tables.proofs.Places.{first_seen}
use Rattle.text_names.specs.Cons.{con_named}
use Rattle.text_names.proofs.cons.ConList.named.Goals as goal

pub returns-in_err-number : goal.returns-in_err-number
returns-in_err-number c =
    let name = c.args.name.now in
    let cons = c.args.self.now.cons.now in
    ap (option_map (λ con. con_view con.now)) c.from_residual.ensures
    ∙ ap (λ o. option_map con_view (option_and_then (slice_get cons) o))
    (sym c.in_err-number.was ∙ c.number.ensures ∙ c.args.self.now.found name)
    ∙ first_seen (λ con. con.name.text) con_view con_named (λ x. refl) (λ v ys x. refl) cons name

pub returns-in_err-con : goal.returns-in_err-con
returns-in_err-con c =
    let name = c.args.name.now in
    let cons = c.args.self.now.cons.now in
    let place = c.in_ok-number.field-0 in
    let none = ap (λ items. slice_get items place) (sym c.as_slice.ensures.items)
    ∙ slice_get_past c.as_slice.result.now place (ltb-false _ _ (sym c.in_err-con.ensures.lookup.0)) in
    ap (option_map (λ con. con_view con.now)) c.from_residual-in_err-con.ensures ∙ ap (option_map con_view) (sym none)
    ∙ ap (λ o. option_map con_view (option_and_then (slice_get cons) o))
    (sym c.in_ok-number.was ∙ c.number.ensures ∙ c.args.self.now.found name)
    ∙ first_seen (λ con. con.name.text) con_view con_named (λ x. refl) (λ v ys x. refl) cons name

pub returns : goal.returns
returns c =
    let name = c.args.name.now in
    let cons = c.args.self.now.cons.now in
    let place = c.in_ok-number.field-0 in
    let items = c.as_slice.result.now in
    let there = ap (λ items. slice_get items place) (sym c.as_slice.ensures.items)
    ∙ slice_get_read items (length items) place _ refl (ltb-true _ _ (sym c.in_ok-con.ensures.lookup.0))
    c.in_ok-con.ensures.lookup.1 in
    ap (option_map con_view) (sym there)
    ∙ ap (λ o. option_map con_view (option_and_then (slice_get cons) o))
    (sym c.in_ok-number.was ∙ c.number.ensures ∙ c.args.self.now.found name)
    ∙ first_seen (λ con. con.name.text) con_view con_named (λ x. refl) (λ v ys x. refl) cons name
