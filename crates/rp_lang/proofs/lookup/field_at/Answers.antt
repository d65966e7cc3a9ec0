use Rattle.std.proofs.Common.{◌≡◌, ◌∙◌, ap, sym, Some, None, slice_get, length, refl}
use Rattle.std.proofs.lemmas.Bool.{ltb-true, ltb-false}
use Rattle.std.proofs.lemmas.Option.{slice_get_read, slice_get_past}
use Rattle.std.specs.Option.{option_map}
use Rattle.rp_lang.specs.declared.crdt.Field.{Field}
use Rattle.rp_lang.specs.Views.{crdt_view}
use Rattle.rp_lang.proofs.PathLemmas.{field_seen}
use Rattle.rp_lang.proofs.lookup.field_at.Goals as goal

pub returns-in-Some : goal.returns-in-Some
returns-in-Some c =
    let at : slice_get c.args.fields.now c.args.n ≡ Some c.in-Some.field.now =
    slice_get_read c.args.fields.now (length c.args.fields.now) c.args.n _ refl (ltb-true _ _ (sym c.in-Some.ensures.lookup.0)) c.in-Some.ensures.lookup.1 in
    sym (field_seen c.args.fields.now c.args.n ∙ ap (option_map (λ (field : Field). crdt_view field.crdt)) at)

pub returns-in-None : goal.returns-in-None
returns-in-None c =
    let at : slice_get c.args.fields.now c.args.n ≡ None =
    slice_get_past c.args.fields.now c.args.n (ltb-false _ _ (sym c.in-None.ensures.lookup.0)) in
    sym (field_seen c.args.fields.now c.args.n ∙ ap (option_map (λ (field : Field). crdt_view field.crdt)) at)
