use Rattle.std.proofs.Common.{◌++◌, ◌∷◌, [], ap, refl, ◌∙◌}
use Rattle.std.specs.Prelude.{codes}
use Rattle.desugaring.specs.Tables.{con_of}
use Rattle.text_names.proofs.Placed.{on_ok}
use Rattle.text_tables.specs.Seen.{tables_view}
use Rattle.text_tables.proofs.ConsLaw.{one_ty, two_cons}
use Rattle.text_tables.proofs.tables.Tables.maybe_cons.Goals as goal

pub returns : goal.returns
returns c =
    let t = tables_view c.args.self.now in
    let of = c.in_ok-of.of in
    let ty = c.in_ok-held.held in
    let old = c.args.cons.now in
    let mid = c.push_con.new.cons in
    on_ok c.push_con-2.result
    (λ is. two_cons t c.args.kind (codes "none") (codes "some") [] (c.args.held ∷ []) of [] (ty ∷ []) old mid c.push_con-2.new.cons c.in_ok-of.ensures refl
    (one_ty t c.args.held ty c.in_ok-held.ensures.found)
    (c.in_ok-push_con.ensures ∙ ap (λ tys. old ++ con_of (codes "none") of tys ∷ []) c.new.ensures)
    (is ∙ ap (λ tys. mid ++ con_of (codes "some") of tys ∷ []) (c.in_ok-push.ensures.ok ∙ ap (λ tys. tys ++ ty ∷ []) c.new-fields.ensures)))
    c.push_con-2.ensures
