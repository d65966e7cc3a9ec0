use Rattle.std.proofs.Common.{◌++◌, ◌∷◌, [], ap, refl, ◌∙◌}
use Rattle.std.specs.Prelude.{codes}
use Rattle.desugaring.specs.Tables.{con_of}
use Rattle.text_names.proofs.Placed.{on_ok}
use Rattle.text_tables.specs.Seen.{tables_view}
use Rattle.text_tables.proofs.ConsLaw.{two_cons}
use Rattle.text_tables.proofs.tables.Tables.bool_cons.Goals as goal

pub returns : goal.returns
returns c =
    let t = tables_view c.args.self.now in
    let of = c.in_ok-of.of in
    let old = c.args.cons.now in
    let mid = c.push_con.new.cons in
    on_ok c.push_con-2.result
    (λ is. two_cons t c.args.kind (codes "false") (codes "true") [] [] of [] [] old mid c.push_con-2.new.cons c.in_ok-of.ensures refl refl
    (c.in_ok-push_con.ensures ∙ ap (λ tys. old ++ con_of (codes "false") of tys ∷ []) c.new.ensures)
    (is ∙ ap (λ tys. mid ++ con_of (codes "true") of tys ∷ []) c.new-2.ensures))
    c.push_con-2.ensures
