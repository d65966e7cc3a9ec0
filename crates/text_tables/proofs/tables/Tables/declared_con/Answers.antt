use Rattle.std.proofs.Common.{◌++◌, ◌∷◌, [], ap, sym, ◌∙◌}
use Rattle.rp_ast.specs.View.{params_view}
use Rattle.type_rules.specs.Kinds.{param_kinds}
use Rattle.desugaring.specs.Parts.{each}
use Rattle.desugaring.specs.Tables.{con_of, ty_of}
use Rattle.text_names.proofs.Placed.{on_ok}
use Rattle.text_tables.specs.Seen.{tables_view}
use Rattle.text_tables.proofs.ConsLaw.{one_con}
use Rattle.text_tables.proofs.tables.Tables.declared_con.Goals as goal

pub returns : goal.returns
returns c =
    let t = tables_view c.args.self.now in
    let con = c.args.con.now in
    let of = c.in_ok-of.of in
    let tys = c.in_ok-fields.fields in
    let old = c.args.cons.now in
    on_ok c.push_con.result
    (λ is. one_con t c.args.kind con.name.text (param_kinds t.names (params_view con.fields)) of tys old c.push_con.new.cons c.in_ok-of.ensures
    (ap (λ ps. each (ty_of t) (param_kinds t.names (params_view ps))) (sym c.as_slice.ensures.items) ∙ c.in_ok-fields.ensures)
    (is ∙ ap (λ x. old ++ con_of x of tys ∷ []) c.as_slice-2.ensures.items))
    c.push_con.ensures
