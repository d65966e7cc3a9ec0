use Rattle.std.proofs.Common.{◌≡◌, [], drop}
use Rattle.rp_ast.specs.View.{params_view}
use Rattle.type_rules.specs.Kinds.{param_kinds}
use Rattle.desugaring.specs.Tables.{ty_of}
use Rattle.text_tables.specs.Seen.{tables_view}
use Rattle.text_tables.specs.means.Grown.{grown}
use Rattle.text_tables.proofs.tables.Tables.params.Given as goal

abbrev pub invariant-loop-param : goal.invariant-loop-param
invariant-loop-param l =
    let t = tables_view l.self in
    grown (ty_of t) l.tys (param_kinds t.names (params_view (drop l.param-index l.params)))
    ≡ grown (ty_of t) [] (param_kinds t.names (params_view l.params))
