use Rattle.std.proofs.Common.{◌≡◌, ◌+◌, ◌++◌, List, [], ◌∷◌, drop, sym, ap, subst}
use Rattle.rp_ast.specs.declared.ty.Param.{Param}
use Rattle.rp_ast.specs.View.{params_view, type_view}
use Rattle.type_rules.specs.declared.kind.Kind.{Kind}
use Rattle.type_rules.specs.Kinds.{kind_of, param_kinds}
use Rattle.desugaring.specs.Tables.{ty_of}
use Rattle.text_kinds.proofs.Walks.{rest_is}
use Rattle.text_names.proofs.Entries.{drop_past}
use Rattle.text_tables.specs.Seen.{tables_view}
use Rattle.text_tables.specs.means.Grown.{grown}
use Rattle.text_tables.proofs.Growing.{from_nothing, grown_end, grown_step, grows_one}
use Rattle.text_tables.proofs.tables.Tables.params.Goals as goal

pub loop-param-preserved : goal.loop-param-preserved
loop-param-preserved c =
    let t = tables_view c.args.self.now in
    let params = c.args.params.now in
    let i = c.loop-param.param-index in
    let x = c.param-item.result in
    let now = c.loop-param.tys in
    let kind = kind_of t.names (type_view x.ty) in
    let ks : List Param → List Kind = λ xs. param_kinds t.names (params_view xs) in
    subst (λ tys. grown (ty_of t) tys (ks (drop (i + 1) params)) ≡ grown (ty_of t) [] (ks params)) (sym c.in_ok-push.ensures.ok)
    (grown_step (ty_of t) [] now (now ++ c.in_ok-ty.ty ∷ []) (ks params) (ks (drop i params)) (kind ∷ []) (ks (drop (i + 1) params)) c.loop-param.invariant
    (ap ks (rest_is params i x c.loop-param-test.true c.param-item.is)) (grows_one (ty_of t) now kind c.in_ok-ty.ty c.in_ok-ty.ensures))

pub returns : goal.returns
returns c =
    let t = tables_view c.args.self.now in
    let params = c.args.params.now in
    let i = c.loop-param.param-index in
    let ks : List Param → List Kind = λ xs. param_kinds t.names (params_view xs) in
    from_nothing (ty_of t) (ks params) c.loop-param.tys
    (grown_end (ty_of t) [] c.loop-param.tys (ks params) (ks (drop i params)) c.loop-param.invariant (ap ks (drop_past params i c.loop-param-test.false)))
