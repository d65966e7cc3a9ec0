use Rattle.std.proofs.Common.{[], ◌∷◌, ◌++◌, refl, ap, ap₂, ◌∙◌}
use Rattle.rp_ast.specs.View.{expr_view, params_view, query_view, type_view}
use Rattle.type_rules.specs.declared.role.Role.TheVariants as role
use Rattle.type_rules.specs.Sites.{Site}
use Rattle.type_rules.specs.Kinds.{kind_of}
use Rattle.type_rules.specs.ExprSites.{asks, expr_sites}
use Rattle.type_rules.specs.Queries.{param_vars}
use Rattle.type_rules.specs.DeclSites.{param_sites, query_sites}
use Rattle.type_faults.specs.Walks.{names_at, scope_at, seeing, sight_of, stand_of}
use Rattle.type_faults.proofs.Walked.{both, here_one, recast, same_names}
use Rattle.type_faults.proofs.walk.Walk.query.Goals as goal

pub returns : goal.returns
returns c = λ counted empty.
    let a = c.args.self.now in
    let n = names_at a in
    let query = c.args.query.now in
    let ty = type_view query.result in
    let body = expr_view query.body in
    let params = params_view query.params in
    let slice = params_view c.as_slice.result.now in
    let first = c.in_ok-params.ensures [] counted empty in
    let written = here_one {later = []} (λ p. Site.written p.decl role.QueryResult ty) c.in_ok-written.ensures refl first.counted in
    let kind = c.in_ok-kind.ensures ∙ ap (λ n. kind_of n ty) (same_names first) in
    recast (λ p. query_sites p.names p.decl p.words (query_view query)) (λ p. record p.sight { vars = param_vars p.names params })
    (both first (both written (c.in_ok-body.ensures [] first.counted) c.sooner.ensures) c.sooner-2.ensures)
    (ap₂ (λ l w. param_sites n a.decl role.QueryParam (params_view l)
    ++ Site.written a.decl role.QueryResult ty
    ∷ expr_sites n (scope_at [] (seeing (stand_of a) (record (sight_of a) { vars = param_vars n (params_view l) }))) w body)
    c.as_slice.ensures.items (c.asks.ensures ∙ ap (asks 21) kind))
    (ap (λ l. record (sight_of a) { vars = param_vars n (params_view l) }) c.as_slice.ensures.items)
