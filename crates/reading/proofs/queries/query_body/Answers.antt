use Rattle.std.proofs.Common.{◌≡◌, Some, ap, subst, ◌∙◌}
use Rattle.rp_ast.specs.View.{expr_view, params_view, type_view}
use Rattle.type_rules.specs.Kinds.{kind_of}
use Rattle.text_names.proofs.Entries.{if_ok}
use Rattle.text_tables.specs.Seen.{tables_view}
use Rattle.query_bodies.specs.Expanded.{uses_of}
use Rattle.query_bodies.specs.Views.{body_view}
use Rattle.query_laws.specs.Sight.{Says, Sight, in_body}
use Rattle.reading.specs.declared.reader.Reader.{Reader}
use Rattle.reading.specs.Reads.{Reads, with_params}
use Rattle.reading.proofs.Kept.{body_kept, body_sight}
use Rattle.reading.proofs.queries.query_body.Goals as goal

pub returns : goal.returns
returns c =
    let t = tables_view c.args.tables.now in
    let u = uses_of c.args.bodies.now in
    let q = c.args.query.now in
    let ps = params_view q.params in
    let r = c.new-reader.result in
    let kind : c.in_ok-kind.kind ≡ kind_of t.names (type_view q.result) =
    c.in_ok-kind.ensures ∙ ap (λ n. kind_of n (type_view q.result)) c.names.ensures in
    let tables : tables_view r.tables.now ≡ t = ap tables_view c.new-reader.ensures.tables in
    let bound : c.bind_params.new.self ≡ with_params t.names r ps =
    c.in_ok-bind_params.ensures ∙ ap (λ n. with_params n r (params_view c.as_slice.result.now)) (ap (λ t. t.names) tables)
    ∙ ap (λ ps. with_params t.names r (params_view ps)) c.as_slice.ensures.items in
    if_ok c.body.result
    (λ m reads.
    let says = ((subst (λ (b : Reader). Reads b c.body.new.self (λ s. Says s (Some c.in_ok-kind.kind) (expr_view q.body) (body_view m))) bound reads).left
    (body_kept t.names r ps c.new-reader.ensures.vars c.new-reader.ensures.known)).says in
    subst (λ k. Says (in_body t u ps) (Some k) (expr_view q.body) (body_view m)) kind
    (subst (λ (s : Sight). Says s (Some c.in_ok-kind.kind) (expr_view q.body) (body_view m))
    (body_sight t u r ps c.new-reader.ensures.vars c.new-reader.ensures.known c.new-reader.ensures.binders tables (ap uses_of c.new-reader.ensures.bodies)) says))
    c.body.ensures
