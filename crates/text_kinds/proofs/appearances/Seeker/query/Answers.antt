use Rattle.std.proofs.Common.{◌≡◌, List, Some, sym, ap, ◌∙◌}
use Rattle.rp_ast.specs.declared.ty.Param.{Param}
use Rattle.rp_ast.specs.View.{expr_view, params_view, type_view}
use Rattle.type_rules.specs.Kinds.{kind_of}
use Rattle.type_rules.specs.Queries.{param_vars}
use Rattle.desugaring.specs.Appearances.{parts}
use Rattle.text_names.proofs.Placed.{on_ok}
use Rattle.text_kinds.specs.means.Brought.{Seen, expr_brings, params_bring, seeing, sought}
use Rattle.text_kinds.specs.means.Walked.{seen}
use Rattle.text_kinds.proofs.Walks.{declared_walk}
use Rattle.text_kinds.proofs.appearances.Seeker.query.Goals as goal

pub returns : goal.returns
returns c = λ none.
    let start = seen c.args.self.now in
    let n = start.kinds.names in
    let query = c.args.query.now in
    let mid = seen c.params.new.self in
    let here = seen c.written.new.self in
    let params = params_view query.params in
    let ty = type_view query.result in
    let body = expr_view query.body in
    let kind : c.in_ok-kind.kind ≡ kind_of here.kinds.names ty =
    c.in_ok-kind.ensures.kind ∙ ap (λ (s : Seen). kind_of s.kinds.names ty) (sym c.in_ok-kind.ensures.sought) in
    on_ok c.expr.result
    (λ e. declared_walk start mid here (seen c.expr.new.self) (params_bring n params) (param_vars n params)
    (λ m. parts m (kind_of m ty)) (λ m ws. expr_brings m ws (Some (kind_of m ty)) body)
    (c.in_ok-params.ensures none
    ∙ ap (λ (ps : List Param). seeing (sought start (params_bring n (params_view ps))) (param_vars n (params_view ps)))
    c.as_slice.ensures.items)
    c.in_ok-kind.ensures.sought
    (e ∙ ap (λ k. sought here (expr_brings here.kinds.names here.vars (Some k) body)) kind))
    c.expr.ensures
