use Rattle.std.proofs.Common.{◌≡◌, ◌+◌, ◌++◌, List, [], ◌∷◌, append_assoc, drop, sym, ap, ap₂, ◌∙◌}
use Rattle.rp_ast.specs.declared.ty.Param.{Param}
use Rattle.rp_ast.specs.View.{ident_view, param_view, params_view, type_view}
use Rattle.type_rules.specs.Kinds.{kind_of}
use Rattle.type_rules.specs.Matches.{bound_var}
use Rattle.type_rules.specs.Queries.{param_var, param_vars}
use Rattle.type_rules.specs.Accesses.{Var}
use Rattle.desugaring.specs.Appearances.{parts}
use Rattle.text_kinds.specs.Numbered.{with_kinds}
use Rattle.text_kinds.specs.means.Brought.{Seen, params_bring}
use Rattle.text_kinds.specs.means.Walked.{seen}
use Rattle.text_kinds.proofs.Walks.{gains_on, rest_is}
use Rattle.text_kinds.proofs.appearances.Seeker.params.Goals as goal

pub loop-param-preserved : goal.loop-param-preserved
loop-param-preserved c =
    let start = seen c.args.self.now in
    let now = seen c.loop-param.self in
    let new = seen c.bind.new.self in
    let n = start.kinds.names in
    let params = c.args.params.now in
    let i = c.loop-param.param-index in
    let x = c.param-item.result in
    let v = param_var n (param_view x) in
    let rest = params_view (drop (i + 1) params) in
    let gains = c.loop-param.invariant in
    let one : drop i params ≡ x ∷ drop (i + 1) params = rest_is params i x c.loop-param-test.true c.param-item.is in
    let kind : c.in_ok-kind.kind ≡ kind_of n (type_view x.ty) =
    c.in_ok-kind.ensures.kind ∙ ap (λ m. kind_of m (type_view x.ty)) gains.names in
    let bound : new.vars ≡ now.vars ++ v ∷ [] =
    ap (λ (s : Seen). s.vars) c.in_ok-bind.ensures
    ∙ ap₂ (λ (vs : List Var) k. vs ++ bound_var (ident_view x.name) k ∷ [])
    (ap (λ (s : Seen). s.vars) c.in_ok-kind.ensures.sought) kind in
    gains_on start now new (params_bring n (params_view (drop i params))) (parts n (kind_of n (type_view x.ty)))
    (params_bring n rest) (params_bring n (params_view params))
    (now.vars ++ param_vars n (params_view (drop i params))) (new.vars ++ param_vars n rest)
    (start.vars ++ param_vars n (params_view params)) gains
    (ap (λ (xs : List Param). params_bring n (params_view xs)) one)
    (ap (λ (xs : List Param). now.vars ++ param_vars n (params_view xs)) one
    ∙ sym (append_assoc now.vars (v ∷ []) (param_vars n rest))
    ∙ ap (λ (vs : List Var). vs ++ param_vars n rest) (sym bound))
    (ap (λ (s : Seen). s.kinds) c.in_ok-bind.ensures ∙ ap (λ (s : Seen). s.kinds) c.in_ok-kind.ensures.sought
    ∙ ap (λ m. with_kinds (parts m (kind_of m (type_view x.ty))) now.kinds) gains.names)
