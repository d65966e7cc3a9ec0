use Rattle.std.proofs.Common.{◌≡◌, List, sym, ap, ◌∙◌}
use Rattle.std.specs.Option.{option_map}
use Rattle.rp_ast.specs.declared.ty.Param.{Param}
use Rattle.rp_ast.specs.View.{block_view, optional, params_view, type_view}
use Rattle.type_rules.specs.Kinds.{kind_of}
use Rattle.type_rules.specs.Queries.{param_vars}
use Rattle.type_rules.specs.StmtSites.{result_kind}
use Rattle.text_names.proofs.Placed.{on_ok}
use Rattle.text_kinds.specs.means.Brought.{Seen, block_brings, params_bring, result_brings, seeing, sought}
use Rattle.text_kinds.specs.means.Walked.{seen}
use Rattle.text_kinds.proofs.Walks.{declared_walk}
use Rattle.text_kinds.proofs.appearances.Seeker.proc.Goals as goal

pub returns : goal.returns
returns c = λ none.
    let start = seen c.args.self.now in
    let n = start.kinds.names in
    let proc = c.args.proc.now in
    let mid = seen c.params.new.self in
    let here = seen c.result.new.self in
    let params = params_view proc.params in
    let ty = optional type_view proc.result in
    let body = block_view proc.body in
    let kind : c.in_ok-kind.kind ≡ result_kind (option_map (kind_of here.kinds.names) ty) =
    c.in_ok-kind.ensures.kind ∙ ap (λ (s : Seen). result_kind (option_map (kind_of s.kinds.names) ty))
    (sym c.in_ok-kind.ensures.sought) in
    on_ok c.block.result
    (λ e. declared_walk start mid here (seen c.block.new.self) (params_bring n params) (param_vars n params)
    (λ m. result_brings m ty) (λ m ws. block_brings m ws (result_kind (option_map (kind_of m) ty)) body)
    (c.in_ok-params.ensures none
    ∙ ap (λ (ps : List Param). seeing (sought start (params_bring n (params_view ps))) (param_vars n (params_view ps)))
    c.as_slice.ensures.items)
    c.in_ok-kind.ensures.sought
    (e ∙ ap (λ k. sought here (block_brings here.kinds.names here.vars k body)) kind))
    c.block.ensures
