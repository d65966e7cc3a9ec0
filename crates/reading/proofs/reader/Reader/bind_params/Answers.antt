use Rattle.std.proofs.Common.{◌≡◌, ◌+◌, drop, refl, sym, ap, ap₂, ◌∙◌}
use Rattle.rp_ast.specs.View.{ident_view, params_view, type_view}
use Rattle.type_rules.specs.Kinds.{kind_of}
use Rattle.type_rules.specs.Matches.{bound_var}
use Rattle.text_names.proofs.Entries.{drop_past}
use Rattle.text_tables.specs.Seen.{tables_view}
use Rattle.reading.specs.declared.reader.Known.TheVariants as known
use Rattle.reading.specs.Reads.{with_params, with_var}
use Rattle.reading.proofs.Found.{next_in}
use Rattle.reading.proofs.reader.Reader.bind_params.Goals as goal

pub loop-param-init : goal.loop-param-init
loop-param-init c = (refl, refl)

pub loop-param-preserved : goal.loop-param-preserved
loop-param-preserved c =
    let n = (tables_view c.args.self.now.tables.now).names in
    let params = c.args.params.now in
    let i = c.loop-param.param-index in
    let p = c.param-item.result in
    let old = c.loop-param.self in
    let rest = params_view (drop (i + 1) params) in
    let kind : c.in_ok-kind.kind ≡ kind_of n (type_view p.ty) =
    c.in_ok-kind.ensures ∙ ap (λ m. kind_of m (type_view p.ty)) c.names.ensures
    ∙ ap (λ t. kind_of (tables_view t).names (type_view p.ty)) c.loop-param.invariant.0 in
    let made = c.in_ok-bind.ensures
    ∙ ap₂ (λ k m. with_var old (bound_var (ident_view p.name) k) (known.Param m)) kind c.count-number.ensures.length in (
      ap (λ r. r.tables.now) c.in_ok-bind.ensures ∙ c.loop-param.invariant.0,
      ap (λ r. with_params n r rest) made
          ∙ sym (next_in (λ ps. with_params n old (params_view ps)) params i p c.loop-param-test.true c.param-item.is)
          ∙ c.loop-param.invariant.1,
    )

pub returns : goal.returns
returns c =
    let n = (tables_view c.args.self.now.tables.now).names in
    sym (ap (λ ps. with_params n c.loop-param.self (params_view ps)) (drop_past c.args.params.now c.loop-param.param-index c.loop-param-test.false))
    ∙ c.loop-param.invariant.1
