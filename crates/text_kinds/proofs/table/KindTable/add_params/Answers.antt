use Rattle.std.proofs.Common.{◌+◌, List, drop, ap}
use Rattle.rp_ast.specs.declared.ty.Param.{Param}
use Rattle.rp_ast.specs.View.{params_view, type_view}
use Rattle.type_rules.specs.declared.kind.Kind.{Kind}
use Rattle.type_rules.specs.Names.{Names}
use Rattle.type_rules.specs.Kinds.{kind_of}
use Rattle.desugaring.specs.Appearances.{parts}
use Rattle.text_names.specs.Declarations.{names_view}
use Rattle.text_kinds.specs.Seen.{kinds_view}
use Rattle.text_kinds.specs.means.Brought.{params_bring}
use Rattle.text_kinds.proofs.Walks.{kinds_on, names_on, rest_is}
use Rattle.text_kinds.proofs.table.KindTable.add_params.Goals as goal

pub loop-param-preserved : goal.loop-param-preserved
loop-param-preserved c =
    let start = c.args.self.now in
    let old = c.loop-param.self in
    let n = names_view start.names.now in
    let params = c.args.params.now in
    let i = c.loop-param.param-index in
    let x = c.param-item.result in
    let f : Names → List Kind = λ m. parts m (kind_of m (type_view x.ty)) in
    record {
      names = names_on (kinds_view start) (kinds_view old) (kinds_view c.add_written.new.self) f c.loop-param.invariant.names
          c.in_ok-add_written.ensures;
      comes = kinds_on (kinds_view start) (kinds_view old) (kinds_view c.add_written.new.self)
          (params_bring n (params_view (drop i params))) (params_bring n (params_view (drop (i + 1) params)))
          (params_bring n (params_view params)) f
          c.loop-param.invariant.names c.loop-param.invariant.comes
          (ap (λ (xs : List Param). params_bring n (params_view xs)) (rest_is params i x c.loop-param-test.true c.param-item.is))
          c.in_ok-add_written.ensures;
    }
