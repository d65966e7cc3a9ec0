use Rattle.std.proofs.Common.{ap, subst}
use Rattle.rp_ast.specs.View.{params_view}
use Rattle.text_names.proofs.Entries.{drop_past}
use Rattle.type_faults.proofs.Bound.{ParamsSo, params_ended, params_next, params_started}
use Rattle.type_faults.proofs.Lists.{next_in}
use Rattle.type_faults.proofs.walk.Walk.bring_all.Goals as goal

pub loop-param-init : goal.loop-param-init
loop-param-init c = λ later counted. params_started {later = later} counted

pub loop-param-preserved : goal.loop-param-preserved
loop-param-preserved c = λ later counted.
    let params = c.args.params.now in
    let now = subst (λ rest. ParamsSo later c.args.self.now c.loop-param.self c.loop-param.best rest (params_view params))
    (next_in params_view params c.loop-param.param-index c.param-item.result c.loop-param-test.true c.param-item.is)
    (c.loop-param.invariant later counted) in
    params_next now (c.in_ok-bring_param.ensures later now.walks.counted) c.sooner-best.ensures

pub returns : goal.returns
returns c = λ later counted.
    params_ended (c.loop-param.invariant later counted)
    (ap params_view (drop_past c.args.params.now c.loop-param.param-index c.loop-param-test.false))
