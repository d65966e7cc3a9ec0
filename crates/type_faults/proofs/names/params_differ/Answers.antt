use Rattle.std.proofs.Common.{[], map, ap, subst}
use Rattle.rp_ast.specs.View.{params_view}
use Rattle.type_rules.specs.Names.{param_name}
use Rattle.text_names.proofs.Entries.{drop_past}
use Rattle.type_faults.proofs.Lists.{next_in, no_names}
use Rattle.type_faults.proofs.Named.{NamedSo, named_ended, named_next, named_started}
use Rattle.type_faults.proofs.names.params_differ.Goals as goal

pub loop-param-init : goal.loop-param-init
loop-param-init c = λ n. named_started (no_names c.new-before.ensures)

pub loop-param-preserved : goal.loop-param-preserved
loop-param-preserved c = λ n.
    let params = c.args.params.now in
    let now = subst (λ l. NamedSo n c.loop-param.before c.loop-param.best [] l (map param_name (params_view params)))
    (next_in (λ l. map param_name (params_view l)) params c.loop-param.param-index c.param-item.result c.loop-param-test.true c.param-item.is)
    (c.loop-param.invariant n) in
    named_next now (c.in_ok-name_fault.ensures n now.now now.table_is) c.sooner-best.ensures

pub returns : goal.returns
returns c = λ n.
    let params = c.args.params.now in
    let end = named_ended
    (subst (λ l. NamedSo n c.loop-param.before c.loop-param.best [] l (map param_name (params_view params)))
    (ap (λ l. map param_name (params_view l)) (drop_past params c.loop-param.param-index c.loop-param-test.false)) (c.loop-param.invariant n)) in
    end.fault_is
