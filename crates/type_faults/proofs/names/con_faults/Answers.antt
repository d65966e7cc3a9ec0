use Rattle.std.proofs.Common.{map, ap, subst}
use Rattle.rp_ast.specs.View.{con_view}
use Rattle.type_rules.specs.Names.{con_name}
use Rattle.text_names.proofs.Entries.{drop_past}
use Rattle.type_faults.proofs.Lists.{next_in}
use Rattle.type_faults.proofs.Named.{NamedSo, named_ended, named_next, named_started}
use Rattle.type_faults.proofs.names.con_faults.Goals as goal

pub loop-con-init : goal.loop-con-init
loop-con-init c = λ n names table. named_started table

pub loop-con-preserved : goal.loop-con-preserved
loop-con-preserved c = λ n names table.
    let cons = c.args.cons.now in
    let now = subst (λ l. NamedSo n c.loop-con.before c.loop-con.best names l (map con_name (map con_view cons)))
    (next_in (λ l. map con_name (map con_view l)) cons c.loop-con.con-index c.con-item.result c.loop-con-test.true c.con-item.is)
    (c.loop-con.invariant n names table) in
    named_next now (c.in_ok-name_fault.ensures n now.now now.table_is) c.sooner-best.ensures

pub returns : goal.returns
returns c = λ n names table.
    let cons = c.args.cons.now in
    named_ended
    (subst (λ l. NamedSo n c.loop-con.before c.loop-con.best names l (map con_name (map con_view cons)))
    (ap (λ l. map con_name (map con_view l)) (drop_past cons c.loop-con.con-index c.loop-con-test.false)) (c.loop-con.invariant n names table))
