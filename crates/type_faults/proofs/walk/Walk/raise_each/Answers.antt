use Rattle.std.proofs.Common.{refl, ap, subst}
use Rattle.rp_ast.specs.View.{stmts_view}
use Rattle.text_names.proofs.Entries.{drop_past}
use Rattle.type_faults.proofs.Later.{RaisedSo, raised_ended, raised_next}
use Rattle.type_faults.proofs.Lists.{next_in}
use Rattle.type_faults.proofs.walk.Walk.raise_each.Goals as goal

pub loop-stmt-init : goal.loop-stmt-init
loop-stmt-init c = record { counts = λ x. refl; stands = refl; used = refl }

pub loop-stmt-preserved : goal.loop-stmt-preserved
loop-stmt-preserved c =
    let stmts = c.args.stmts.now in
    raised_next
    (subst (λ rest. RaisedSo c.args.self.now c.loop-stmt.self rest (stmts_view stmts))
    (next_in stmts_view stmts c.loop-stmt.stmt-index c.stmt-item.result c.loop-stmt-test.true c.stmt-item.is)
    c.loop-stmt.invariant)
    c.in_ok-raise.ensures

pub returns : goal.returns
returns c =
    raised_ended c.loop-stmt.invariant (ap stmts_view (drop_past c.args.stmts.now c.loop-stmt.stmt-index c.loop-stmt-test.false))
