use Rattle.std.proofs.Common.{arith}
use Rattle.rp_verify.proofs.RowLemmas.{OnOk-implies, last_row, both_rows}
use Rattle.rp_verify.proofs.rows.+add_rows.Goals as goal

pub returns-then-from-params : goal.returns-then-from-params
returns-then-from-params t c = last_row c.args.row c.args.from c.args.params c.args.rows.now.items c.push.new.self.items c.if-from-params.true c.in_ok-push.ensures.items

pub returns : goal.returns
returns t c =
    OnOk-implies c.add_rows-2.result
    (both_rows c.args.row c.args.from c.args.params c.args.rows.now.items c.add_rows.new.rows.items c.add_rows-2.new.rows.items (omega arith) (omega arith) c.in_ok-add_rows.ensures)
    c.add_rows-2.ensures
