use Rattle.std.proofs.Common.{◌||◌, get_or, refl, ap, ◌∙◌}
use Rattle.crdt_defs.specs.Calls.{calls_view}
use Rattle.crdt_defs.specs.Snapshots.{bit}
use Rattle.machine_tests.proofs.RowLemmas.{marks_more, none_seen}
use Rattle.machine_tests.proofs.rows.mark_txs.Goals as goal

pub loop-tx-init : goal.loop-tx-init
loop-tx-init c = record {
  row = c.requires;
  marked = λ n. none_seen (calls_view c.args.h.now) c.args.sees.now n (bit c.args.row.now n);
}

pub loop-tx-preserved : goal.loop-tx-preserved
loop-tx-preserved c =
    let calls = calls_view c.args.h.now in
    let tx = get_or c.args.sees.now c.loop-tx.tx-index 0 in
    record {
      row = c.mark_all.ensures.row;
      marked = λ n. marks_more calls c.args.sees.now c.loop-tx.tx-index tx 0 n (bit c.mark_all.new.row n) (bit c.loop-tx.row n) (bit c.args.row.now n) c.loop-tx-test.true refl
          (c.mark_all.ensures.marked n ∙ ap (λ b. b || bit c.loop-tx.row n) (c.of_tx.ensures.calls n)) (c.loop-tx.invariant.marked n);
    }
