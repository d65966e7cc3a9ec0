use Rattle.std.proofs.Common.{◌≡◌, filter, take}
use Rattle.rp_lang.specs.Views.{formula_view}
use Rattle.rp_verify.specs.means.Rows.{holds, fails}
use Rattle.rp_verify.proofs.rows.divided.Given as goal

abbrev pub invariant-loop-row : goal.invariant-loop-row
invariant-loop-row l = record {
  held : l.holding.items ≡ filter (holds (formula_view l.formula)) (take l.row-index l.rows);
  failed : l.failing.items ≡ filter (fails (formula_view l.formula)) (take l.row-index l.rows);
}
