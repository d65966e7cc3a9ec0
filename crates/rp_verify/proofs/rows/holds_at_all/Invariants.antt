use Rattle.std.proofs.Common.{◌≡◌, drop}
use Rattle.std.specs.List.{list_all}
use Rattle.rp_lang.specs.Views.{formula_view}
use Rattle.rp_verify.specs.means.Rows.{holds}
use Rattle.rp_verify.proofs.rows.holds_at_all.Given as goal

abbrev pub invariant-loop-row : goal.invariant-loop-row
invariant-loop-row l = list_all (holds (formula_view l.formula)) l.rows ≡ list_all (holds (formula_view l.formula)) (drop l.row-index l.rows)
