use Rattle.std.proofs.Common.{◌<◌, ap, ◌∙◌, arith}
use Rattle.rp_logic.specs.Views.{formula_view}
use Rattle.reshaped.proofs.ClauseViews.{alls_of, fewer_alls, beside-All}
use Rattle.reshaped.proofs.clauses.+beside.Goals as goal

pub beside-requires : goal.beside-requires
beside-requires t c =
    let low = fewer_alls _ _ _ _ c.in-All.is c.get.ensures in
    let goes : alls_of (formula_view c.get.result.now) < t = omega (arith, low, c.decreases) in (goes, tt)

pub returns-in_ok-new-in-All : goal.returns-in_ok-new-in-All
returns-in_ok-new-in-All t c =
    ap formula_view c.in_ok-new-in-All.ensures
    ∙ beside-All _ _ _ _ _ _ _ _ c.in-All.is c.get.ensures c.in_ok-outer-in-All.ensures c.as_slice-in-All.ensures.items c.in_ok-made-in-All.ensures
