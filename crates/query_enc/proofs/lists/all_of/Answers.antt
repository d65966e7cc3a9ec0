use Rattle.std.proofs.Common.{◌∙◌, arith}
use Rattle.rp_logic.proofs.FormulaViews.{formula_view-And}
use Rattle.query_enc.proofs.Joins.{many_all}
use Rattle.query_enc.proofs.lists.all_of.Goals as goal

pub returns-else-len-eq1 : goal.returns-else-len-eq1
returns-else-len-eq1 c = formula_view-And c.args.fs ∙ many_all c.args.fs (λ e. absurd (omega (arith, c.if-len-eq1.false, c.len.ensures.length, e)))
