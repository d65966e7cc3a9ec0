use Rattle.std.proofs.Common.{◌∙◌, arith}
use Rattle.rp_logic.proofs.FormulaViews.{formula_view-Or}
use Rattle.query_enc.proofs.Joins.{many_any}
use Rattle.query_enc.proofs.lists.any_of.Goals as goal

pub returns-else-len-eq1 : goal.returns-else-len-eq1
returns-else-len-eq1 c = formula_view-Or c.args.fs ∙ many_any c.args.fs (λ e. absurd (omega (arith, c.if-len-eq1.false, c.len.ensures.length, e)))
