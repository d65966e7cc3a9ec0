use Rattle.std.proofs.Common.{◌∙◌, arith}
use Rattle.formula_enc.proofs.BoundsViews.{inv-Quantified, inv-past, inv-within}
use Rattle.formula_enc.proofs.bounds.Bounds.+is_inv.Goals as goal

pub returns-else-n-eq0 : goal.returns-else-n-eq0
returns-else-n-eq0 t c = c.is_inv.ensures ∙ inv-Quantified _ _ _ _ _ c.in-Quantified.is (omega (arith, c.if-n-eq0.false))

pub returns-then-n-fields : goal.returns-then-n-fields
returns-then-n-fields t c = c.is_inv_type-then-n-fields.ensures ∙ inv-within _ _ _ _ _ _ _ c.in-Fields.is c.if-n-fields.true c.from_end.ensures

pub returns-else-n-fields : goal.returns-else-n-fields
returns-else-n-fields t c = c.is_inv-else-n-fields.ensures ∙ inv-past _ _ _ _ _ _ _ c.in-Fields.is (omega (arith, c.if-n-fields.false))
