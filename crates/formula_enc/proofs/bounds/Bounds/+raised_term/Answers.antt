use Rattle.std.proofs.Common.{◌≡◌, IfOk, subst, arith}
use Rattle.rp_logic.specs.Views.{term_view}
use Rattle.formula_enc.proofs.BoundsViews.{term-Quantified, term-past, term-within}
use Rattle.formula_enc.proofs.bounds.Bounds.+raised_term.Goals as goal

pub returns-in_ok-plus-in-Quantified : goal.returns-in_ok-plus-in-Quantified
returns-in_ok-plus-in-Quantified t c =
    subst (λ x. IfOk c.raised_term.result (λ made. term_view made ≡ x)) (term-Quantified _ _ _ _ _ _ _ c.in-Quantified.is (omega (arith, c.if-n-eq0.false)) c.in_ok-plus-in-Quantified.ensures) c.raised_term.ensures

pub returns-then-n-fields : goal.returns-then-n-fields
returns-then-n-fields t c =
    subst (λ x. IfOk c.field_term.result (λ made. term_view made ≡ x)) (term-within _ _ _ _ _ _ _ c.in-Fields.is c.if-n-fields.true) c.field_term.ensures

pub returns-else-n-fields : goal.returns-else-n-fields
returns-else-n-fields t c =
    subst (λ x. IfOk c.raised_term-else-n-fields.result (λ made. term_view made ≡ x)) (term-past _ _ _ _ _ _ _ _ c.in-Fields.is (omega (arith, c.if-n-fields.false))) c.raised_term-else-n-fields.ensures
