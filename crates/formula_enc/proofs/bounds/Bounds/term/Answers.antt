use Rattle.std.proofs.Common.{◌≡◌, IfOk, subst}
use Rattle.rp_logic.specs.Views.{term_view}
use Rattle.formula_enc.proofs.BoundsViews.{not_raised}
use Rattle.formula_enc.proofs.bounds.Bounds.term.Goals as goal

pub returns : goal.returns
returns c = subst (λ x. IfOk c.raised_term.result (λ t. term_view t ≡ x)) (not_raised _) c.raised_term.ensures
