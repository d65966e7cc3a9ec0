use Rattle.std.proofs.Common.{[], subst, sym, ◌∙◌}
use Rattle.rp_logic.specs.Sorted.{IsWellSorted}
use Rattle.rp_logic.specs.Filling.{MeansSame}
use Rattle.rp_logic.specs.Views.{formula_view}
use Rattle.reshaped.proofs.ShapeLaws.{reshaped-keeps, plain-stays}
use Rattle.reshaped.proofs.reshaping.reshape.Goals as goal

pub returns-clause-keeps : goal.returns-clause-keeps
returns-clause-keeps c =
    λ S sorted. subst (λ g. MeansSame S [] [] g (formula_view c.args.f.now) × IsWellSorted S g) (sym c.in_ok-made.ensures) (reshaped-keeps S (formula_view c.args.f.now) sorted)

pub returns-clause-plain : goal.returns-clause-plain
returns-clause-plain c = λ is. c.in_ok-made.ensures ∙ plain-stays (formula_view c.args.f.now) is
