use Rattle.std.proofs.Common.{◌≡◌, IfOk, Some, subst, sym, ◌∙◌}
use Rattle.rp_logic.specs.Views.{terms_view}
use Rattle.refute_branch.specs.Views.{branch_view}
use Rattle.refute_rules.proofs.Sides.{some_sides}
use Rattle.refute_rules.proofs.congruences.some_other_sides.Goals as goal

pub returns-else-is_empty-clause-found : goal.returns-else-is_empty-clause-found
returns-else-is_empty-clause-found c =
    subst (λ o. IfOk c.other_sides.result (λ us. o ≡ Some (terms_view us)))
    (sym (some_sides (branch_view c.args.b.now) c.args.places.now c.args.terms.now
    (sym c.is_empty.ensures ∙ c.if-is_empty.false))) c.other_sides.ensures.found
