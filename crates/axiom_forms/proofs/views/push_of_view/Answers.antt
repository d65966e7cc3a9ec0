use Rattle.std.proofs.Common.{◌∷◌, ◌++◌, map, ap₂, ◌∙◌}
use Rattle.rp_logic.specs.Views.{formula_view}
use Rattle.hist_struct.specs.Axioms.{part_of, closed}
use Rattle.axiom_forms.proofs.Chains.{behind_three}
use Rattle.axiom_forms.proofs.views.push_of_view.Goals as goal

pub returns : goal.returns
returns c =
    behind_three _ _ _ _ _ _ _ c.in_ok-push_part_of.ensures c.in_ok-push_part_of-2.ensures c.in_ok-push_closed.ensures
    ∙ ap₂ (λ s r. map formula_view c.args.axioms.now ++ (part_of s 0 ∷ part_of s r ∷ closed s)) c.in_ok-seen.ensures c.in_ok-read_rel.ensures
