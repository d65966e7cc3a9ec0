use Rattle.std.proofs.Common.{[], ◌∷◌, ◌++◌, map, ap, ◌∙◌}
use Rattle.rp_logic.specs.Views.{formula_view}
use Rattle.axiom_forms.specs.Together.{markers}
use Rattle.axiom_forms.proofs.Chains.{behind}
use Rattle.axiom_forms.proofs.results.push_markers_stand.Goals as goal

pub returns : goal.returns
returns c =
    behind _ _ _ _ _ (c.in_ok-push_formula.ensures ∙ ap (λ f. map formula_view c.args.axioms.now ++ f ∷ []) c.in_ok-is_marked.ensures) c.in_ok-push_each.ensures
    ∙ ap (λ con. map formula_view c.args.axioms.now ++ markers con) c.in_ok-con.ensures
