use Rattle.std.proofs.Common.{◌++◌, map, ap₂, ◌∙◌}
use Rattle.rp_lang.specs.ProgramView.{program_view}
use Rattle.rp_lang.specs.Views.{proc_view}
use Rattle.rp_logic.specs.Views.{formula_view}
use Rattle.hist_struct.specs.Axioms.{results_fit}
use Rattle.axiom_forms.specs.Together.{outcomes_stay}
use Rattle.axiom_forms.proofs.Chains.{behind_three}
use Rattle.axiom_forms.proofs.results.push_results_stay.Goals as goal

pub returns : goal.returns
returns c =
    let p = program_view c.args.p.now in
    behind_three _ _ _ _ _ _ _ c.in_ok-push_outcomes_stay.ensures c.in_ok-push_results_fit.ensures c.in_ok-push_results_fit-2.ensures
    ∙ ap₂ (λ qs rs. map formula_view c.args.axioms.now ++ (outcomes_stay p ++ (results_fit p 3 0 (map proc_view qs) ++ results_fit p 4 0 (map proc_view rs)))) c.as_slice.ensures.items c.as_slice-2.ensures.items
