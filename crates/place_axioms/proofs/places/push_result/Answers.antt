use Rattle.std.proofs.Common.{◌≡◌, [], ◌∷◌, ◌++◌, map, ap, sym, subst, ◌∙◌}
use Rattle.std.specs.Prelude.{OnOk}
use Rattle.rp_lang.specs.ProgramView.{program_view}
use Rattle.rp_logic.specs.Views.{formula_view}
use Rattle.rp_logic.specs.Terms.{Var}
use Rattle.rp_logic.specs.Formulas.{no_fm}
use Rattle.rp_symbols.specs.Numbers.{inv_sort, old_result_fn, outcome_con}
use Rattle.crdt_enc.specs.Builders.{applied}
use Rattle.rp_symbols.specs.Signatures.{result_list}
use Rattle.hist_struct.specs.Axioms.{of_con, places}
use Rattle.hist_struct.specs.Defaults.{most_parts}
use Rattle.place_axioms.specs.Spots.{Reached}
use Rattle.place_axioms.proofs.BelowLaws.{at_most}
use Rattle.place_axioms.proofs.SpotViews.{spot_view-Whole}
use Rattle.place_axioms.proofs.places.push_result.Goals as goal

pub returns-in_ok-con-in-Some : goal.returns-in_ok-con-in-Some
returns-in_ok-con-in-Some c =
    let p = program_view c.args.p.now in
    let rec = places p inv_sort 2 most_parts in
    let is = at_most p inv_sort 2 _ c.in_ok-con-in-Some.con (c.in-Some.ty ∷ []) _
    ∙ ap (λ (r : Reached). of_con rec r.given c.in_ok-con-in-Some.con (c.in-Some.ty ∷ []) r.term) (spot_view-Whole 3)
    ∙ ap (λ con. of_con rec no_fm con (c.in-Some.ty ∷ []) (applied old_result_fn (Var 0))) c.in_ok-con-in-Some.ensures
    ∙ ap (λ o. of_con rec no_fm (outcome_con p c.args.n) (result_list o) (applied old_result_fn (Var 0))) (sym c.in-Some.is) in
    subst (λ fs. OnOk c.push_fields.result (map formula_view c.push_fields.new.axioms ≡ map formula_view c.args.axioms.now ++ fs)) is c.push_fields.ensures
