use Rattle.std.proofs.Common.{◌≡◌, ◌++◌, map, ap, subst, ◌∙◌}
use Rattle.std.specs.Prelude.{OnOk}
use Rattle.rp_lang.specs.ProgramView.{program_view}
use Rattle.rp_logic.specs.Views.{formula_view}
use Rattle.rp_logic.specs.Terms.{Var}
use Rattle.rp_logic.specs.Formulas.{no_fm}
use Rattle.rp_symbols.specs.Numbers.{call_sort, op_con, op_fn}
use Rattle.crdt_enc.specs.Builders.{applied}
use Rattle.hist_struct.specs.Axioms.{of_con, places}
use Rattle.hist_struct.specs.Defaults.{most_parts}
use Rattle.place_axioms.specs.Spots.{Reached}
use Rattle.place_axioms.proofs.BelowLaws.{at_most}
use Rattle.place_axioms.proofs.SpotViews.{spot_view-Whole}
use Rattle.place_axioms.proofs.places.push_op.Goals as goal

pub returns : goal.returns
returns c =
    let p = program_view c.args.p.now in
    let rec = places p call_sort 0 most_parts in
    let is = at_most p call_sort 0 _ c.in_ok-con.con c.as_slice.result.now _
    ∙ ap (λ (r : Reached). of_con rec r.given c.in_ok-con.con c.as_slice.result.now r.term) (spot_view-Whole 0)
    ∙ ap (λ con. of_con rec no_fm con c.as_slice.result.now (applied op_fn (Var 0))) c.in_ok-con.ensures
    ∙ ap (λ tys. of_con rec no_fm (op_con p c.args.n) tys (applied op_fn (Var 0))) c.as_slice.ensures.items in
    subst (λ fs. OnOk c.push_fields.result (map formula_view c.push_fields.new.axioms ≡ map formula_view c.args.axioms.now ++ fs)) is c.push_fields.ensures
