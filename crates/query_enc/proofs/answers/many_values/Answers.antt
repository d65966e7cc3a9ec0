use Rattle.std.proofs.Common.{rules, ◌≡◌, [], ◌∷◌, false, IfOk, subst, ap, ◌∙◌}
use Rattle.rp_lang.specs.ProgramView.{program_view}
use Rattle.rp_lang.specs.declared.op.OpKind.TheVariants as kind
use Rattle.rp_logic.specs.Terms.{Var}
use Rattle.rp_logic.specs.Views.{term_view, formula_view, formulas_view}
use Rattle.crdt_enc.specs.Builders.{one_fm, is_before}
use Rattle.crdt_enc.specs.QueryFormulas as spec
use Rattle.query_enc.specs.WayView.{way_view}
use Rattle.query_enc.proofs.Joins.{seen_one}
use Rattle.query_enc.proofs.answers.many_values.Goals as goal

pub returns : goal.returns
returns c =
    let own = term_view c.args.x.now ∷ [] in
    let alone : c.as_slice.result.now ≡ c.in_ok-is_before.field-0 ∷ [] = search (rules, c.as_slice.ensures.items, c.in_ok-later.ensures) in
    let later : formulas_view c.as_slice.result.now ≡ one_fm (is_before false (Var 1) (Var 0)) = seen_one _ _ _ alone c.in_ok-is_before.ensures in
    let each : c.as_slice-2.result.now ≡ c.in_ok-assigned.assigned ∷ [] = search (rules, c.as_slice-2.ensures.items, c.in_ok-rest.ensures) in
    let rest : formulas_view c.as_slice-2.result.now ≡ one_fm (spec.each_call (program_view c.args.p.now) c.args.view 1 (way_view c.args.way.now) (spec.is_kind kind.Assign) [] (one_fm (is_before false (Var 1) (Var 0)))) = seen_one _ _ _ each (c.in_ok-assigned.ensures ∙ ap (spec.each_call (program_view c.args.p.now) c.args.view 1 (way_view c.args.way.now) (spec.is_kind kind.Assign) []) later) in
    subst (λ r. IfOk c.some_of_kind.result (λ f. formula_view f ≡ spec.some_call (program_view c.args.p.now) c.args.view 0 (way_view c.args.way.now) (spec.is_kind kind.Assign) own r)) rest c.some_of_kind.ensures
