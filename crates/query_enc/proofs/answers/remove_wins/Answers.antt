use Rattle.std.proofs.Common.{rules, ◌≡◌, [], ◌∷◌, true, ap, ap₂, ◌∙◌}
use Rattle.rp_lang.specs.ProgramView.{program_view}
use Rattle.rp_lang.specs.declared.op.OpKind.TheVariants as kind
use Rattle.rp_logic.specs.Formulas.{And, also_fm, no_fm}
use Rattle.rp_logic.specs.Terms.{Var}
use Rattle.rp_logic.specs.Views.{term_view, formula_view, formulas_view}
use Rattle.rp_logic.proofs.FormulaViews.{formula_view-And}
use Rattle.crdt_enc.specs.Builders.{one_fm, is_before}
use Rattle.crdt_enc.specs.QueryFormulas as spec
use Rattle.query_enc.specs.WayView.{way_view}
use Rattle.query_enc.proofs.Joins.{seen_one}
use Rattle.query_enc.proofs.answers.remove_wins.Goals as goal

pub returns : goal.returns
returns c =
    let own = term_view c.args.x.now ∷ [] in
    let alone : c.as_slice.result.now ≡ c.in_ok-is_before.field-0 ∷ [] = search (rules, c.as_slice.ensures.items, c.in_ok-later.ensures) in
    let later : formulas_view c.as_slice.result.now ≡ one_fm (is_before true (Var 1) (Var 0)) = seen_one _ _ _ alone c.in_ok-is_before.ensures in
    let each : c.as_slice-2.result.now ≡ c.in_ok-added.added ∷ [] = search (rules, c.as_slice-2.ensures.items, c.in_ok-rest.ensures) in
    let rest : formulas_view c.as_slice-2.result.now ≡ one_fm (spec.some_call (program_view c.args.p.now) c.args.view 1 (way_view c.args.way.now) (spec.is_kind kind.Add) own (one_fm (is_before true (Var 1) (Var 0)))) = seen_one _ _ _ each (c.in_ok-added.ensures ∙ ap (spec.some_call (program_view c.args.p.now) c.args.view 1 (way_view c.args.way.now) (spec.is_kind kind.Add) own) later) in
    let parts : formulas_view c.push-2.new.self ≡ also_fm (formula_view c.in_ok-some_of_kind.field-0) (also_fm (formula_view c.in_ok-each_of_kind.field-0) no_fm) = search (rules, c.in_ok-push.ensures.ok, c.in_ok-push-2.ensures.ok, c.new-parts.ensures) in
    let first : formula_view c.in_ok-some_of_kind.field-0 ≡ spec.some_call (program_view c.args.p.now) c.args.view 0 (way_view c.args.way.now) (spec.is_kind kind.Add) own no_fm = search (rules, c.in_ok-some_of_kind.ensures) in
    formula_view-And _ ∙ ap And (parts ∙ ap₂ (λ f g. also_fm f (also_fm g no_fm)) first (c.in_ok-each_of_kind.ensures ∙ ap (spec.each_call (program_view c.args.p.now) c.args.view 0 (way_view c.args.way.now) (spec.is_kind kind.Remove) own) rest))
