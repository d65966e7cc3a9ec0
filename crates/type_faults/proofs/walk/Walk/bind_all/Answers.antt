use Rattle.std.proofs.Common.{[], drop, refl, ap, ◌∙◌, subst}
use Rattle.std.specs.Option.{option_map_or}
use Rattle.rp_ast.specs.View.{idents_view}
use Rattle.type_rules.specs.Matches.{first_kind}
use Rattle.type_terms.specs.Views.{fields_of}
use Rattle.text_names.proofs.Entries.{drop_past}
use Rattle.type_faults.specs.Walks.{names_at}
use Rattle.type_faults.proofs.Bound.{BoundSo, bound_ended, bound_next, bound_started}
use Rattle.type_faults.proofs.Lists.{next_in}
use Rattle.type_faults.proofs.Walked.{same_names}
use Rattle.type_faults.proofs.walk.Walk.bind_all.Goals as goal

pub loop-place-init : goal.loop-place-init
loop-place-init c = λ later counted. bound_started {later = later} counted

pub loop-place-preserved : goal.loop-place-preserved
loop-place-preserved c = λ later counted.
    let a = c.args.self.now in
    let vars = c.args.vars.now in
    let place = c.loop-place.place in
    let var = c.index-vars-place.result in
    let kinds = option_map_or (fields_of (names_at a)) c.args.case [] in
    let before = c.loop-place.invariant later counted in
    let now = subst (λ rest. BoundSo later a c.loop-place.self c.loop-place.best place rest (idents_view vars) kinds)
    (next_in idents_view vars place var c.loop-place-test.true c.index-vars-place.is) before in
    bound_next now (c.in_ok-bind.ensures later before.walks.counted)
    (c.in_ok-kind.ensures ∙ ap (λ n. first_kind (drop place (option_map_or (fields_of n) c.args.case []))) (same_names before.walks))
    c.sooner-best.ensures refl

pub returns : goal.returns
returns c = λ later counted.
    let vars = c.args.vars.now in
    let v = c.loop-place.invariant later counted in
    bound_ended (λ n. option_map_or (fields_of n) c.args.case []) v
    (ap idents_view (drop_past vars c.loop-place.place c.loop-place-test.false))
