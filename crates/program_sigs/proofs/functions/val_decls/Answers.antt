use Rattle.std.proofs.Common.{◌≤◌, List, length, map, filter, subst, ap, ◌∙◌}
use Rattle.std.proofs.lemmas.List.{take_all}
use Rattle.rp_lang.specs.declared.query.QueryDecl.{QueryDecl}
use Rattle.rp_lang.specs.ProgramView.{program_view}
use Rattle.rp_lang.specs.Typing.{is_get}
use Rattle.rp_symbols.specs.Signatures.{fn_of, sort_of}
use Rattle.program_sigs.proofs.Lists.{query_more}
use Rattle.program_sigs.proofs.functions.val_decls.Goals as goal

pub loop-query-preserved : goal.loop-query-preserved
loop-query-preserved c =
    let p = program_view c.args.p.now in
    let made = λ (query : QueryDecl). fn_of (map (sort_of p) query.args) (sort_of p query.result) in
    let test = λ (query : QueryDecl). is_get query.kind in
    query_more made test c.args.p.now.queries c.as_slice-query-items.result.now c.loop-query.query-index c.query-item.result c.loop-query.vals c.push_val.new.vals
    c.as_slice-query-items.ensures.items c.loop-query-test.true c.query-item.is c.loop-query.invariant c.in_ok-push_val.ensures

pub returns : goal.returns
returns c =
    let p = program_view c.args.p.now in
    let made = λ (query : QueryDecl). fn_of (map (sort_of p) query.args) (sort_of p query.result) in
    let test = λ (query : QueryDecl). is_get query.kind in
    let few : length c.args.p.now.queries ≤ c.loop-query.query-index = subst (λ (qs : List QueryDecl). length qs ≤ c.loop-query.query-index) c.as_slice-query-items.ensures.items c.loop-query-test.false in
    c.loop-query.invariant ∙ ap (λ (qs : List QueryDecl). map made (filter test qs)) (take_all c.loop-query.query-index c.args.p.now.queries few)
