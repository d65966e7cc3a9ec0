use Rattle.std.proofs.Common.{◌≡◌, ◌+◌, [], ◌∷◌, drop, Err, ap, sym, ◌∙◌, rules}
use Rattle.rp_ast.specs.View.{decl_view, decls_view}
use Rattle.text_kinds.proofs.Walks.{rest_is}
use Rattle.text_names.proofs.Entries.{drop_past}
use Rattle.lower_exprs.specs.declared.stop.Stop as code_stop
use Rattle.lower_exprs.specs.declared.stop.Stop.TheVariants as stop
use Rattle.resolve.specs.Adds.{IsTooLarge}
use Rattle.resolve.proofs.Declaring.{all_declared, all_large, ends_first, ends_large, ends_last, ends_more, failed, is_nothing, same_err, start_of}
use Rattle.resolve.proofs.decls.declare_all.Goals as goal

pub loop-decl-init : goal.loop-decl-init
loop-decl-init c = ends_first c.args.work (start_of c.new.result c.new-2.result) (decls_view c.args.decls.now)

pub returns-in_err-declare-clause-nodes : goal.returns-in_err-declare-clause-nodes
returns-in_err-declare-clause-nodes c invs procs wanted h =
    let decls = c.args.decls.now in
    let i = c.loop-decl.decl-index in
    let x = c.decl-item.result in
    let start = start_of c.new.result c.new-2.result in
    let err : c.from_residual.result ≡ Err c.in_err-declare.field-0.0 = search (rules, c.from_residual.ensures) in
    let is : failed (Unit {0}) c.in_err-declare.field-0.0 ≡ failed (Unit {0}) stop.Nodes = ap (λ (s : code_stop.Stop). Err s) (same_err _ _ (sym err ∙ h)) in
    let large : IsTooLarge c.args.work c.loop-decl.made (decl_view x ∷ []) = c.in_err-declare.ensures.nodes is in
    all_large c.args.work start (decls_view decls) (is_nothing c.new.result c.new-2.result c.new.ensures c.new-2.ensures)
    (ends_large c.args.work start c.loop-decl.made (decls_view decls) (decls_view (drop i decls)) (decl_view x) (decls_view (drop (i + 1) decls))
    c.loop-decl.invariant (ap decls_view (rest_is decls i x c.loop-decl-test.true c.decl-item.is)) large)
    invs procs wanted

pub loop-decl-preserved : goal.loop-decl-preserved
loop-decl-preserved c =
    let decls = c.args.decls.now in
    let i = c.loop-decl.decl-index in
    let x = c.decl-item.result in
    ends_more c.args.work (start_of c.new.result c.new-2.result) c.loop-decl.made c.declare.new.made
    (decls_view decls) (decls_view (drop i decls)) (decl_view x) (decls_view (drop (i + 1) decls))
    c.loop-decl.invariant (ap decls_view (rest_is decls i x c.loop-decl-test.true c.decl-item.is)) c.in_ok-declare.ensures.made

pub returns-clause-made : goal.returns-clause-made
returns-clause-made c =
    let decls = c.args.decls.now in
    let i = c.loop-decl.decl-index in
    let start = start_of c.new.result c.new-2.result in
    all_declared c.args.work start (decls_view decls) c.loop-decl.made
    (is_nothing c.new.result c.new-2.result c.new.ensures c.new-2.ensures)
    (ends_last c.args.work start c.loop-decl.made (decls_view decls) (decls_view (drop i decls)) c.loop-decl.invariant
    (ap decls_view (drop_past decls i c.loop-decl-test.false)))
