use Rattle.std.proofs.Common.{◌+◌, List, drop, sym, subst}
use Rattle.rp_ast.specs.declared.decl.Decl.{Decl}
use Rattle.rp_ast.specs.View.{decl_view, decls_view}
use Rattle.text_kinds.proofs.Walks.{rest_is}
use Rattle.text_names.proofs.Entries.{drop_past}
use Rattle.text_tables.specs.means.Counted.{crdts_in}
use Rattle.text_tables.specs.means.Walked.{AddsRoots}
use Rattle.text_tables.proofs.Adding.{from_nothing, roots_none, roots_step}
use Rattle.text_tables.proofs.object.ObjectTable.of.Goals as goal

pub loop-decl-init : goal.loop-decl-init
loop-decl-init c = λ new adds.
    from_nothing c.new-table.result new (crdts_in (decls_view c.args.decls.now)) c.new-table.ensures.objects c.new-table.ensures.ops c.new-table.ensures.queries
    c.new-table.ensures.roots adds

pub loop-decl-preserved : goal.loop-decl-preserved
loop-decl-preserved c = λ new adds.
    let decls = c.args.decls.now in
    let i = c.loop-decl.decl-index in
    let x = c.decl-item.result in
    let now = c.loop-decl.table in
    c.loop-decl.invariant new
    (subst (λ (xs : List Decl). AddsRoots now (crdts_in (decls_view xs)) new) (sym (rest_is decls i x c.loop-decl-test.true c.decl-item.is))
    (roots_step now c.add_decl.new.self new (decl_view x) (decls_view (drop (i + 1) decls)) c.in_ok-add_decl.ensures adds))

pub returns : goal.returns
returns c =
    let decls = c.args.decls.now in
    let now = c.loop-decl.table in
    c.loop-decl.invariant now
    (subst (λ (xs : List Decl). AddsRoots now (crdts_in (decls_view xs)) now)
    (sym (drop_past decls c.loop-decl.decl-index c.loop-decl-test.false)) (roots_none now))
