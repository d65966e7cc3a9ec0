use Rattle.std.proofs.Common.{◌≡◌, ◌+◌, List, drop, refl, sym, ap, ap₂, subst, ◌∙◌}
use Rattle.rp_ast.specs.declared.decl.Decl.{Decl}
use Rattle.rp_ast.specs.View.{decl_view, decls_view}
use Rattle.text_kinds.proofs.Walks.{rest_is}
use Rattle.text_names.proofs.Entries.{drop_past}
use Rattle.text_tables.specs.Seen.{tables_view}
use Rattle.text_tables.specs.declared.members.Members.{Members}
use Rattle.text_tables.specs.means.Rooted.{DeclaresRoots, roots_in, starting}
use Rattle.text_tables.proofs.RootsLaw.{declared_tables, roots_step}
use Rattle.text_tables.proofs.members.members_of.Goals as goal

pub loop-decl-init : goal.loop-decl-init
loop-decl-init c = λ new adds.
    let t = tables_view c.args.tables.now in
    let start : Members = record { ops = c.in_ok-ops.ops; queries = c.new.result } in
    let same : start ≡ starting = ap₂ (λ ops queries. record { ops = ops; queries = queries }) c.in_ok-ops.ensures c.new.ensures in
    subst (λ ms. DeclaresRoots t 0 (roots_in (decls_view c.args.decls.now)) ms new) same adds

pub loop-decl-preserved : goal.loop-decl-preserved
loop-decl-preserved c = λ new adds.
    let t = tables_view c.args.tables.now in
    let decls = c.args.decls.now in
    let i = c.loop-decl.decl-index in
    let k = c.loop-decl.root in
    let x = c.decl-item.result in
    let now = c.loop-decl.members in
    c.loop-decl.invariant new
    (subst (λ (xs : List Decl). DeclaresRoots t k (roots_in (decls_view xs)) now new) (sym (rest_is decls i x c.loop-decl-test.true c.decl-item.is))
    (roots_step t k c.in_ok-root.root (decl_view x) (decls_view (drop (i + 1) decls)) now c.add_decl.new.self new c.in_ok-add_decl.ensures
    (c.in_ok-root.ensures ∙ ap (λ m. k + m) c.root_count.ensures) adds))

pub returns-clause-ops : goal.returns-clause-ops
returns-clause-ops c =
    let t = tables_view c.args.tables.now in
    let decls = c.args.decls.now in
    let i = c.loop-decl.decl-index in
    (declared_tables t (decls_view decls) (roots_in (decls_view (drop i decls))) c.loop-decl.root c.loop-decl.members c.requires refl refl refl
    (ap (λ (xs : List Decl). roots_in (decls_view xs)) (drop_past decls i c.loop-decl-test.false)) c.loop-decl.invariant).0

pub returns-clause-queries : goal.returns-clause-queries
returns-clause-queries c =
    let t = tables_view c.args.tables.now in
    let decls = c.args.decls.now in
    let i = c.loop-decl.decl-index in
    (declared_tables t (decls_view decls) (roots_in (decls_view (drop i decls))) c.loop-decl.root c.loop-decl.members c.requires refl refl refl
    (ap (λ (xs : List Decl). roots_in (decls_view xs)) (drop_past decls i c.loop-decl-test.false)) c.loop-decl.invariant).1
