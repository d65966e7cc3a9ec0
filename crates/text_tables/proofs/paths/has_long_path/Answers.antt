use Rattle.std.proofs.Common.{◌+◌, ◌||◌, List, drop, sym, ap, ◌∙◌}
use Rattle.std.specs.List.{list_any}
use Rattle.rp_ast.specs.declared.decl.Decl.{Decl}
use Rattle.rp_ast.specs.View.{decl_view, decls_view}
use Rattle.text_kinds.proofs.Walks.{rest_is}
use Rattle.text_names.proofs.Entries.{drop_past}
use Rattle.text_tables.specs.means.Counted.{crdts_in}
use Rattle.text_tables.specs.means.Limited.{is_long_on}
use Rattle.text_tables.proofs.LongLaw.{decls_step, long_law}
use Rattle.text_tables.proofs.paths.has_long_path.Goals as goal

pub returns-then-long : goal.returns-then-long
returns-then-long c = λ n named.
    let decls = c.args.decls.now in
    let i = c.loop-decl.decl-index in
    let x = c.decl-item.result in
    let rest = list_any (is_long_on 0) (crdts_in (decls_view (drop (i + 1) decls))) in
    sym (long_law n (decls_view decls) named ∙ c.loop-decl.invariant
    ∙ ap (λ (xs : List Decl). list_any (is_long_on 0) (crdts_in (decls_view xs))) (rest_is decls i x c.loop-decl-test.true c.decl-item.is)
    ∙ decls_step (decl_view x) (decls_view (drop (i + 1) decls))
    ∙ ap (λ b. b || rest) (sym c.in_ok-long.ensures ∙ c.if-long.true))

pub returns : goal.returns
returns c = λ n named.
    let decls = c.args.decls.now in
    sym (long_law n (decls_view decls) named ∙ c.loop-decl.invariant
    ∙ ap (λ (xs : List Decl). list_any (is_long_on 0) (crdts_in (decls_view xs))) (drop_past decls c.loop-decl.decl-index c.loop-decl-test.false))
