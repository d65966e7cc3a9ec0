use Rattle.std.proofs.Common.{◌+◌, ◌++◌, List, [], ◌∷◌, drop, refl, sym, ap, subst, ◌∙◌}
use Rattle.std.proofs.lemmas.List.{append-nil}
use Rattle.rp_ast.specs.declared.decl.Decl.{Decl}
use Rattle.rp_ast.specs.View.{decl_view, decls_view}
use Rattle.text_kinds.proofs.Walks.{rest_is}
use Rattle.text_names.proofs.Entries.{drop_past}
use Rattle.text_tables.specs.means.Kept.{AreProcs, procs_in}
use Rattle.text_tables.proofs.ProcsLaw.{procs_none, procs_split}
use Rattle.text_tables.proofs.procs.ProcTable.of.Goals as goal

pub loop-decl-init : goal.loop-decl-init
loop-decl-init c = ([], procs_none c.new.result c.new.ensures, refl)

pub loop-decl-preserved : goal.loop-decl-preserved
loop-decl-preserved c =
    let decls = c.args.decls.now in
    let i = c.loop-decl.decl-index in
    let x = c.decl-item.result in
    let so_far = c.loop-decl.invariant in (
      so_far.0 ++ procs_in (decl_view x ∷ []),
      c.in_ok-add_decl.ensures so_far.0 so_far.1,
      procs_split so_far.0 (decl_view x) (decls_view (drop (i + 1) decls)) (decls_view decls)
          (ap (λ (xs : List Decl). so_far.0 ++ procs_in (decls_view xs)) (sym (rest_is decls i x c.loop-decl-test.true c.decl-item.is)) ∙ so_far.2),
    )

pub returns : goal.returns
returns c =
    let decls = c.args.decls.now in
    let so_far = c.loop-decl.invariant in
    let all = sym (append-nil so_far.0)
    ∙ ap (λ (xs : List Decl). so_far.0 ++ procs_in (decls_view xs)) (sym (drop_past decls c.loop-decl.decl-index c.loop-decl-test.false))
    ∙ so_far.2 in
    subst (λ ps. AreProcs ps c.loop-decl.table.numbers c.loop-decl.table.count) all so_far.1
