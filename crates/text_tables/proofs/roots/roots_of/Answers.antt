use Rattle.std.proofs.Common.{◌+◌, ◌∷◌, [], List, drop, map, ap, ◌∙◌}
use Rattle.std.proofs.lemmas.List.Elements.{filter_map-append}
use Rattle.rp_ast.specs.declared.decl.Decl.{Decl}
use Rattle.rp_ast.specs.View.{decl_view, decls_view}
use Rattle.rp_lang.specs.Views.{root_view}
use Rattle.desugaring.specs.Objects.{Root, roots_of}
use Rattle.desugaring.specs.Parts.{each}
use Rattle.desugaring.specs.Tables.{root_of}
use Rattle.text_kinds.proofs.Walks.{rest_is}
use Rattle.text_names.proofs.Entries.{drop_past}
use Rattle.text_tables.specs.Seen.{tables_view}
use Rattle.text_tables.specs.means.Rooted.{root_in, roots_in}
use Rattle.text_tables.proofs.DeclaredLaw.{roots_are}
use Rattle.text_tables.proofs.Growing.{from_nothing, grown_end, grown_step}
use Rattle.text_tables.proofs.roots.roots_of.Goals as goal

pub loop-decl-preserved : goal.loop-decl-preserved
loop-decl-preserved c =
    let t = tables_view c.args.tables.now in
    let decls = c.args.decls.now in
    let i = c.loop-decl.decl-index in
    let x = c.decl-item.result in
    let rs : List Decl → List Root = λ xs. roots_in (decls_view xs) in
    grown_step (root_of t) [] (map root_view c.loop-decl.roots) (map root_view c.add_root.new.roots) (rs decls) (rs (drop i decls)) (rs (x ∷ [])) (rs (drop (i + 1) decls))
    c.loop-decl.invariant
    (ap rs (rest_is decls i x c.loop-decl-test.true c.decl-item.is) ∙ filter_map-append root_in (decl_view x ∷ []) (decls_view (drop (i + 1) decls)))
    c.in_ok-add_root.ensures

pub returns : goal.returns
returns c =
    let t = tables_view c.args.tables.now in
    let decls = c.args.decls.now in
    let i = c.loop-decl.decl-index in
    let rs : List Decl → List Root = λ xs. roots_in (decls_view xs) in
    ap (each (root_of t)) (ap roots_of c.requires ∙ roots_are (decls_view decls))
    ∙ from_nothing (root_of t) (rs decls) (map root_view c.loop-decl.roots)
    (grown_end (root_of t) [] (map root_view c.loop-decl.roots) (rs decls) (rs (drop i decls)) c.loop-decl.invariant (ap rs (drop_past decls i c.loop-decl-test.false)))
