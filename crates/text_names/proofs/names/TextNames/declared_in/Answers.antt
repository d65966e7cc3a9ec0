use Rattle.std.proofs.Common.{◌≡◌, ap, ◌∙◌, Some, None, arith}
use Rattle.std.specs.List.{slice_get}
use Rattle.std.specs.Option.{option_map, unwrap_or}
use Rattle.std.proofs.lemmas.List.{length-map}
use Rattle.std.proofs.lemmas.Option.{slice_get-map}
use Rattle.rp_ast.specs.View.{decl_view, decls_view}
use Rattle.text_names.specs.Declarations.{names_view}
use Rattle.text_names.specs.Parts.{crdt_in}
use Rattle.text_names.proofs.Entries.{all_declared, declared_next, drop_past, nothing_declared}
use Rattle.text_names.proofs.names.TextNames.declared_in.Goals as goal

pub loop-number-init : goal.loop-number-init
loop-number-init c = λ h. nothing_declared (names_view c.new-names.result) (decls_view c.args.decls.now) c.new-names.ensures

pub loop-number-preserved : goal.loop-number-preserved
loop-number-preserved c = λ h.
    let decls = c.args.decls.now in
    let number = c.loop-number.number in
    let there : slice_get (decls_view decls) number ≡ Some (decl_view c.get.result.now) =
    slice_get-map decl_view decls number ∙ ap (option_map decl_view) c.get.ensures in
    declared_next (names_view c.loop-number.names) (names_view c.add_decl.new.self)
    number (decls_view decls) (decl_view c.get.result.now)
    (c.loop-number.invariant h) there
    (c.in_ok-add_decl.ensures
    (ap (λ roots. unwrap_or (slice_get roots number) None) h
    ∙ ap (λ o. unwrap_or o None) (slice_get-map crdt_in (decls_view decls) number ∙ ap (option_map crdt_in) there)))

pub returns : goal.returns
returns c = λ h.
    let tree = decls_view c.args.decls.now in
    all_declared (names_view c.loop-number.names) c.loop-number.number tree (c.loop-number.invariant h)
    (drop_past tree c.loop-number.number (omega (arith, length-map c.args.decls.now decl_view)))
