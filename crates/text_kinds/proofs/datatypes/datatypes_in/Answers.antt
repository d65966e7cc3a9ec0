use Rattle.std.proofs.Common.{List, ◌∷◌, sym, ap, ◌∙◌}
use Rattle.rp_ast.specs.View.{decls_view}
use Rattle.type_rules.specs.declared.kind.Kind.{Kind}
use Rattle.type_rules.specs.Kinds.{bool_kind}
use Rattle.desugaring.specs.Appearances.{each_once}
use Rattle.text_names.specs.Declarations.{names_view}
use Rattle.text_kinds.specs.Numbered.{Numbered, numbered, with_kinds}
use Rattle.text_kinds.specs.means.Brought.{decls_bring}
use Rattle.text_kinds.proofs.BroughtLaw.{from_law}
use Rattle.text_kinds.proofs.EachOnce.{each_first}
use Rattle.text_kinds.proofs.datatypes.datatypes_in.Goals as goal

pub returns : goal.returns
returns c =
    let n = names_view c.args.names.now in
    let ds = decls_view c.args.decls.now in
    c.in_ok-decls.ensures
    ∙ ap (λ (t : Numbered). with_kinds (decls_bring t.names 0 ds) t) c.in_ok-seeker.ensures.kinds
    ∙ ap (numbered n) (each_first bool_kind (decls_bring n 0 ds) ∙ ap (λ (ks : List Kind). each_once (bool_kind ∷ ks))
    (sym (from_law n 0 0 ds)))
