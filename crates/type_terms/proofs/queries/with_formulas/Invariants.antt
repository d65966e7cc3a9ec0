use Rattle.std.proofs.Common.{◌≡◌, drop}
use Rattle.rp_ast.specs.View.{decls_view}
use Rattle.type_rules.specs.Queries as spec
use Rattle.text_names.specs.Declarations.{names_view}
use Rattle.type_terms.proofs.queries.with_formulas.Given as goal

abbrev pub invariant-loop-decl : goal.invariant-loop-decl
invariant-loop-decl l =
    spec.with_formulas (names_view l.names) (decls_view (drop l.decl-index l.decls))
    ≡ spec.with_formulas (names_view l.fn.names) (decls_view l.decls)
