use Rattle.std.proofs.Common.{sym, ◌∙◌, ap}
use Rattle.type_rules.specs.Queries as spec
use Rattle.text_names.specs.Declarations.{names_view}
use Rattle.type_terms.proofs.Found.{formulas_next}
use Rattle.type_terms.proofs.queries.with_formulas.Goals as goal

pub loop-decl-preserved : goal.loop-decl-preserved
loop-decl-preserved c =
    sym (formulas_next (names_view c.loop-decl.names) (names_view c.push_formula.new.self) c.args.decls.now c.loop-decl.decl-index
    c.decl-item.result c.loop-decl-test.true c.decl-item.is
    (c.in_ok-push_formula.ensures.ok ∙ ap (spec.with_flag (names_view c.loop-decl.names)) c.in_ok-flag.ensures))
    ∙ c.loop-decl.invariant
