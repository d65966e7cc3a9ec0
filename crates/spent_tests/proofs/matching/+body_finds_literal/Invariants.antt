use Rattle.std.proofs.Common.{◌≡◌, drop, length}
use Rattle.rp_logic.specs.Views.{formulas_view, term_view}
use Rattle.rp_logic.specs.Scopes.{scope_view}
use Rattle.refute_defs.specs.Same.{same_tm}
use Rattle.refute_branch.specs.Views.{branch_view}
use Rattle.spent_defs.specs.Atoms.{some_atom_of}
use Rattle.spent_defs.specs.Matching.{finds_literal}
use Rattle.spent_tests.proofs.matching.+body_finds_literal.Given as goal

abbrev pub invariant-some_body_finds_literal-loop-f : goal.invariant-some_body_finds_literal-loop-f
invariant-some_body_finds_literal-loop-f l =
    some_atom_of (finds_literal same_tm (branch_view l.b) (term_view l.t))
    (length (scope_view l.inner)) (formulas_view l.formulas)
    ≡ some_atom_of (finds_literal same_tm (branch_view l.b) (term_view l.t))
    (length (scope_view l.inner)) (formulas_view (drop l.f-index l.formulas))
