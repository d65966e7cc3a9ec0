use Rattle.std.proofs.Common.{◌≡◌, drop, map, length}
use Rattle.std.specs.List.{list_any}
use Rattle.rp_logic.specs.Views.{formula_view, term_view, atom_view}
use Rattle.rp_logic.specs.Scopes.{scope_view}
use Rattle.refute_defs.specs.Same.{same_tm}
use Rattle.spent_defs.specs.Matching.{is_literal_that, atom_fits}
use Rattle.spent_tests.proofs.matching.some_literal_fits.Given as goal

abbrev pub invariant-loop-f : goal.invariant-loop-f
invariant-loop-f l =
    list_any (is_literal_that (atom_fits same_tm (term_view l.t) (length (scope_view l.inner))
    (atom_view l.a))) (map formula_view l.formulas)
    ≡ list_any (is_literal_that (atom_fits same_tm (term_view l.t) (length (scope_view l.inner))
    (atom_view l.a))) (map formula_view (drop l.f-index l.formulas))
