use Rattle.std.proofs.Common.{◌≡◌, drop, map}
use Rattle.std.specs.List.{list_any}
use Rattle.rp_logic.specs.Views.{formula_view, term_view}
use Rattle.spent_defs.specs.Conditions.{denies}
use Rattle.spent_tests.proofs.due.is_denied.Given as goal

abbrev pub invariant-loop-f : goal.invariant-loop-f
invariant-loop-f l =
    list_any (denies (term_view l.t)) (map formula_view l.formulas)
    ≡ list_any (denies (term_view l.t)) (map formula_view (drop l.f-index l.formulas))
