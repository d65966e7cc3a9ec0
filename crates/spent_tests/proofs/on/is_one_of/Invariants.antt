use Rattle.std.proofs.Common.{◌≡◌, drop, map}
use Rattle.std.specs.List.{list_any}
use Rattle.rp_logic.specs.Views.{formula_view}
use Rattle.spent_defs.specs.SameFormulas.{same_fm}
use Rattle.spent_tests.proofs.on.is_one_of.Given as goal

abbrev pub invariant-loop-g : goal.invariant-loop-g
invariant-loop-g l =
    list_any (same_fm (formula_view l.f)) (map formula_view l.formulas)
    ≡ list_any (same_fm (formula_view l.f)) (map formula_view (drop l.g-index l.formulas))
