use Rattle.std.proofs.Common.{◌≡◌, drop, map, option_map}
use Rattle.rp_logic.specs.Views.{term_view, terms_view}
use Rattle.refute_defs.specs.Children.{other_sides}
use Rattle.refute_branch.specs.Views.{branch_view}
use Rattle.refute_rules.proofs.Sides.{before}
use Rattle.refute_rules.proofs.congruences.other_sides.Given as goal

abbrev pub invariant-loop-i : goal.invariant-loop-i
invariant-loop-i l =
    other_sides (branch_view l.b) l.places (terms_view l.terms)
    ≡ option_map (before (map term_view l.sides))
    (other_sides (branch_view l.b) (drop l.i l.places) (terms_view (drop l.i l.terms)))
