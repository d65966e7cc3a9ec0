use Rattle.std.proofs.Common.{◌≡◌}
use Rattle.rp_logic.specs.Views.{term_view, terms_view}
use Rattle.refute_defs.specs.Parts.{selections}
use Rattle.refute_rules.proofs.additions.selections.Given as goal

abbrev pub invariant-loop-i : goal.invariant-loop-i
invariant-loop-i l = terms_view l.made ≡ selections l.con 0 l.i (term_view l.t)
