-- The formulas that a goal is refuted from, in their order.
use Rattle.std.specs.Prelude.{List, [], ◌∷◌, ◌++◌}
use Rattle.rp_lang.specs.Programs.{Inv, Prog}
use Rattle.rp_logic.specs.Formulas.{Fm}
use Rattle.hist_struct.specs.Holding.{axioms}
use Rattle.goal_forms.specs.Claims.{denied}
use Rattle.goal_forms.specs.Moves.{none_committed, nobody_there}

-- That an invariant holds at the start: the axioms, nothing is there, and the invariant is false.
abbrev pub given_at_start : Prog → Inv → List Fm
given_at_start p claim = axioms p 0 0 ++ (none_committed ∷ nobody_there ∷ denied p claim ∷ [])
