-- A disjunction as a clause: its `all`s stand in front, and behind them parts that are no disjunctions.
use Rattle.rp_logic.specs.Formulas.{Fm, Fms, And, Or, All, Ex, Lit, no_fm, also_fm}
use Rattle.rp_logic.specs.Filling.{filled_in, filled_ins, behind}
use Rattle.reshape.specs.Joined.{joined}

-- these parts or the formula, whose `all`s stand in front
abbrev pub beside : Fms → Fm → Fm
beside fs (All s g) = All s (beside (filled_ins behind fs) g)
beside fs (Or gs) = Or (joined fs gs)
beside fs (And gs) = Or (joined fs (also_fm (And gs) no_fm))
beside fs (Ex s g) = Or (joined fs (also_fm (Ex s g) no_fm))
beside fs (Lit sign atom) = Or (joined fs (also_fm (Lit sign atom) no_fm))

-- one or the other, the `all`s of both in front
abbrev pub either : Fm → Fm → Fm
either (All s f) g = All s (either f (filled_in behind g))
either (Or fs) g = beside fs g
either (And fs) g = beside (also_fm (And fs) no_fm) g
either (Ex s f) g = beside (also_fm (Ex s f) no_fm) g
either (Lit sign atom) g = beside (also_fm (Lit sign atom) no_fm) g

-- any of the parts, the `all`s of each in front
abbrev pub clause : Fms → Fm
clause no_fm = Or no_fm
clause (also_fm f fs) = either f (clause fs)
